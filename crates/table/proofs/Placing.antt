-- Where a row is let in: before the first that is greater. A search among rows in order ends there.
use Rattle.std.proofs.Common.{◌≡◌, ℕ, zero, suc, ◌+◌, cond, not, List, [], ◌∷◌, length, take, drop, true, false, Ordering, Less, Equal, Greater, Option, unwrap_or, refl, ap, ◌∙◌, arith}
use Rattle.std.proofs.lemmas.Bool.Decides.{nat_tests}
use Rattle.std.proofs.lemmas.List.Sums.{prefix_len-le-length}
use Rattle.std.specs.List.{insert, AllByRecursion, position, position_or_len}
use Rattle.std.specs.List.Sorted.{IsPartitionPoint}
use Rattle.std.specs.Ordering.{is_gt, is_le}
use Rattle.table.specs.Order.{insert_in}
use Rattle.table.proofs.Orderly.{every_drop, every_take}

module _ {X : Type 0} (c : X → X → Ordering) (x : X) where
  pub placed : (xs : List X) → insert xs (position_or_len (λ y. is_gt (c y x)) xs) x ≡ insert_in c x xs
  placed [] = refl
  placed (y ∷ ys) =
      let n = position_or_len (λ z. is_gt (c z x)) ys in
      let next : 1 + n ≡ suc n = omega arith in
      let after : insert (y ∷ ys) (1 + n) x ≡ y ∷ insert_in c x ys = ap (λ k. insert (y ∷ ys) k x) next ∙ ap (λ zs. y ∷ zs) (placed ys) in
      elim (c y x) as (λ r. insert (y ∷ ys) (cond (not (is_gt r)) (1 + n) 0) x ≡ cond (is_le r) (y ∷ insert_in c x ys) (x ∷ y ∷ ys)) [ Less ↦ after | Equal ↦ after | Greater ↦ refl ]

  -- the place as a program finds it
  pub placed_at : (xs : List X) (r : Option ℕ) → r ≡ position (λ y. is_gt (c y x)) xs → insert xs (unwrap_or r (length xs)) x ≡ insert_in c x xs
  placed_at xs r e =
      let within = prefix_len-le-length (λ y. not (is_gt (c y x))) xs in
      let at : unwrap_or r (length xs) ≡ position_or_len (λ y. is_gt (c y x)) xs = grind (arith, nat_tests) in
      rw at (placed xs)

  -- a place that parts the rows that are not greater from those that are
  pub insert_at : (i : ℕ) (xs : List X) → AllByRecursion (λ y. is_le (c y x) ≡ true) (take i xs) → AllByRecursion (λ y. is_le (c y x) ≡ false) (drop i xs) → insert xs i x ≡ insert_in c x xs
  insert_at zero [] h k = refl
  insert_at zero (y ∷ ys) h k = rw (k.0, insert_in) refl
  insert_at (suc i) [] h k = refl
  insert_at (suc i) (y ∷ ys) h k = rw (h.0, insert_in) (ap (λ zs. y ∷ zs) (insert_at i ys h.1 k))

  pub parted : (xs : List X) (i : ℕ) → IsPartitionPoint (λ y. c y x ≡ Less) (λ y. c y x ≡ Greater) xs i → insert xs i x ≡ insert_in c x xs
  parted xs i p =
      insert_at i xs (every_take (λ y. is_le (c y x) ≡ true) xs i x (λ k d b h. ap is_le (p.0 k d b h))) (every_drop (λ y. is_le (c y x) ≡ false) xs i x (λ k d b h. ap is_le (p.1 k d b h)))
