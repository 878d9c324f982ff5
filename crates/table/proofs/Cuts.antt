-- The first of the rows that came: a cut list takes one more row as the whole would.
use Rattle.std.proofs.Common.{◌≡◌, ℕ, zero, suc, ◌+◌, ◌-◌, ◌^◌, ◌≤◌, min, true, false, cond, List, [], ◌∷◌, ◌++◌, length, take, Ordering, sym, refl, ap, ◌∙◌, arith}
use Rattle.std.proofs.lemmas.List.{length_push, take_at, take-take}
use Rattle.std.proofs.lemmas.List.Edits.{insert-append_left, length-insert}
use Rattle.std.specs.List.{insert}
use Rattle.std.specs.Ordering.{is_le}
use Rattle.table.specs.declared.ordered.Table.{Table}
use Rattle.table.specs.Calls.{Kept}
use Rattle.table.specs.Held.{held}
use Rattle.table.specs.Order.{insert_in, laid, sorted}

module _ {X : Type 0} (c : X → X → Ordering) where
  pub cut_in : (n : ℕ) (x : X) (xs : List X) → take n (insert_in c x (take n xs)) ≡ take n (insert_in c x xs)
  cut_in zero x xs = refl
  cut_in (suc n) x [] = refl
  cut_in (suc n) x (y ∷ ys) =
      elim (is_le (c y x)) as (λ b. take (suc n) (cond b (y ∷ insert_in c x (take n ys)) (x ∷ y ∷ take n ys)) ≡ take (suc n) (cond b (y ∷ insert_in c x ys) (x ∷ y ∷ ys)))
      [ true ↦ ap (λ zs. y ∷ zs) (cut_in n x ys) | false ↦ ap (λ zs. x ∷ zs) (take-take n (suc n) (y ∷ ys) (omega arith)) ]

  laid_push : (xs ys : List X) (y : X) → laid c xs (ys ++ y ∷ []) ≡ insert_in c y (laid c xs ys)
  laid_push xs [] y = refl
  laid_push xs (z ∷ ys) y = laid_push (insert_in c z xs) ys y

  -- one more row comes to a table that kept the first
  pub kept_more : (all : List X) (x : X) (t t' : Table X) → held t' ≡ take t.limit (insert_in c x (held t)) → t'.limit ≡ t.limit → t'.came ≡ min (t.came + 1) (2 ^ 64 - 1) → Kept c all t → Kept c (all ++ x ∷ []) t'
  kept_more all x t t' rows limit came k =
      record {
        rows = rw (limit, laid_push [] all x) (rows ∙ ap (λ zs. take t.limit (insert_in c x zs)) k.rows ∙ cut_in t.limit x (sorted c all));
        came = omega (arith, length_push all x);
      }

-- the last row makes room for the one that is let in
pub driven : {X : Type 0} (n i : ℕ) (x : X) (xs ys zs os : List X) → xs ≡ zs ++ os → i ≤ length zs → length zs + 1 ≡ n → insert xs i x ≡ ys → (insert zs i x ≡ take n ys) × (insert zs i x ++ os ≡ ys)
driven n i x xs ys zs os p l f e =
    let whole : insert zs i x ++ os ≡ ys = sym (insert-append_left zs os i x l) ∙ ap (λ ws. insert ws i x) (sym p) ∙ e in
    (sym (ap (take n) (sym whole) ∙ take_at (insert zs i x) os n (omega (arith, length-insert zs i x l))), whole)
