-- A key among rows in order: how each row stands to it.
use Rattle.std.proofs.Common.{◌≡◌, ◌≢◌, ℕ, zero, suc, ◌+◌, ◌<◌, ◌≤◌, true, List, [], ◌∷◌, length, get_or, Some, None, Ok, Err, Option, Result, Ordering, Less, Equal, Greater, sym, refl, ap, ◌∙◌, ⊎_elim, arith}
use Rattle.std.proofs.lemmas.Bool.{cases_lt}
use Rattle.std.proofs.lemmas.List.{get_or_read}
use Rattle.std.proofs.lemmas.List.Sorted.{IsNonDecreasingBy-from_all_adjacent}
use Rattle.std.specs.Cmp.{alike_right}
use Rattle.std.specs.Ordering.{is_le, is_lt, ordering_index}
use Rattle.std.specs.List.{All, AllWithin}
use Rattle.std.specs.List.Sorted.{IsBinarySearchResult, IsNonDecreasingBy, IsPartitionPoint, IsSearchInRange}
use Rattle.table.specs.Calls.{Finds, Found, Searched}
use Rattle.table.specs.Order.{Ascending, Strict, seek}
use Rattle.table.specs.declared.rows.Row.{Ghosts}
use Rattle.table.proofs.Orderly.{apart, ascending_from_strict, pairs, total}

module _ {X : Type 0} (stands : X → Ordering) where
  -- among rows that are parted in two, none stands at the key
  pub none_at : (xs : List X) (i : ℕ) → IsPartitionPoint (λ y. stands y ≡ Less) (λ y. stands y ≡ Greater) xs i → All (λ y. stands y ≢ Equal) xs
  none_at xs i p k d l e = ⊎_elim (λ h. let q = p.0 k d (omega arith) h in cc) (λ h. let q = p.1 k d h l in cc) (cases_lt k i)

  pub seek_there : (xs : List X) (k i : ℕ) (d : X) → i < length xs → stands (get_or xs i d) ≡ Equal → ((j : ℕ) → j < i → stands (get_or xs j d) ≡ Less) → seek stands k xs ≡ Some (k + i)
  seek_there [] k i d l e b = absurd (omega arith)
  seek_there (y ∷ ys) k zero d l e b = rw (e, seek) (ap Some (omega arith))
  seek_there (y ∷ ys) k (suc i) d l e b =
      rw (b 0 (omega arith), seek) (seek_there ys (k + 1) i d (omega arith) e (λ j h. b (suc j) (omega arith)) ∙ ap Some (omega arith))

  pub seek_nowhere : (xs : List X) (k : ℕ) → All (λ y. stands y ≢ Equal) xs → seek stands k xs ≡ None
  seek_nowhere [] k n = refl
  seek_nowhere (y ∷ ys) k n =
      let m = n 0 y (omega arith) in
      let r = seek_nowhere ys (k + 1) (λ i d l. n (suc i) d (omega arith)) in
      grind arith

module _ {X : Type 0} (c : X → X → Ordering) (stands : X → Ordering) (rises : (x y : X) → is_le (c x y) ≡ true → ordering_index (stands x) ≤ ordering_index (stands y)) where
  pub climbs : (xs : List X) → Ascending c xs → IsNonDecreasingBy (λ y. ordering_index (stands y)) xs
  climbs xs a =
      IsNonDecreasingBy-from_all_adjacent (λ y. ordering_index (stands y)) xs
      (λ k d l. rises (get_or xs k d) (get_or xs (k + 1) d) (pairs (λ x y. is_le (c x y)) xs a k (k + 1) d (omega arith) l))

  -- as the row at m stands, so do those before it, or those after it
  module _ (xs : List X) (m : ℕ) (y : X) (l : m < length xs) (is : y ≡ get_or xs m y) (a : Ascending c xs) where
    pub all_less : stands y ≡ Less → AllWithin (λ z. stands z ≡ Less) xs 0 (m + 1)
    all_less e k d b h = let up = climbs xs a k m d (omega arith) l in let at = get_or_read xs m y l is d in grind arith

    pub all_greater : stands y ≡ Greater → AllWithin (λ z. stands z ≡ Greater) xs m (length xs)
    all_greater e k d b h = let up = climbs xs a m k d b h in let at = get_or_read xs m y l is d in grind arith

  module _ (one : (x y : X) → stands x ≡ Equal → stands y ≡ Equal → c x y ≡ Equal) where
    -- where no two rows tie, the rows before the one at the key are less
    pub before : (xs : List X) → Strict c xs → (i : ℕ) (d : X) → i < length xs → stands (get_or xs i d) ≡ Equal → (j : ℕ) → j < i → stands (get_or xs j d) ≡ Less
    before xs s i d l e j h =
        let y = get_or xs j d in
        let z = get_or xs i d in
        let lt = pairs (λ x y. is_lt (c x y)) xs s j i d h l in
        grind (arith, rises y z, one y z)

    -- so the place is the one that the definition computes
    pub found_exact : (xs : List X) (r : Option ℕ) → Finds c stands xs r → Strict c xs → r ≡ seek stands 0 xs
    found_exact [] (Some i) h s = absurd (omega arith)
    found_exact (y ∷ ys) (Some i) h s = sym (seek_there stands (y ∷ ys) 0 i y h.0 (h.1 y) (before (y ∷ ys) s i y h.0 (h.1 y)) ∙ ap Some (omega arith))
    found_exact xs None h s = sym (seek_nowhere stands xs 0 (h (ascending_from_strict c xs s)))

-- ---- a row stands for its own key

module _ {X : Type 0} (row : Ghosts X) (x : X) where
  own_rises : (y z : X) → is_le (row.compare y z) ≡ true → ordering_index (row.compare y x) ≤ ordering_index (row.compare z x)
  own_rises y z h = grind (arith, row.trans y z x, row.alike y z x, alike_right (total row) z x y)

  own_one : (y z : X) → row.compare y x ≡ Equal → row.compare z x ≡ Equal → row.compare y z ≡ Equal
  own_one y z p q = alike_right (total row) z x y q ∙ p

  pub own_before : (xs : List X) → Strict row.compare xs → (i : ℕ) (d : X) → i < length xs → row.compare (get_or xs i d) x ≡ Equal → (j : ℕ) → j < i → row.compare (get_or xs j d) x ≡ Less
  own_before = before row.compare (λ y. row.compare y x) own_rises own_one

  pub searched : (xs : List X) (r : Result ℕ ℕ) → IsSearchInRange r (length xs) → IsBinarySearchResult (λ y. row.compare y x) xs r → Searched row.compare row.key xs x r
  searched xs (Ok i) b h = (b, λ d. row.ties (get_or xs i d) x (h d))
  searched xs (Err i) b h =
      (b, λ a. let p = h (climbs row.compare (λ y. row.compare y x) own_rises xs a) in (p, λ k d l e. none_at (λ y. row.compare y x) xs i p k d l (row.keyed (get_or xs k d) x e)))

  pub own_exact : (xs : List X) (r : Option ℕ) → Found row.compare row.key xs x r → Strict row.compare xs → r ≡ seek (λ y. row.compare y x) 0 xs
  own_exact xs (Some i) h = found_exact row.compare (λ y. row.compare y x) own_rises own_one xs (Some i) (h.0, λ d. row.keyed (get_or xs i d) x (h.1 d))
  own_exact xs None h = found_exact row.compare (λ y. row.compare y x) own_rises own_one xs None (λ a. apart row x xs (h a))
