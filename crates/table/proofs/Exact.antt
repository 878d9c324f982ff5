-- Where no two rows tie, what is put by key is what the definitions compute.
use Rattle.std.proofs.Common.{◌≡◌, ◌≢◌, ℕ, zero, suc, ◌<◌, List, [], ◌∷◌, length, get_or, set, Some, None, Err, Ordering, Less, Equal, sym, refl, ap, ◌∙◌, arith}
use Rattle.std.specs.List.{insert, All}
use Rattle.table.specs.declared.rows.Row.{Ghosts}
use Rattle.table.specs.Calls.{Searched}
use Rattle.table.specs.Order.{Strict, at_key, insert_in, put_in}
use Rattle.table.proofs.Orderly.{apart, ascending_from_strict}
use Rattle.table.proofs.Placing.{parted}
use Rattle.table.proofs.Seeking.{own_before}

module _ {X : Type 0} (c : X → X → Ordering) (x : X) where
  -- the row at i ties with x, and those before it are less
  pub tied : (xs : List X) (i : ℕ) (d : X) → i < length xs → c (get_or xs i d) x ≡ Equal → ((j : ℕ) → j < i → c (get_or xs j d) x ≡ Less) → (at_key c x xs ≡ Some (get_or xs i d)) × (put_in c x xs ≡ set xs i x)
  tied [] i d l e b = absurd (omega arith)
  tied (y ∷ ys) zero d l e b = (rw (e, at_key) refl, rw (e, put_in) refl)
  tied (y ∷ ys) (suc i) d l e b =
      let n = tied ys i d (omega arith) e (λ j h. b (suc j) (omega arith)) in
      let h = b 0 (omega arith) in
      (rw (h, at_key) n.0, rw (h, put_in) (ap (λ zs. y ∷ zs) n.1))

  pub none_tied : (xs : List X) → All (λ y. c y x ≢ Equal) xs → (at_key c x xs ≡ None) × (put_in c x xs ≡ insert_in c x xs)
  none_tied [] n = (refl, refl)
  none_tied (y ∷ ys) n =
      let m = n 0 y (omega arith) in
      let r = none_tied ys (λ i d l. n (suc i) d (omega arith)) in
      (grind arith, grind arith)

module _ {X : Type 0} (row : Ghosts X) (x : X) (xs : List X) (s : Strict row.compare xs) where
  -- the row at i has the key of x
  pub there : (i : ℕ) → (i < length xs) × ((d : X) → row.key (get_or xs i d) ≡ row.key x) → (at_key row.compare x xs ≡ Some (get_or xs i x)) × (put_in row.compare x xs ≡ set xs i x)
  there i h = let tie = row.keyed (get_or xs i x) x (h.1 x) in tied row.compare x xs i x h.0 tie (own_before row x xs s i x h.0 tie)

  -- none has it, and it belongs at i
  pub nowhere : (i : ℕ) → Searched row.compare row.key xs x (Err i) → (at_key row.compare x xs ≡ None) × (put_in row.compare x xs ≡ insert xs i x)
  nowhere i h =
      let a = h.1 (ascending_from_strict row.compare xs s) in
      let none = none_tied row.compare x xs (apart row x xs a.1) in
      (none.0, none.1 ∙ sym (parted row.compare x xs i a.0))
