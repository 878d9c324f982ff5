-- Rows in order. `c` is the order: what `cmp` answers of two rows.
--     Ascending c xs       no row stands before a lesser one; rows that tie may stand together
--     Strict c xs          each row is less than those after it, so that none tie
--     insert_in c x xs     x let in among xs: after the rows that are not greater, before the rest
--     laid c xs new        the rows of new let in among xs, one after another
--     sorted c xs          the whole list in order; rows that tie keep the order in which they came (`Sorts` says so)
use Rattle.std.specs.Prelude.{◌≡◌, ℕ, ◌+◌, ◌<◌, Bool, true, cond, ◌&&◌, List, [], ◌∷◌, length, Some, None, filter, Option, ◌≢◌, slice_index_or}
use Rattle.std.specs.declared.cmp.Ordering.TheVariants.{Less, Equal, Greater}
use Rattle.std.specs.declared.cmp.Ordering.{Ordering}
use Rattle.std.specs.Ordering.{is_eq, is_le, is_lt}
use Rattle.std.specs.List.Sorted.{IsPermutation}
use Rattle.std.specs.List.{list_all, AllByRecursion}

-- each row passes the test with every later one
abbrev pub InOrder : {X : Type 0} → (X → X → Bool) → List X → Type 0
InOrder t [] = Unit {0}
InOrder t (x ∷ xs) = AllByRecursion (λ y. t x y ≡ true) xs × InOrder t xs

-- the same as a test, for a ghost field of a struct that holds a table
abbrev pub in_order : {X : Type 0} → (X → X → Bool) → List X → Bool
in_order t [] = true
in_order t (x ∷ xs) = list_all (t x) xs && in_order t xs

abbrev pub Ascending : {X : Type 0} → (X → X → Ordering) → List X → Type 0
Ascending c xs = InOrder (λ x y. is_le (c x y)) xs

abbrev pub Strict : {X : Type 0} → (X → X → Ordering) → List X → Type 0
Strict c xs = InOrder (λ x y. is_lt (c x y)) xs

abbrev pub insert_in : {X : Type 0} → (X → X → Ordering) → X → List X → List X
insert_in c x [] = x ∷ []
insert_in c x (y ∷ ys) = cond (is_le (c y x)) (y ∷ insert_in c x ys) (x ∷ y ∷ ys)

abbrev pub laid : {X : Type 0} → (X → X → Ordering) → List X → List X → List X
laid c xs [] = xs
laid c xs (y ∷ ys) = laid c (insert_in c y xs) ys

abbrev pub sorted : {X : Type 0} → (X → X → Ordering) → List X → List X
sorted c xs = laid c [] xs

-- ys is the whole of xs in order, and rows that tie stand as they came
pub record Sorts {X : Type 0} (c : X → X → Ordering) (xs ys : List X) : Type 0 where
  pub ordered : Ascending c ys
  pub shuffled : IsPermutation xs ys
  pub stable : (x : X) → filter (λ y. is_eq (c y x)) ys ≡ filter (λ y. is_eq (c y x)) xs

-- ---- by key, among rows in order of which none tie

-- the place of the row that stands at a key, where the first row has the place i; `stands` tells how a row stands to the key
abbrev pub seek : {X : Type 0} → (X → Ordering) → ℕ → List X → Option ℕ
seek stands i [] = None
seek stands i (y ∷ ys) = elim (stands y) [ Less ↦ seek stands (i + 1) ys | Equal ↦ Some i | Greater ↦ None ]

-- the row that ties with x
abbrev pub at_key : {X : Type 0} → (X → X → Ordering) → X → List X → Option X
at_key c x [] = None
at_key c x (y ∷ ys) = elim (c y x) [ Less ↦ at_key c x ys | Equal ↦ Some y | Greater ↦ None ]

-- x in the place of the row that ties with it, or let in
abbrev pub put_in : {X : Type 0} → (X → X → Ordering) → X → List X → List X
put_in c x [] = x ∷ []
put_in c x (y ∷ ys) = elim (c y x) [ Less ↦ y ∷ put_in c x ys | Equal ↦ x ∷ ys | Greater ↦ x ∷ y ∷ ys ]

-- no row of xs has the key of x
abbrev pub Absent : {X K : Type 0} → (X → K) → List X → X → Type 0
Absent {X} key xs x = (i : ℕ) (d : X) → i < length xs → key (slice_index_or xs i d) ≢ key x
