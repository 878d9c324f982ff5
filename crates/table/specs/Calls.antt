-- What each call of a table answers and leaves. `c` is the rows' order, `key` what a row is found by.
use Rattle.std.specs.Prelude.{◌≡◌, ℕ, ◌+◌, ◌-◌, ◌^◌, ◌<◌, ◌≤◌, min, cond, ◌||◌, List, [], ◌++◌, length, take, is_some, is_ok, Some, None, Ok, Err, Option, Result, ◌≢◌, nat_lt, slice_index_or, slice_set}
use Rattle.std.specs.declared.cmp.Ordering.TheVariants.{Less, Equal, Greater}
use Rattle.std.specs.declared.cmp.Ordering.{Ordering}
use Rattle.std.specs.List.{insert, remove, slice_get}
use Rattle.std.specs.List.Sorted.{IsPartitionPoint}
use Rattle.std.specs.Option.{option_to_list}
use Rattle.table.specs.declared.ordered.Table.{Table}
use Rattle.table.specs.Held.{held}
use Rattle.table.specs.Order.{Ascending, Absent, at_key, insert_in, put_in, sorted}

-- a table that was just made for n rows
pub record Fresh {R : Type 0} (n : ℕ) (t : Table R) : Type 0 where
  pub rows : held t ≡ []
  pub limit : t.limit ≡ n
  pub came : t.came ≡ 0

-- the table t' has these rows, and else is as t was
pub record Becomes {R : Type 0} (t : Table R) (xs : List R) (t' : Table R) : Type 0 where
  pub rows : held t' ≡ xs
  pub limit : t'.limit ≡ t.limit
  pub came : t'.came ≡ t.came

-- Found: that row has the key. Not found: no row has it, where they stand in order.
abbrev pub Found : {X K : Type 0} → (X → X → Ordering) → (X → K) → List X → X → Option ℕ → Type 0
Found {X} c key xs x (Some i) = (i < length xs) × ((d : X) → key (slice_index_or xs i d) ≡ key x)
Found c key xs x None = Ascending c xs → Absent key xs x

-- The same with the place where a row belongs that was not found. Not found: among rows in order the place parts the lesser from the greater, and none has the key.
abbrev pub Searched : {X K : Type 0} → (X → X → Ordering) → (X → K) → List X → X → Result ℕ ℕ → Type 0
Searched {X} c key xs x (Ok i) = (i < length xs) × ((d : X) → key (slice_index_or xs i d) ≡ key x)
Searched c key xs x (Err i) =
    (i ≤ length xs) × (Ascending c xs → IsPartitionPoint (λ y. c y x ≡ Less) (λ y. c y x ≡ Greater) xs i × Absent key xs x)

-- the same limit, no rows, and none counted
pub record Cleared {R : Type 0} (t t' : Table R) : Type 0 where
  pub rows : held t' ≡ []
  pub limit : t'.limit ≡ t.limit
  pub came : t'.came ≡ 0

-- let in where there is room; else given back, with nothing altered
abbrev pub Inserts : {R : Type 0} → (R → R → Ordering) → Table R → R → Result (Unit {0}) R → Table R → Type 0
Inserts c t x (Ok u) t' = (length (held t) < t.limit) × Becomes t (insert_in c x (held t)) t'
Inserts c t x (Err y) t' = (y ≡ x) × (t.limit ≤ length (held t)) × Becomes t (held t) t'

-- One with the key gives its place to the new row. Where none has it, the row is let in, or given back by a full table.
abbrev pub Puts : {R K : Type 0} → (R → R → Ordering) → (R → K) → Table R → R → Result (Option R) R → Table R → Type 0
Puts c key t x (Ok (Some old)) t' =
    (i : ℕ) × (i < length (held t)) × (old ≡ slice_index_or (held t) i old) × (key old ≡ key x) × Becomes t (slice_set (held t) i x) t'
Puts {R} c key t x (Ok None) t' =
    (length (held t) < t.limit)
    × ((i : ℕ) × (i ≤ length (held t)) × Becomes t (insert (held t) i x) t')
    × (Ascending c (held t) → Absent key (held t) x × (held t' ≡ insert_in c x (held t)))
Puts c key t x (Err y) t' =
    (y ≡ x) × (t.limit ≤ length (held t)) × Becomes t (held t) t' × (Ascending c (held t) → Absent key (held t) x)

-- the same, where no two rows of the table tie: the answer and the rows by computing
pub record PutsExactly {R : Type 0} (c : R → R → Ordering) (t : Table R) (x : R) (r : Result (Option R) R) (t' : Table R) : Type 0 where
  pub answer : r ≡ cond (is_some (at_key c x (held t)) || nat_lt (length (held t)) t.limit) (Ok (at_key c x (held t))) (Err x)
  pub rows : held t' ≡ cond (is_ok r) (put_in c x (held t)) (held t)

-- the row at the place, and the others as they stood
abbrev pub Removes : {R : Type 0} → Table R → ℕ → Option R → Table R → Type 0
Removes t i None t' = (length (held t) ≤ i) × Becomes t (held t) t'
Removes t i (Some x) t' = (slice_get (held t) i ≡ Some x) × Becomes t (remove (held t) i) t'

-- the last row, if there is one, and the others as they stood
pub record TakesLast {R : Type 0} (t : Table R) (r : Option R) (t' : Table R) : Type 0 where
  pub rows : held t ≡ held t' ++ option_to_list r
  pub some : is_some r ≡ nat_lt 0 (length (held t))
  pub limit : t'.limit ≡ t.limit
  pub came : t'.came ≡ t.came

-- The table holds the first of the rows that came, in order, and has counted them (as far as its counter goes).
pub record Kept {R : Type 0} (c : R → R → Ordering) (all : List R) (t : Table R) : Type 0 where
  pub rows : held t ≡ take t.limit (sorted c all)
  pub came : t.came ≡ min (length all) (2 ^ 64 - 1)

-- one more row comes: the first rows stay, the one past the limit is given back
pub record Keeps {R : Type 0} (c : R → R → Ordering) (t : Table R) (x : R) (r : Option R) (t' : Table R) : Type 0 where
  pub rows : held t' ≡ take t.limit (insert_in c x (held t))
  pub whole : held t' ++ option_to_list r ≡ insert_in c x (held t)
  pub limit : t'.limit ≡ t.limit
  pub came : t'.came ≡ min (t.came + 1) (2 ^ 64 - 1)

-- Found: that row stands at the key. Not found: no row does, where they stand in order.
abbrev pub Finds : {X : Type 0} → (X → X → Ordering) → (X → Ordering) → List X → Option ℕ → Type 0
Finds {X} c stands xs (Some i) = (i < length xs) × ((d : X) → stands (slice_index_or xs i d) ≡ Equal)
Finds {X} c stands xs None = Ascending c xs → (i : ℕ) (d : X) → i < length xs → stands (slice_index_or xs i d) ≢ Equal
