-- What keeps rows in order.
use Rattle.std.proofs.Common.{◌≡◌, ◌≢◌, ℕ, zero, suc, ◌+◌, ◌<◌, Bool, true, false, cond, List, [], ◌∷◌, ◌++◌, length, get_or, take, drop, set, Ordering, Less, Equal, sym, refl, ap, ◌∙◌, subst, arith}
use Rattle.std.proofs.lemmas.List.{get_or_append_left, get_or-drop, get_or-take, length-append, length-drop, length-take, take-append-drop}
use Rattle.std.proofs.lemmas.List.Elements.{All-cons, All-from_recursion, All-set, recursion_from_All}
use Rattle.std.proofs.lemmas.List.Quantifiers.{all_pairs_remove}
use Rattle.std.proofs.lemmas.List.Sorted.{All-permutation, IsPermutation-insert}
use Rattle.std.specs.List.{insert, remove, All, AllByRecursion, AllPairs, AllWithin}
use Rattle.std.specs.Cmp.{IsTotalOrder, alike_right, upto}
use Rattle.std.specs.Ordering.{is_le, is_lt, ordering_reverse}
use Rattle.table.specs.declared.rows.Row.{Ghosts}
use Rattle.table.specs.Order.{Absent, InOrder, Ascending, Strict, insert_in}

module _ {X : Type 0} (t : X → X → Bool) where
  -- rows in order pass the test two by two, and the other way round
  pub pairs : (xs : List X) → InOrder t xs → AllPairs (λ x y. t x y ≡ true) xs
  pairs [] o i j d h l = absurd (omega arith)
  pairs (x ∷ xs) o i zero d h l = absurd (omega arith)
  pairs (x ∷ xs) o zero (suc j) d h l = All-from_recursion (λ y. t x y ≡ true) xs o.0 j d (omega arith)
  pairs (x ∷ xs) o (suc i) (suc j) d h l = pairs xs o.1 i j d (omega arith) (omega arith)

  pub order_by : (xs : List X) → AllPairs (λ x y. t x y ≡ true) xs → InOrder t xs
  order_by [] p = tt
  order_by (x ∷ xs) p =
      (recursion_from_All (λ y. t x y ≡ true) xs (λ j d l. p 0 (suc j) d (omega arith) (omega arith)), order_by xs (λ i j d h l. p (suc i) (suc j) d (omega arith) (omega arith)))

  -- a row let in at a place that parts the rows before it from those after it
  pub order_inserted : (x : X) (i : ℕ) (xs : List X) → InOrder t xs → AllByRecursion (λ y. t y x ≡ true) (take i xs) → AllByRecursion (λ y. t x y ≡ true) (drop i xs) → InOrder t (insert xs i x)
  order_inserted x zero xs o h k = (k, o)
  order_inserted x (suc i) [] o h k = (tt, tt)
  order_inserted x (suc i) (y ∷ ys) o h k =
      let each = All-cons (λ z. t y z ≡ true) x ys h.0 (All-from_recursion (λ z. t y z ≡ true) ys o.0) in
      (recursion_from_All (λ z. t y z ≡ true) (insert ys i x) (All-permutation (λ z. t y z ≡ true) (x ∷ ys) (insert ys i x) (IsPermutation-insert ys i x) each), order_inserted x i ys o.1 h.1 k)

  pub order_removed : (i : ℕ) (xs : List X) → i < length xs → InOrder t xs → InOrder t (remove xs i)
  order_removed i xs l o = order_by (remove xs i) (all_pairs_remove (λ x y. t x y ≡ true) xs i l (pairs xs o))

  pub order_front : (xs ys zs : List X) → xs ≡ ys ++ zs → InOrder t xs → InOrder t ys
  order_front xs ys zs e o =
      order_by ys
      (λ i j d h l.
      let both = pairs (ys ++ zs) (subst (InOrder t) e o) i j d h (omega (arith, length-append ys zs)) in
      rw (get_or_append_left ys zs d i (omega arith), get_or_append_left ys zs d j l) at both)

pub order_weaker : {X : Type 0} (t u : X → X → Bool) → ((x y : X) → t x y ≡ true → u x y ≡ true) → (xs : List X) → InOrder t xs → InOrder u xs
order_weaker t u w xs o = order_by u xs (λ i j d h l. w (get_or xs i d) (get_or xs j d) (pairs t xs o i j d h l))

pub ascending_from_strict : {X : Type 0} (c : X → X → Ordering) (xs : List X) → Strict c xs → Ascending c xs
ascending_from_strict c xs s = order_weaker (λ x y. is_lt (c x y)) (λ x y. is_le (c x y)) (λ x y h. grind arith) xs s

-- what holds of each row of a part holds of the part
pub every_take : {X : Type 0} (P : X → Type 0) (xs : List X) (i : ℕ) (d : X) → AllWithin P xs 0 i → AllByRecursion P (take i xs)
every_take P xs i d h =
    recursion_from_All P (take i xs) (λ k e l. let below : k < i = omega (arith, length-take i xs) in rw (get_or-take i xs k e below) (h k e (omega arith) below))

pub every_drop : {X : Type 0} (P : X → Type 0) (xs : List X) (i : ℕ) (d : X) → AllWithin P xs i (length xs) → AllByRecursion P (drop i xs)
every_drop P xs i d h = recursion_from_All P (drop i xs) (λ k e l. rw (get_or-drop i xs k e) (h (i + k) e (omega arith) (omega (arith, length-drop i xs))))

-- ---- a row x that is let in passes the test with the first row that is greater, and so with the rest
module _ {X : Type 0} (c : X → X → Ordering) (t : X → X → Bool) (x : X) (passes : (y : X) → is_le (c y x) ≡ false → t x y ≡ true) (chains : (y z : X) → t x y ≡ true → t y z ≡ true → t x z ≡ true) where
  pub all_in : (P : X → Type 0) (xs : List X) → P x → AllByRecursion P xs → AllByRecursion P (insert_in c x xs)
  all_in P [] p h = (p, tt)
  all_in P (y ∷ ys) p h = elim (is_le (c y x)) as (λ b. AllByRecursion P (cond b (y ∷ insert_in c x ys) (x ∷ y ∷ ys))) [ true ↦ (h.0, all_in P ys p h.1) | false ↦ (p, h) ]

  pub order_in : (xs : List X) → All (λ y. is_le (c y x) ≡ true → t y x ≡ true) xs → InOrder t xs → InOrder t (insert_in c x xs)
  order_in [] b o = (tt, tt)
  order_in (y ∷ ys) b o =
      elim (is_le (c y x)) as (λ q. is_le (c y x) ≡ q → InOrder t (cond q (y ∷ insert_in c x ys) (x ∷ y ∷ ys))) [
        | true ↦ λ e. (all_in (λ z. t y z ≡ true) ys (b 0 y (omega arith) e) o.0, order_in ys (λ k d l. b (suc k) d (omega arith)) o.1)
        | false ↦ λ e. ((passes y e, recursion_from_All (λ z. t x z ≡ true) ys (λ k d l. chains y (get_or ys k d) (passes y e) (All-from_recursion (λ z. t y z ≡ true) ys o.0 k d l))), o)
      ] refl

-- an order is total by its answers
abbrev pub total_by : {X : Type 0} (c : X → X → Ordering) → ((x y : X) → c x y ≡ ordering_reverse (c y x)) → ((x y z : X) → c x y ≡ Less → c y z ≡ Less → c x z ≡ Less) → ((x y z : X) → c x y ≡ Equal → c x z ≡ c y z) → IsTotalOrder c
total_by c flip trans alike = record { antisymm = flip; trans = trans; congr = alike }

-- a row's order is, from what each `impl` of `Row` proves
pub total : {X : Type 0} (row : Ghosts X) → IsTotalOrder row.compare
total row = total_by row.compare row.flip row.trans row.alike

-- ---- two answers, one of them turned round
pub not_greater : (a b : Ordering) → a ≡ ordering_reverse b → is_le b ≡ true → is_lt a ≡ false
not_greater a b e h = grind arith

pub le_turned : (a b : Ordering) → a ≡ ordering_reverse b → is_le b ≡ false → is_le a ≡ true
le_turned a b e h = grind arith

pub le_total : {X : Type 0} {R : X → X → Ordering} (o : IsTotalOrder R) → (x y : X) → is_le (R x y) ≡ false → is_le (R y x) ≡ true
le_total {R = R} o x y h = le_turned (R y x) (R x y) (o.antisymm y x) h

module _ {X : Type 0} (row : Ghosts X) (x : X) where
  less : (y : X) → is_le (row.compare y x) ≡ false → row.compare x y ≡ Less
  less y h = let e = row.flip x y in grind arith

  pub ascending_in : (xs : List X) → Ascending row.compare xs → Ascending row.compare (insert_in row.compare x xs)
  ascending_in xs a =
      order_in row.compare (λ y z. is_le (row.compare y z)) x (λ y h. le_total (total row) y x h) (λ y z h k. grind (arith, upto (total row) x y z)) xs (λ k d l e. e) a

  pub ascending_cut : (n : ℕ) (xs : List X) → Ascending row.compare xs → Ascending row.compare (take n (insert_in row.compare x xs))
  ascending_cut n xs a =
      let ys = insert_in row.compare x xs in
      order_front (λ y z. is_le (row.compare y z)) ys (take n ys) (drop n ys) (sym (take-append-drop n ys)) (ascending_in xs a)

  -- where no row has the key of x, none ties with it
  pub apart : (xs : List X) → Absent row.key xs x → All (λ y. row.compare y x ≢ Equal) xs
  apart xs n k d l e = n k d l (row.ties (get_or xs k d) x e)

  pub strict_in : (xs : List X) → Absent row.key xs x → Strict row.compare xs → Strict row.compare (insert_in row.compare x xs)
  strict_in xs n s =
      order_in row.compare (λ y z. is_lt (row.compare y z)) x (λ y h. ap is_lt (less y h)) (λ y z h k. grind (arith, row.trans x y z)) xs
      (λ k d l e. let m = apart xs n k d l in grind arith) s

  -- a row that ties with the one at i takes its place
  pub order_set : (f : Ordering → Bool) (i : ℕ) (d : X) (xs : List X) → i < length xs → row.compare (get_or xs i d) x ≡ Equal → InOrder (λ y z. f (row.compare y z)) xs → InOrder (λ y z. f (row.compare y z)) (set xs i x)
  order_set f i d [] l e a = absurd (omega arith)
  order_set f zero d (y ∷ ys) l e a =
      (recursion_from_All (λ z. f (row.compare x z) ≡ true) ys (λ k d l. ap f (sym (row.alike y x (get_or ys k d) e)) ∙ All-from_recursion (λ z. f (row.compare y z) ≡ true) ys a.0 k d l), a.1)
  order_set f (suc i) d (y ∷ ys) l e a =
      let each = All-from_recursion (λ z. f (row.compare y z) ≡ true) ys a.0 in
      let here = ap f (sym (alike_right (total row) (get_or ys i d) x y e)) ∙ each i d (omega arith) in
      (recursion_from_All (λ z. f (row.compare y z) ≡ true) (set ys i x) (All-set (λ z. f (row.compare y z) ≡ true) ys i x here each), order_set f i d ys (omega arith) e a.1)

  pub order_put : (f : Ordering → Bool) (i : ℕ) (xs : List X) → (i < length xs) × ((d : X) → row.key (get_or xs i d) ≡ row.key x) → InOrder (λ y z. f (row.compare y z)) xs → InOrder (λ y z. f (row.compare y z)) (set xs i x)
  order_put f i xs h = order_set f i x xs h.0 (row.keyed (get_or xs i x) x (h.1 x))
