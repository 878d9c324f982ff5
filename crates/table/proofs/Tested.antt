-- Rows in order, as a ghost field of a struct that holds a table may state it: by the fact, which has one proof at most, or by the test.
use Rattle.std.proofs.Common.{◌≡◌, Bool, true, List, [], ◌∷◌, refl}
use Rattle.std.proofs.lemmas.Bool.{and_from, and_parts}
use Rattle.std.proofs.lemmas.List.Elements.{All-from_recursion, recursion_from_All}
use Rattle.std.proofs.lemmas.List.Sums.{AllPass-from_list_all, list_all-from_AllPass}
use Rattle.std.specs.List.{list_all, AllByRecursion, AllByRecursion-prop}
use Rattle.std.specs.Coded.{×_prop, Unit-prop}
use Rattle.std.specs.Ordering.{is_lt}
use Rattle.std.specs.declared.cmp.Ordering.{Ordering}
use Rattle.std.proofs.Math.Bool.{Bool-set}
use Rattle.table.specs.Order.{InOrder, Strict, in_order}

pub order_prop : {X : Type 0} (t : X → X → Bool) (xs : List X) → IsProp (InOrder t xs)
order_prop t [] = Unit-prop
order_prop t (x ∷ xs) = ×_prop (AllByRecursion-prop (λ y. t x y ≡ true) (λ y. Bool-set (t x y) true) xs) (order_prop t xs)

pub strict_prop : {X : Type 0} (c : X → X → Ordering) (xs : List X) → IsProp (Strict c xs)
strict_prop c xs = order_prop (λ x y. is_lt (c x y)) xs

all_from_pass : {X : Type 0} (p : X → Bool) (xs : List X) → list_all p xs ≡ true → AllByRecursion (λ y. p y ≡ true) xs
all_from_pass p xs h = recursion_from_All (λ y. p y ≡ true) xs (AllPass-from_list_all p xs h)

pass_from_all : {X : Type 0} (p : X → Bool) (xs : List X) → AllByRecursion (λ y. p y ≡ true) xs → list_all p xs ≡ true
pass_from_all p xs h = list_all-from_AllPass p xs (All-from_recursion (λ y. p y ≡ true) xs h)

pub order_from_test : {X : Type 0} (t : X → X → Bool) (xs : List X) → in_order t xs ≡ true → InOrder t xs
order_from_test t [] h = tt
order_from_test t (x ∷ xs) h =
    let q = and_parts (list_all (t x) xs) (in_order t xs) h in
    (all_from_pass (t x) xs q.0, order_from_test t xs q.1)

pub test_from_order : {X : Type 0} (t : X → X → Bool) (xs : List X) → InOrder t xs → in_order t xs ≡ true
test_from_order t [] o = refl
test_from_order t (x ∷ xs) o = and_from (list_all (t x) xs) (in_order t xs) (pass_from_all (t x) xs o.0) (test_from_order t xs o.1)
