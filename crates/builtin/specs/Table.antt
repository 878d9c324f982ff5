-- The table of the built-in names: what it holds, what it means, and its rule.
use Rattle.std.specs.Prelude.{◌≡◌, ℕ, ◌+◌, Bool, false, List, [], ◌∷◌, ◌++◌, length, Some, Option, find, option_map}
use Rattle.builtin.specs.declared.rows.Known.{Known}
use Rattle.builtin.specs.Names.{filter_names, test_names, function_names}
use Rattle.catalogue.specs.Meaning.{Meaning, same}
use Rattle.catalogue.specs.declared.kinds.Kind.{Kind}
use Rattle.catalogue.specs.declared.kinds.Kind.TheVariants.{Filter, Test, Function}
use Rattle.std.specs.List.{slice_get}

-- a row of the table
pub record Row : Type 0 where
  pub kind : Kind
  pub name : List ℕ
  pub number : ℕ

abbrev pub shown : Known → Row
shown k = record { kind = k.0; name = k.1.now; number = k.2 }

abbrev pub is_known : Row → Kind → List ℕ → Bool
is_known r k n = same r.kind r.name k n

-- names of one kind, numbered on from i
abbrev pub numbered : Kind → ℕ → List (List ℕ) → List Row
numbered k i [] = []
numbered k i (n ∷ ns) = record { kind = k; name = n; number = i } ∷ numbered k (i + 1) ns

unfoldable pub built_ins : List Row
built_ins = numbered Filter 0 filter_names ++ (numbered Test 37 test_names ++ numbered Function 54 function_names)

-- the number of the first row of a name
abbrev pub lookup : List Row → Kind → List ℕ → Option ℕ
lookup rs k n = option_map (λ r. r.number) (find (λ r. is_known r k n) rs)

-- the names have their numbers, none is held, and there are no places
abbrev pub builtin : Meaning
builtin = record { map = lookup built_ins; held = λ k n. false; places = 0 }

-- 37 filters, 17 tests, 2 functions; each number is its place, from 0 to 55; no name stands twice under one kind; so each has its own number
pub record Rule : Type 0 where
  pub filters : length filter_names ≡ 37
  pub tests : length test_names ≡ 17
  pub functions : length function_names ≡ 2
  pub all : length built_ins ≡ 56
  pub running : (i : ℕ) (r : Row) → slice_get built_ins i ≡ Some r → r.number ≡ i
  pub apart : (i j : ℕ) (r s : Row) → slice_get built_ins i ≡ Some r → slice_get built_ins j ≡ Some s → r.kind ≡ s.kind → r.name ≡ s.name → i ≡ j
  pub found : (i : ℕ) (r : Row) → slice_get built_ins i ≡ Some r → builtin.map r.kind r.name ≡ Some i
