-- The rule of the built-in table: two tests over the whole table, computed once, and what they say.
use Rattle.std.proofs.Common.{◌≡◌, ℕ, ◌<◌, map, get_or, length, Some, option_map, sym, refl, ap, ◌∙◌, arith}
use Rattle.builtin.specs.Names.{filter_names, test_names, function_names}
use Rattle.builtin.specs.Table.{Row, Rule, built_ins, lookup}
use Rattle.std.proofs.lemmas.List.FromFn.{get_or-map-range_with_len}
use Rattle.std.proofs.lemmas.Option.{get_or_from_slice_get, slice_get-map, slice_get_within}
use Rattle.std.specs.List.{range_with_len, slice_get}

-- each row has its place for its number, and is answered with it
numbers : map (λ r. r.number) built_ins ≡ map (λ i. i) (range_with_len 0 56)
unfolding built_ins filter_names test_names function_names
numbers = refl

answers : map (λ r. lookup built_ins r.kind r.name) built_ins ≡ map Some (range_with_len 0 56)
unfolding built_ins filter_names test_names function_names
answers = refl

all : length built_ins ≡ 56
unfolding built_ins filter_names test_names function_names
all = refl

-- what such a test says of one row
at_place : {B : Type 0} (v : Row → B) (w : ℕ → B) → map v built_ins ≡ map w (range_with_len 0 56) → (i : ℕ) (r : Row) → slice_get built_ins i ≡ Some r → v r ≡ w i
at_place {B} v w h i r e =
    let within : i < 56 = omega (arith, all, slice_get_within built_ins i r e) in
    sym (get_or_from_slice_get (map v built_ins) i (v r) (w i) (slice_get-map v built_ins i ∙ ap (option_map v) e))
    ∙ ap (λ xs. get_or xs i (w i)) h
    ∙ get_or-map-range_with_len w 0 56 i i (w i) within (omega arith)

found : (i : ℕ) (r : Row) → slice_get built_ins i ≡ Some r → lookup built_ins r.kind r.name ≡ Some i
found = at_place (λ r. lookup built_ins r.kind r.name) Some answers

pub rule : Rule
unfolding filter_names test_names function_names
rule =
    record {
      filters = refl;
      tests = refl;
      functions = refl;
      all = all;
      running = at_place (λ r. r.number) (λ i. i) numbers;
      apart = λ i j r s d e k n. grind (arith, found i r d, found j s e);
      found = found;
    }
