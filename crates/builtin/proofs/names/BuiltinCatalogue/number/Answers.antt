use Rattle.std.proofs.Common.{◌≡◌, ℕ, List, [], ◌∷◌, map, find, option_map, refl, arith, rules, tests}
use Rattle.builtin.specs.declared.rows.Known.{Known}
use Rattle.builtin.specs.Table.{is_known, lookup, shown}
use Rattle.catalogue.specs.declared.kinds.Kind.{Kind}
use Rattle.std.proofs.lemmas.Iterator.{YieldsList-from_slice}
use Rattle.std.proofs.lemmas.Iterator.Search.{find_from_yields_List}
use Rattle.builtin.proofs.names.BuiltinCatalogue.number.Goals as goal

lookup-shown : (rows : List Known) (k : Kind) (n : List ℕ) → lookup (map shown rows) k n ≡ option_map (λ r. r.2) (find (λ r. is_known (shown r) k n) rows)
lookup-shown [] k n = refl
lookup-shown (r ∷ rows) k n = grind (arith, lookup-shown rows k n)

pub returns : goal.returns
returns c =
    let rows = c.known.result.now in
    let first : option_map (λ r. r.now) c.find.result ≡ find (λ r. is_known (shown r) c.args.kind c.args.name.now) rows =
    find_from_yields_List (λ r. is_known (shown r) c.args.kind c.args.name.now) _ _ c.find.result c.find.ensures.ran (YieldsList-from_slice rows cc) (λ x b q k. search (rules, tests)) in
    let number : c.map.result ≡ option_map (λ r. r.now.2) c.find.result = search rules in
    grind (arith, lookup-shown rows c.args.kind c.args.name.now)
