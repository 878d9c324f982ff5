use Rattle.std.proofs.Common.{rules, tests, arith, ◌≡◌, ◌==◌, cond}
use Rattle.std.proofs.lemmas.Iterator.{YieldsList-from_map, YieldsList-from_slice}
use Rattle.std.proofs.lemmas.Iterator.Consumers.{fits_by_from_yields_list}
use Rattle.std.proofs.lemmas.List.Splits.{length-slice_split}
use Rattle.std.proofs.lemmas.List.Sums.{count_by-le-length}
use Rattle.text.specs.Lines.{breaks}
use Rattle.text.proofs.lines.line_count.Goals as goal

pub sum-found-requires-clause-fits : goal.sum-found-requires-clause-fits
sum-found-requires-clause-fits c =
    let source = c.args.source.now in
    fits_by_from_yields_list (λ b. cond (b == 10) 1 0) source c.map.result _ (YieldsList-from_map _ (λ b. cond (b == 10) 1 0) (YieldsList-from_slice source cc) c.map.ensures.closure (λ x r q k. search (rules, tests))) (omega (arith, count_by-le-length (λ b. b == 10) source))

pub overflow_add-result : goal.overflow_add-result
overflow_add-result c =
    let count : c.sum-found.result ≡ breaks c.args.source.now = search rules in
    omega (arith, count_by-le-length (λ b. b == 10) c.args.source.now)

pub returns-clause-lines : goal.returns-clause-lines
returns-clause-lines c =
    let count : c.sum-found.result ≡ breaks c.args.source.now = search rules in
    omega (arith, length-slice_split (λ b. b == 10) c.args.source.now)
