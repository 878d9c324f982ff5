use Rattle.std.proofs.Common.{◌≡◌, suc, sym, ap, ◌∙◌, arith}
use Rattle.std.specs.List.{slice_get}
use Rattle.std.proofs.lemmas.Iterator.Consumers.{nth_from_yields_List}
use Rattle.std.proofs.lemmas.Iterator.Splits.{YieldsList-from_str_split}
use Rattle.text.specs.Lines.{line_at, lines}
use Rattle.text.proofs.lines.line.Goals as goal

pub returns : goal.returns
returns c =
    let source = c.args.source.now in
    let below = c.in_ok-checked_sub.field-0 in
    let n : c.args.n ≡ suc below = grind arith in
    let cut = c.split.ensures in
    let parts = YieldsList-from_str_split 10 source (omega arith) cut.text cut.has_more cut.pattern in
    let told = nth_from_yields_List c.nth.result _ _ c.nth.ensures.ran parts in
    told ∙ ap (λ k. slice_get (lines source) k) (omega arith) ∙ ap (line_at source) (sym n)
