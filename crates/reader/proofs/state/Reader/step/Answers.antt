use Rattle.std.proofs.Common.{length, Err, refl, ap, ◌∙◌, arith}
use Rattle.std.proofs.lemmas.Result.{err_from_is_err_and}
use Rattle.std.proofs.lemmas.Bool.{ltb-false}
use Rattle.reader.specs.Reading.{after}
use Rattle.reader.specs.Questions.{Standing}
use Rattle.reader.proofs.Stepping.{Upcoming, refused_operands, refused_place, stepped}
use Rattle.reader.proofs.state.Reader.step.Goals as goal
use Rattle.reader.proofs.state.Reader.step.Goals.{After-check}

upcoming : (c : After-check) → Upcoming c.args.self.now c.in-Some.layout c.command-command.result
upcoming c = record {
  some = omega (arith, ltb-false);
  row = c.in-Some.ensures.row;
  complete = c.in-Some-get.ensures.lookup.0.0;
  is = c.command-command.ensures;
}

pub returns-in_err-check : goal.returns-in_err-check
returns-in_err-check c =
    let p = err_from_is_err_and c.from_residual.result c.from_residual.ensures.1 in
    refused_operands _ _ _ _ (upcoming (goal.at.returns-in_err-check c).After-check) _ _ _ (p.1 ∙ ap Err p.2) c.in_err-check.ensures refl

pub returns-in_err-admit : goal.returns-in_err-admit
returns-in_err-admit c =
    let p = err_from_is_err_and c.from_residual-in_err-admit.result c.from_residual-in_err-admit.ensures.1 in
    refused_place _ _ _ _ (upcoming (goal.at.returns-in_err-admit c).After-check) _ _ _ (p.1 ∙ ap Err p.2) c.in_ok-check.ensures c.in_err-admit.ensures refl

pub returns : goal.returns
returns c =
    let first = c.count.ensures in
    let then = c.open_or_close.ensures in
    let turned : Standing → Standing = λ s. after (length c.args.before.now) s c.command-command.result in
    let left = c.in-Some-get.ensures.lookup.0 in
    stepped _ _ _ _ (upcoming (goal.at.returns c).After-check) _ _ c.here-entry.ensures c.in_ok-check.ensures c.in_ok-admit.ensures.0
    (then.stands ∙ ap turned first.stands)
    record { source = then.moved.source ∙ first.moved.source; bytes = then.moved.bytes ∙ first.moved.bytes; rest = then.moved.rest ∙ first.moved.rest ∙ left.2 }
