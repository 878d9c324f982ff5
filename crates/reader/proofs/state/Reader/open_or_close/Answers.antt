use Rattle.std.proofs.Common.{◌<◌, ap, ◌∙◌, arith}
use Rattle.record.specs.declared.command.Container.{Container}
use Rattle.reader.specs.declared.nest.Nest.{Nest}
use Rattle.reader.specs.Reading.{pushed}
use Rattle.reader.specs.Rows.{standing}
use Rattle.reader.proofs.Held.{rows_push}
use Rattle.reader.proofs.state.Reader.open_or_close.Goals as goal

pub returns-in-Open-clause-stands : goal.returns-in-Open-clause-stands
returns-in-Open-clause-stands c =
    let r = c.args.self.now in
    let row : Nest = record { container = c.container.result; opener = c.args.index; commands = 0 } in
    let room : r.depth < 16 = rw c.in-Open.is at c.requires in
    rw c.in-Open.is
    ((λ i. record { rows = rows_push r.depth r.nests row (omega (arith, room)) i; body = r.body })
    ∙ ap (λ (kind : Container). pushed kind c.args.index (standing r)) c.container.ensures)
