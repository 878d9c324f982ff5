use Rattle.std.proofs.Common.{arith}
use Rattle.reader.proofs.Held.{counted_inner}
use Rattle.reader.proofs.state.Reader.count.Goals as goal

pub returns-in-Some-clause-stands : goal.returns-in-Some-clause-stands
returns-in-Some-clause-stands c =
    let r = c.args.self.now in
    counted_inner r.depth c.in-Some.inner r.nests r.body (omega (arith, c.in-Some.ensures)) (omega (arith, r.room))
