use Rattle.std.proofs.Common.{arith}
use Rattle.reader.proofs.Held.{length_rows}
use Rattle.reader.proofs.state.Reader.admit.Goals as goal

pub returns-else-self-ge-DEEPEST : goal.returns-else-self-ge-DEEPEST
returns-else-self-ge-DEEPEST c =
    let r = c.args.self.now in
    let may = rw (c.stands.ensures, c.container-kind.ensures) at c.may_open.ensures in
    let known = rw (c.container-kind.ensures, c.bytes.ensures) at c.declared.ensures in
    let deep = length_rows r.depth r.nests in
    let few = c.if-self-ge-DEEPEST.false in
    rw c.in-Open-default.is-0 (grind (arith, may, known, deep), omega (arith, few))
