use Rattle.std.proofs.Common.{rules}
use Rattle.std.proofs.lemmas.Iterator.{YieldsList-from_slice}
use Rattle.std.proofs.lemmas.Iterator.Search.{position_from_yields_List}
use borrow.Author.Tests.{tests}
use Rattle.std.specs.Ordering.{is_gt}
use Rattle.table.specs.Held.{held}
use Rattle.table.proofs.Placing.{placed_at}
use Rattle.table.proofs.ordered.Table.place.Goals as goal

pub returns-clause-there : goal.returns-clause-there
returns-clause-there g c =
    let compare = g.R.Row.compare in
    let x = c.args.row.now in
    let xs = held c.args.self.now in
    let first = position_from_yields_List (λ y. is_gt (compare y x)) _ _ c.position.result c.position.ensures.ran (YieldsList-from_slice xs cc) (λ y b f k. search (rules, tests, g.met.R.Row.says)) in
    let there = placed_at compare x xs c.position.result first in
    search rules
