use Rattle.std.proofs.Common.{rules}
use Rattle.table.specs.Held.{held}
use Rattle.table.proofs.Seeking.{own_exact}
use Rattle.table.proofs.ordered.Table.search.Goals as goal

pub returns-clause-exact : goal.returns-clause-exact
returns-clause-exact g c = own_exact g.R.Row c.args.row.now (held c.args.self.now) _ (search rules)
