use Rattle.table.proofs.Sorting.{sorted_sorts}
use Rattle.table.proofs.keeping.firsts.Goals as goal

pub returns-clause-sorts : goal.returns-clause-sorts
returns-clause-sorts g c = sorted_sorts g.R.Row c.args.rows.now
