use Rattle.std.proofs.Common.{◌∙◌}
use Rattle.table.specs.Held.{held}
use Rattle.table.proofs.Orderly.{ascending_in, strict_in}
use Rattle.table.proofs.Sorting.{same_in}
use Rattle.table.proofs.ordered.Table.insert.Goals as goal

pub returns-clause-same : goal.returns-clause-same
returns-clause-same g c = λ _. rw (c.put.ensures.rows ∙ c.place-place.ensures.there) (same_in g.R.Row.compare c.args.row (held c.args.self.now))

pub returns-clause-ascending : goal.returns-clause-ascending
returns-clause-ascending g c = rw (c.put.ensures.rows ∙ c.place-place.ensures.there) (ascending_in g.R.Row c.args.row (held c.args.self.now))

pub returns-clause-strict : goal.returns-clause-strict
returns-clause-strict g c = λ s n. rw (c.put.ensures.rows ∙ c.place-place.ensures.there) (strict_in g.R.Row c.args.row (held c.args.self.now) n s)
