use Rattle.std.proofs.Common.{sym, subst, rules}
use Rattle.table.specs.Held.{held}
use Rattle.table.specs.Order.{InOrder}
use Rattle.table.proofs.Orderly.{order_removed}
use Rattle.table.proofs.ordered.Table.remove.Goals as goal

pub returns-clause-order : goal.returns-clause-order
returns-clause-order g c = λ t o. subst (InOrder t) (sym c.remove.ensures.items) (order_removed t c.args.place (held c.args.self.now) (search rules) o)
