use Rattle.std.proofs.Common.{vec_items}
use Rattle.std.specs.Option.{option_to_list}
use Rattle.table.specs.Held.{held}
use Rattle.table.proofs.Orderly.{order_front}
use Rattle.table.proofs.ordered.Table.take_last.Goals as goal

pub returns-clause-order : goal.returns-clause-order
returns-clause-order g c = λ t o. order_front t (held c.args.self.now) (vec_items c.pop.new.self) (option_to_list c.pop.result) c.pop.ensures.items o
