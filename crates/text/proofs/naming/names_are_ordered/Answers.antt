use Rattle.text.proofs.Ordered.{names_in_order}
use Rattle.text.proofs.naming.names_are_ordered.Goals as goal

pub returns : goal.returns
returns c = names_in_order
