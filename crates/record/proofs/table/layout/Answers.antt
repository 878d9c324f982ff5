use Rattle.record.proofs.Lookup.{table_rule}
use Rattle.record.proofs.table.layout.Goals as goal

pub returns-clause-rule : goal.returns-clause-rule
returns-clause-rule c = table_rule
