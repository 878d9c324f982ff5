use Rattle.std.proofs.Common.{refl}
use Rattle.builtin.specs.Names.{filter_names, test_names, function_names}
use Rattle.builtin.specs.Table.{built_ins}
use Rattle.builtin.proofs.Ruled.{rule}
use Rattle.builtin.proofs.names.known.Goals as goal

pub returns : goal.returns
unfolding built_ins filter_names test_names function_names
returns c = record { rows = refl; rule = rule }
