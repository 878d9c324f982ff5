use Rattle.reader.proofs.Shown.{examples}
use Rattle.reader.proofs.read.examples_are_read.Goals as goal

pub returns : goal.returns
returns c = examples
