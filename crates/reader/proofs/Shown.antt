-- The worked examples, by computing. Assumes nothing.
use Rattle.std.proofs.Common.{refl}
use lib.Utf8.{encode}
use Rattle.std.specs.Str.{chars}
use Rattle.reader.specs.Examples.{Examples}

pub examples : Examples
unfolding chars encode
examples = record { nothing = refl; taken = refl; left_open = refl; more = refl; cut = refl; line_zero = refl }
