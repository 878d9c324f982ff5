-- A list of commands, written out as a record. Assumes nothing.
use Rattle.std.specs.Prelude.{ℕ, ◌/◌, ◌%◌, List, [], ◌∷◌, ◌++◌}
use Rattle.text.specs.declared.part.Part.{Part}
use Rattle.text.specs.declared.span.Span.{Span}
use Rattle.record.specs.declared.command.Command.{Command}
use Rattle.record.specs.declared.command.Command.TheVariants.{Extends, Open, Refer, Variable, Text, Close, End}
use Rattle.record.specs.declared.command.Opener.{Opener}
use Rattle.record.specs.declared.command.Opener.TheVariants.{Block as block, PlainBlock as plain_block, Component as component}
use Rattle.record.specs.Kinds.{letter_of}
use Rattle.record.specs.Letters.{letter_byte}

-- a number of two bytes, highest byte first
abbrev pub two : ℕ → List ℕ
two n = n / 256 ∷ n % 256 ∷ []

abbrev pub written_name : Part → List ℕ
written_name p = two p.start ++ (p.len ∷ [])

abbrev pub written_text : Part → List ℕ
written_text p = two p.start ++ two p.len

abbrev pub written_span : Span → List ℕ
written_span s = two s.start_line ++ (two s.start_col.0 ++ (two s.end_line ++ (two s.end_col.0 ++ (two s.from ++ two s.to))))

abbrev pub written_opener : Opener → List ℕ
written_opener (block s) = written_span s
written_opener plain_block = []
written_opener component = []

abbrev pub written_operands : Command → List ℕ
written_operands (Extends p) = written_name p
written_operands (Open o p) = written_name p ++ written_opener o
written_operands (Refer k p s) = written_name p ++ written_span s
written_operands (Variable p) = written_name p
written_operands (Text p) = written_text p
written_operands Close = []
written_operands End = []

abbrev pub written : List Command → List ℕ
written [] = []
written (c ∷ cs) = letter_byte (letter_of c) ∷ (written_operands c ++ written cs)
