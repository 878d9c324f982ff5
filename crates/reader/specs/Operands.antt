-- The operands of a command, read from the bytes that follow its letter, and written again. Assumes nothing.
use Rattle.std.specs.Prelude.{ℕ, ◌+◌, ◌*◌, List, drop, slice_index}
use Rattle.text.specs.declared.part.Part.{Part}
use Rattle.text.specs.declared.span.Span.{Span}
use Rattle.record.specs.declared.command.Command.{Command}
use Rattle.record.specs.declared.command.Command.TheVariants.{Extends, Open, Refer, Variable, Text, Close, End}
use Rattle.record.specs.declared.command.Opener.TheVariants.{Block as block, PlainBlock as plain_block, Component as component}
use Rattle.record.specs.declared.letter.Letter.{Letter}
use Rattle.record.specs.declared.letter.Letter.TheVariants.{Extends as x, Block as B, PlainBlock as b, Component as C, Refer as refers, Variable as V, Text as W, Close as E, End as Z}

-- the number of two bytes that stands at place i, highest byte first
abbrev pub number : List ℕ → ℕ → ℕ
number bs i = slice_index bs i * 256 + slice_index bs (i + 1)

abbrev pub name_operand : List ℕ → Part
name_operand bs = record { start = number bs 0; len = slice_index bs 2 }

abbrev pub text_operand : List ℕ → Part
text_operand bs = record { start = number bs 0; len = number bs 2 }

abbrev pub span_operand : List ℕ → Span
span_operand bs = record { start_line = number bs 0; start_col = record { 0 = number bs 2 }; end_line = number bs 4; end_col = record { 0 = number bs 6 }; from = number bs 8; to = number bs 10 }

-- A span follows its name.
abbrev pub command_of : Letter → List ℕ → Command
command_of x bs = Extends (name_operand bs)
command_of B bs = Open (block (span_operand (drop 3 bs))) (name_operand bs)
command_of b bs = Open plain_block (name_operand bs)
command_of C bs = Open component (name_operand bs)
command_of (refers kind) bs = Refer kind (name_operand bs) (span_operand (drop 3 bs))
command_of V bs = Variable (name_operand bs)
command_of W bs = Text (text_operand bs)
command_of E bs = Close
command_of Z bs = End
