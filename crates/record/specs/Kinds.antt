-- What a command is, whatever its operands. Assumes nothing.
use Rattle.std.specs.Prelude.{Bool, true, false, Some, None, Option}
use Rattle.text.specs.declared.part.Part.{Part}
use Rattle.text.specs.declared.span.Span.{Span}
use Rattle.record.specs.declared.command.Command.{Command}
use Rattle.record.specs.declared.command.Command.TheVariants.{Extends, Open, Refer, Variable, Text, Close, End}
use Rattle.record.specs.declared.command.Container.{Container}
use Rattle.record.specs.declared.command.Container.TheVariants.{Block as in_block, Component as in_component}
use Rattle.record.specs.declared.command.Opener.{Opener}
use Rattle.record.specs.declared.command.Opener.TheVariants.{Block as block, PlainBlock as plain_block, Component as component}
use Rattle.record.specs.declared.letter.Letter.{Letter}
use Rattle.record.specs.declared.letter.Letter.TheVariants.{Extends as X, Block as B, PlainBlock as b, Component as C, Refer as refers, Variable as V, Text as W, Close as E, End as Z}

-- the part of the source that a command names or places
abbrev pub part_of : Command → Option Part
part_of (Extends p) = Some p
part_of (Open o p) = Some p
part_of (Refer k p s) = Some p
part_of (Variable p) = Some p
part_of (Text p) = Some p
part_of Close = None
part_of End = None

abbrev pub opener_span : Opener → Option Span
opener_span (block s) = Some s
opener_span plain_block = None
opener_span component = None

abbrev pub span_of : Command → Option Span
span_of (Extends p) = None
span_of (Open o p) = opener_span o
span_of (Refer k p s) = Some s
span_of (Variable p) = None
span_of (Text p) = None
span_of Close = None
span_of End = None

abbrev pub container_of : Opener → Container
container_of (block s) = in_block
container_of plain_block = in_block
container_of component = in_component

-- the container that a command opens, and its name
abbrev pub opens : Command → Option (Container × Part)
opens (Extends p) = None
opens (Open o p) = Some (container_of o, p)
opens (Refer k p s) = None
opens (Variable p) = None
opens (Text p) = None
opens Close = None
opens End = None

abbrev pub is_end : Command → Bool
is_end (Extends p) = false
is_end (Open o p) = false
is_end (Refer k p s) = false
is_end (Variable p) = false
is_end (Text p) = false
is_end Close = false
is_end End = true

abbrev pub opener_letter : Opener → Letter
opener_letter (block s) = B
opener_letter plain_block = b
opener_letter component = C

abbrev pub letter_of : Command → Letter
letter_of (Extends p) = X
letter_of (Open o p) = opener_letter o
letter_of (Refer k p s) = refers k
letter_of (Variable p) = V
letter_of (Text p) = W
letter_of Close = E
letter_of End = Z
