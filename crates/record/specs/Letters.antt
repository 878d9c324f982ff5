-- The thirteen commands: the byte of each, and how many bytes its operands take. Assumes nothing.
use Rattle.std.specs.Prelude.{◌≡◌, ℕ, ◌+◌, cond, List, [], ◌∷◌, length, Some, None, Option, ◌==◌}
use Rattle.std.specs.Option.{option_map}
use Rattle.record.specs.declared.letter.Layout.{Layout}
use Rattle.record.specs.declared.letter.Letter.{Letter}
use Rattle.record.specs.declared.letter.Letter.TheVariants.{Extends, Block, PlainBlock, Component, Refer, Variable, Text, Close, End}
use Rattle.record.specs.declared.letter.Reference.{Reference}
use Rattle.record.specs.declared.letter.Reference.TheVariants.{Filter, Test, Function, Component as component, Include}

-- the byte of a reference: F, T, U, K, I
abbrev pub reference_byte : Reference → ℕ
reference_byte Filter = 70
reference_byte Test = 84
reference_byte Function = 85
reference_byte component = 75
reference_byte Include = 73

-- the byte of a letter: X, B, b, C, the references, V, W, E, Z
abbrev pub letter_byte : Letter → ℕ
letter_byte Extends = 88
letter_byte Block = 66
letter_byte PlainBlock = 98
letter_byte Component = 67
letter_byte (Refer kind) = reference_byte kind
letter_byte Variable = 86
letter_byte Text = 87
letter_byte Close = 69
letter_byte End = 90

-- A name is two bytes of start and one of length; a text two bytes of each; a span six numbers of two bytes.
abbrev pub layout_of : Letter → Layout
layout_of Extends = record { byte = letter_byte Extends; letter = Extends; name = 3; text = 0; span = 0 }
layout_of Block = record { byte = letter_byte Block; letter = Block; name = 3; text = 0; span = 12 }
layout_of PlainBlock = record { byte = letter_byte PlainBlock; letter = PlainBlock; name = 3; text = 0; span = 0 }
layout_of Component = record { byte = letter_byte Component; letter = Component; name = 3; text = 0; span = 0 }
layout_of (Refer kind) = record { byte = reference_byte kind; letter = Refer kind; name = 3; text = 0; span = 12 }
layout_of Variable = record { byte = letter_byte Variable; letter = Variable; name = 3; text = 0; span = 0 }
layout_of Text = record { byte = letter_byte Text; letter = Text; name = 0; text = 4; span = 0 }
layout_of Close = record { byte = letter_byte Close; letter = Close; name = 0; text = 0; span = 0 }
layout_of End = record { byte = letter_byte End; letter = End; name = 0; text = 0; span = 0 }

-- how many bytes of operands follow the command's byte
abbrev pub width : Letter → ℕ
width l = (layout_of l).name + (layout_of l).text + (layout_of l).span

abbrev pub letters : List Letter
letters = Extends ∷ Block ∷ PlainBlock ∷ Component ∷ Refer Filter ∷ Refer Test ∷ Refer Function ∷ Refer component ∷ Refer Include ∷ Variable ∷ Text ∷ Close ∷ End ∷ []

-- the letter of a byte, looked for among these
abbrev pub letter_in : ℕ → List Letter → Option Letter
letter_in b [] = None
letter_in b (l ∷ ls) = cond (letter_byte l == b) (Some l) (letter_in b ls)

-- what a byte stands for, if it is a command's
abbrev pub letter_at : ℕ → Option Letter
letter_at b = letter_in b letters

abbrev pub layout_at : ℕ → Option Layout
layout_at b = option_map layout_of (letter_at b)

-- The rule of the table: thirteen letters, each under a byte of its own.
pub record Rule : Type 0 where
  pub thirteen : length letters ≡ 13
  pub own : (l : Letter) → letter_at (letter_byte l) ≡ Some l
  pub found : (b : ℕ) (l : Letter) → letter_at b ≡ Some l → letter_byte l ≡ b
