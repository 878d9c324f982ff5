-- What a template refers to. Assumes nothing.
use Rattle.std.specs.Prelude.{ℕ, Bool, true, false, cond, ◌&&◌, List, [], ◌∷◌, Some, None, codes, position, Option}
use Rattle.std.specs.Str.{bytes_eq}
use Rattle.text.specs.Texts.{part_bytes}
use Rattle.text.specs.declared.part.Part.{Part}
use Rattle.record.specs.Kinds.{opens}
use Rattle.record.specs.Openers.{opens_named}
use Rattle.record.specs.declared.command.Command.{Command}
use Rattle.record.specs.declared.command.Command.TheVariants.{Extends, Open, Refer, Variable, Text, Close, End}
use Rattle.record.specs.declared.command.Container.{Container}
use Rattle.record.specs.declared.letter.Reference.{Reference}
use Rattle.record.specs.declared.letter.Reference.TheVariants.{Filter, Test, Function, Component, Include}
use Rattle.chunks.specs.declared.call.Call.{Call}

abbrev pub is_function : Reference → Bool
is_function Filter = false
is_function Test = false
is_function Function = true
is_function Component = false
is_function Include = false

-- a call of the function named `super`
abbrev pub is_super : List ℕ → Command → Bool
is_super source (Extends p) = false
is_super source (Open o p) = false
is_super source (Refer kind name span) = is_function kind && bytes_eq (part_bytes source name) (codes "super")
is_super source (Variable p) = false
is_super source (Text p) = false
is_super source Close = false
is_super source End = false

abbrev pub referred : Command → Option Call
referred (Extends p) = None
referred (Open o p) = None
referred (Refer kind name span) = Some record { kind = kind; name = name; span = span }
referred (Variable p) = None
referred (Text p) = None
referred Close = None
referred End = None

-- a filter, test, function, component or template that the command refers to; super is no such function
abbrev pub call_of : List ℕ → Command → Option Call
call_of source c = cond (is_super source c) None (referred c)

abbrev pub variable_of : Command → Option Part
variable_of (Extends p) = None
variable_of (Open o p) = None
variable_of (Refer kind name span) = None
variable_of (Variable p) = Some p
variable_of (Text p) = None
variable_of Close = None
variable_of End = None

abbrev pub extended : Command → Option Part
extended (Extends p) = Some p
extended (Open o p) = None
extended (Refer kind name span) = None
extended (Variable p) = None
extended (Text p) = None
extended Close = None
extended End = None

-- the parent as written, which the first command names
abbrev pub parent_of : List Command → Option Part
parent_of [] = None
parent_of (c ∷ cs) = extended c

-- the place of the command that opens the container of that kind and name
abbrev pub opener_of : List ℕ → Container → List ℕ → List Command → Option ℕ
opener_of source kind name commands = position (λ c. opens_named source kind name (opens c)) commands
