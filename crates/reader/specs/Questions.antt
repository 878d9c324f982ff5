-- What is asked of each command, in its order. Assumes nothing.
use Rattle.std.specs.Prelude.{◌≡◌, ℕ, Bool, true, false, cond, List, [], ◌∷◌, length, Some, None, Ok, Err, Option, Result, ◌==◌, nat_lt}
use Rattle.std.specs.List.{list_any}
use Rattle.text.specs.Spans.{lawful_in}
use Rattle.text.specs.Texts.{part_bytes, part_fault}
use Rattle.text.specs.declared.fault.TextFault.{TextFault}
use Rattle.text.specs.declared.part.Part.{Part}
use Rattle.text.specs.declared.span.Span.{Span}
use Rattle.record.specs.declared.command.Command.{Command}
use Rattle.record.specs.declared.command.Command.TheVariants.{Extends, Open, Refer, Variable, Text, Close, End}
use Rattle.record.specs.declared.command.Container.{Container}
use Rattle.record.specs.declared.command.Container.TheVariants.{Block, Component}
use Rattle.record.specs.declared.command.Entry.{Entry}
use Rattle.record.specs.declared.fault.Reason.{Reason}
use Rattle.record.specs.declared.fault.Reason.TheVariants.{Text as NotText, Span as NotLawful, Misplaced, Repeated, TooDeep}
use Rattle.reader.specs.declared.nest.Nest.{Nest}
use Rattle.reader.specs.declared.nest.Stands.{Stands}
use Rattle.reader.specs.declared.nest.Stands.TheVariants.{First, Outside, InBlock, InComponent}
use Rattle.record.specs.Kinds.{container_of, opens, part_of, span_of}
use Rattle.record.specs.Openers.{opens_named}

-- What stands when a command is read: the open containers, the innermost first, and how many commands stand directly in the body so far.
pub record Standing : Type 0 where
  pub rows : List Nest
  pub body : ℕ

abbrev pub in_container : Container → Stands
in_container Block = InBlock
in_container Component = InComponent

-- what stands open, as far as a command asks; n commands were read before
abbrev pub stands : ℕ → List Nest → Stands
stands n [] = cond (n == 0) First Outside
stands n (r ∷ rows) = in_container r.container

abbrev pub may_extend : Stands → Bool
may_extend First = true
may_extend Outside = false
may_extend InBlock = false
may_extend InComponent = false

-- a component stands only where nothing is open, a block anywhere but in a component
abbrev pub may_open : Stands → Container → Bool
may_open First k = true
may_open Outside k = true
may_open InBlock Block = true
may_open InBlock Component = false
may_open InComponent k = false

abbrev pub may_close : Stands → Bool
may_close First = false
may_close Outside = false
may_close InBlock = true
may_close InComponent = true

-- X only first; C where nothing is open; B and b never inside a component; E where something is open
abbrev pub allowed : Stands → Command → Bool
allowed s (Extends p) = may_extend s
allowed s (Open o p) = may_open s (container_of o)
allowed s (Refer k p span) = true
allowed s (Variable p) = true
allowed s (Text p) = true
allowed s Close = may_close s
allowed s End = true

-- does one of the commands open a container of that kind and name?
abbrev pub declared : List ℕ → Container → List ℕ → List Entry → Bool
declared source kind name before = list_any (λ (e : Entry). opens_named source kind name (opens e.command)) before

-- ---- the questions, each with the reason to refuse, if there is one

abbrev pub asks_part : List ℕ → Option Part → Option TextFault
asks_part source None = None
asks_part source (Some p) = part_fault source p

abbrev pub not_text : Option TextFault → Option Reason
not_text None = None
not_text (Some fault) = Some (NotText fault)

abbrev pub asks_span : List ℕ → Option Span → Option Reason
asks_span source None = None
asks_span source (Some s) = cond (lawful_in source s) None (Some NotLawful)

abbrev pub asks_new : List ℕ → List Entry → Option (Container × Part) → Option Reason
asks_new source before None = None
asks_new source before (Some q) = cond (declared source q.0 (part_bytes source q.1) before) (Some Repeated) None

abbrev pub asks_depth : List Nest → Option (Container × Part) → Option Reason
asks_depth rows None = None
asks_depth rows (Some q) = cond (nat_lt (length rows) 16) None (Some TooDeep)

-- the first reason there is
abbrev pub or_else : Option Reason → Option Reason → Option Reason
or_else (Some r) o = Some r
or_else None o = o

-- of the operands: are the name and text parts inside the source and UTF-8, is the span lawful?
abbrev pub operand_fault : List ℕ → Command → Option Reason
operand_fault source c = or_else (not_text (asks_part source (part_of c))) (asks_span source (span_of c))

-- of the place: is the command allowed there, is its name new of its kind, are fewer than 16 containers open?
abbrev pub place_fault : List ℕ → List Entry → List Nest → Command → Option Reason
place_fault source before rows c =
    or_else (cond (allowed (stands (length before) rows) c) None (Some Misplaced)) (or_else (asks_new source before (opens c)) (asks_depth rows (opens c)))

abbrev pub fault_of : List ℕ → List Entry → List Nest → Command → Option Reason
fault_of source before rows c = or_else (operand_fault source c) (place_fault source before rows c)

-- what asking the operands answers
abbrev pub Checked : List ℕ → Command → Result (Unit {0}) Reason → Type 0
Checked source c (Ok u) = operand_fault source c ≡ None
Checked source c (Err reason) = operand_fault source c ≡ Some reason
