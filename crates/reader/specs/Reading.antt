-- What reading a record gives: the commands, each with the container that it stands directly in, or the first refusal and its place. Assumes nothing.
use Rattle.std.specs.Prelude.{ℕ, zero, suc, ◌+◌, true, false, cond, List, [], ◌∷◌, ◌++◌, length, Some, None, Ok, Err, Option, Result, nat_lt}
use Rattle.record.specs.declared.command.Command.{Command}
use Rattle.record.specs.declared.command.Command.TheVariants.{Extends, Open, Refer, Variable, Text, Close, End}
use Rattle.record.specs.declared.command.Container.{Container}
use Rattle.record.specs.declared.command.Entry.{Entry}
use Rattle.record.specs.declared.command.Owner.{Owner}
use Rattle.record.specs.declared.command.Owner.TheVariants.{Body, Container as Within}
use Rattle.record.specs.declared.fault.Reason.{Reason}
use Rattle.record.specs.declared.fault.Reason.TheVariants.{Unknown, Incomplete, Unfinished}
use Rattle.record.specs.declared.fault.RecordFault.{RecordFault}
use Rattle.record.specs.declared.letter.Letter.{Letter}
use Rattle.reader.specs.declared.nest.Nest.{Nest}
use Rattle.record.specs.Kinds.{container_of, is_end, letter_of}
use Rattle.record.specs.Letters.{letter_at, width}
use Rattle.reader.specs.Operands.{command_of}
use Rattle.reader.specs.Questions.{Standing, fault_of}

-- the container that the next command stands directly in
abbrev pub owner_in : List Nest → Owner
owner_in [] = Body
owner_in (r ∷ rows) = Within r.opener

-- how many commands stand in it already
abbrev pub place_in : List Nest → ℕ → ℕ
place_in [] body = body
place_in (r ∷ rows) body = r.commands

abbrev pub entry : Standing → Command → Entry
entry s c = record { command = c; owner = owner_in s.rows; place = place_in s.rows s.body }

-- one command more stands in the innermost container, or in the body
abbrev pub raised : Nest → Nest
raised r = record { container = r.container; opener = r.opener; commands = r.commands + 1 }

abbrev pub counted : List Nest → ℕ → Standing
counted [] body = record { rows = []; body = body + 1 }
counted (r ∷ rows) body = record { rows = raised r ∷ rows; body = body }

abbrev pub outward : List Nest → List Nest
outward [] = []
outward (r ∷ rows) = rows

-- a container that command n opened
abbrev pub pushed : Container → ℕ → Standing → Standing
pushed kind n s = record { rows = record { container = kind; opener = n; commands = 0 } ∷ s.rows; body = s.body }

-- what stands once the command is taken; n commands were read before it
abbrev pub after : ℕ → Standing → Command → Standing
after n s (Extends p) = s
after n s (Open o p) = pushed (container_of o) n s
after n s (Refer k p span) = s
after n s (Variable p) = s
after n s (Text p) = s
after n s Close = record { rows = outward s.rows; body = s.body }
after n s End = s

-- it is counted where it stands, before it opens or closes anything
abbrev pub taken : ℕ → Standing → Command → Standing
taken n s c = after n (counted s.rows s.body) c

-- the command, unless there is a reason to refuse it
abbrev pub answered : Option Reason → Command → Result Command Reason
answered None c = Ok c
answered (Some r) c = Err r

-- is the command known, are its operands complete? and then the questions
abbrev pub asked : List ℕ → List Entry → List Nest → List ℕ → Option Letter → Result Command Reason
asked source before rows bs None = Err Unknown
asked source before rows bs (Some l) = cond (nat_lt (length bs) (width l)) (Err Incomplete) (answered (fault_of source before rows (command_of l bs)) (command_of l bs))

-- the command that begins with byte b, with the bytes bs behind it, or why it is refused
abbrev pub turn : List ℕ → List Entry → List Nest → ℕ → List ℕ → Result Command Reason
turn source before rows b bs = asked source before rows bs (letter_at b)

abbrev pub refused : Reason → ℕ → Result (List Entry) RecordFault
refused r at = Err record { reason = r; at = at }

-- after Z: is it the last byte, and is nothing open?
abbrev pub ended : List Entry → List Nest → ℕ → List ℕ → Result (List Entry) RecordFault
ended entries [] at [] = Ok entries
ended entries [] at (b ∷ bs) = refused Unfinished at
ended entries (r ∷ rows) at bs = refused Unfinished at

-- `entries` were read and what they leave stands; the next command begins at place `at`, behind `skip` bytes that are the operands of the last one
abbrev pub read_from : List ℕ → List Entry → Standing → ℕ → ℕ → List ℕ → Result (List Entry) RecordFault
read_from source entries s at skip [] = refused Unfinished at
read_from source entries s at (suc skip) (b ∷ bs) = read_from source entries s at skip bs
read_from source entries s at zero (b ∷ bs) =
    elim (turn source entries s.rows b bs) [
      | Ok c ↦ elim (is_end c) [
        | true ↦ ended (entries ++ entry s c ∷ []) s.rows (at + 1) bs
        | false ↦ read_from source (entries ++ entry s c ∷ []) (taken (length entries) s c) (at + 1 + width (letter_of c)) (width (letter_of c)) bs
      ]
      | Err r ↦ refused r at
    ]

-- reading stops at the first Z
abbrev pub read : List ℕ → List ℕ → Result (List Entry) RecordFault
read source bytes = read_from source [] record { rows = []; body = 0 } 0 0 bytes
