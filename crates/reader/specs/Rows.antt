-- How the reader holds what stands open, and what its inner functions promise one another. Assumes nothing.
use Rattle.std.specs.Prelude.{◌≡◌, ℕ, zero, suc, ◌-◌, ◌<◌, ◌≤◌, ◌⊎◌, List, [], ◌∷◌, length, drop, Some, None, Ok, Err, Result, slice_index_or}
use Rattle.record.specs.declared.command.Command.{Command}
use Rattle.record.specs.declared.command.Command.TheVariants.{Extends, Open, Refer, Variable, Text, Close, End}
use Rattle.record.specs.declared.command.Entry.{Entry}
use Rattle.record.specs.declared.fault.Reason.{Reason}
use Rattle.record.specs.declared.fault.Reason.TheVariants.{Unfinished}
use Rattle.record.specs.declared.command.Container.TheVariants.{Block}
use Rattle.record.specs.declared.fault.RecordFault.{RecordFault}
use Rattle.reader.specs.declared.nest.Nest.{Nest}
use Rattle.reader.specs.declared.state.Reader.{Reader}
use Rattle.reader.specs.Questions.{Standing, place_fault}
use Rattle.record.specs.Kinds.{letter_of}
use Rattle.record.specs.Letters.{width}
use Rattle.reader.specs.Reading.{entry, taken, turn}

-- a row that is not in use
abbrev pub unused : Nest
unused = record { container = Block; opener = 0; commands = 0 }

-- the first `depth` rows, the innermost first
abbrev pub rows_of : ℕ → List Nest → List Nest
rows_of zero nests = []
rows_of (suc depth) nests = slice_index_or nests depth unused ∷ rows_of depth nests

abbrev pub standing : Reader → Standing
standing r = record { rows = rows_of r.depth r.nests; body = r.body }

-- over the same source and record, so much is left
pub record Moved (r r' : Reader) (left : List ℕ) : Type 0 where
  pub source : r'.source.now ≡ r.source.now
  pub bytes : r'.bytes.now ≡ r.bytes.now
  pub rest : r'.rest.now ≡ left

-- there is room for what the command opens, and something is open that it closes
abbrev pub CanOpenOrClose : ℕ → Command → Type 0
CanOpenOrClose depth (Extends p) = Unit {0}
CanOpenOrClose depth (Open o p) = depth < 16
CanOpenOrClose depth (Refer k p s) = Unit {0}
CanOpenOrClose depth (Variable p) = Unit {0}
CanOpenOrClose depth (Text p) = Unit {0}
CanOpenOrClose depth Close = 0 < depth
CanOpenOrClose depth End = Unit {0}

-- what asking a command about its place answers
abbrev pub Permitted : Reader → List Entry → Command → Result (Unit {0}) Reason → Type 0
Permitted r before c (Ok u) = (place_fault r.source.now before (standing r).rows c ≡ None) × CanOpenOrClose r.depth c
Permitted r before c (Err reason) = place_fault r.source.now before (standing r).rows c ≡ Some reason

-- what the next command answers, and what then stands; `rest` is what was left of the record
abbrev pub Stepped : Reader → Reader → List Entry → List ℕ → Result Entry Reason → Type 0
Stepped r r' before [] (Ok e) = ⊥
Stepped r r' before [] (Err reason) = (reason ≡ Unfinished) × (r' ≡ r)
Stepped r r' before (b ∷ bs) (Ok e) =
    (turn r.source.now before (standing r).rows b bs ≡ Ok e.command)
    × (e ≡ entry (standing r) e.command)
    × (standing r' ≡ taken (length before) (standing r) e.command)
    × Moved r r' (drop (width (letter_of e.command)) bs)
    × (width (letter_of e.command) ≤ length bs)
Stepped r r' before (b ∷ bs) (Err reason) = (turn r.source.now before (standing r).rows b bs ≡ Err reason) × (r' ≡ r)

-- how far the reader has come
abbrev pub position : Reader → ℕ
position r = length r.bytes.now - length r.rest.now

abbrev pub Next : Reader → Reader → List Entry → Result Entry RecordFault → Type 0
Next r r' before (Ok e) = Stepped r r' before r.rest.now (Ok e)
Next r r' before (Err fault) = Stepped r r' before r.rest.now (Err fault.reason) × (fault.at ≡ position r)

-- what is asked after Z
abbrev pub Finished : Reader → Result (Unit {0}) RecordFault → Type 0
Finished r (Ok u) = (r.depth ≡ 0) × (length r.rest.now ≡ 0)
Finished r (Err fault) = (fault ≡ record { reason = Unfinished; at = position r }) × ((0 < r.depth) ⊎ (0 < length r.rest.now))

-- a reader that has read nothing yet
pub record Fresh (text bytes : List ℕ) (r : Reader) : Type 0 where
  pub source : r.source.now ≡ text
  pub whole : r.bytes.now ≡ bytes
  pub rest : r.rest.now ≡ bytes
  pub depth : r.depth ≡ 0
  pub body : r.body ≡ 0
