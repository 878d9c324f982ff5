-- What reading a record answers. Assumes nothing.
use Rattle.std.specs.Prelude.{◌≡◌, ℕ, true, List, [], Ok, Err, vec_items, string_bytes, Result, ◌≢◌}
use Rattle.record.specs.declared.command.Command.{Command}
use Rattle.record.specs.declared.command.Entry.{Entry}
use Rattle.record.specs.declared.fault.ReadError.{ReadError}
use Rattle.record.specs.declared.fault.ReadError.TheVariants.{Record, Memory}
use Rattle.reader.specs.declared.listing.Listing.{Listing}
use Rattle.reader.specs.Places.{commands_of, placed}
use Rattle.reader.specs.Reading.{read}
use Rattle.reader.specs.WellFormed.{WellFormed}
use Rattle.reader.specs.Written.{written}

abbrev pub source_of : Listing → List ℕ
source_of l = string_bytes l.source

abbrev pub entries_of : Listing → List Entry
entries_of l = vec_items l.entries

-- the defined commands, or the defined fault with its place; want of memory says nothing of the record
abbrev pub Reads : List ℕ → List ℕ → Result Listing ReadError → Type 0
Reads source bytes (Ok l) = (source_of l ≡ source) × (read source bytes ≡ Ok (entries_of l))
Reads source bytes (Err (Record fault)) = read source bytes ≡ Err fault
Reads source bytes (Err Memory) = Unit {0}

-- A record is taken exactly if it is what some well formed commands are written to. These are the commands that are given, so that nothing is lost, and each stands in its innermost container.
pub record Accepted (source bytes : List ℕ) (entries : List Entry) : Type 0 where
  pub well_formed : WellFormed source (commands_of entries)
  pub whole : written (commands_of entries) ≡ bytes
  pub innermost : placed [] entries ≡ true

abbrev pub Refused : List ℕ → List ℕ → Type 0
Refused source bytes = (cs : List Command) → WellFormed source cs → written cs ≢ bytes

abbrev pub Judged : List ℕ → List ℕ → Result Listing ReadError → Type 0
Judged source bytes (Ok l) = Accepted source bytes (entries_of l)
Judged source bytes (Err (Record fault)) = Refused source bytes
Judged source bytes (Err Memory) = Unit {0}
