-- Parts of a source, and when one is text. Assumes nothing.
use Rattle.std.specs.Prelude.{◌≡◌, ℕ, ◌+◌, Bool, cond, List, length, take, drop, Some, None, Ok, Err, Option, Result, nat_le}
use Rattle.std.specs.Borrow.{Bor}
use Rattle.text.specs.declared.fault.TextFault.{TextFault}
use Rattle.text.specs.declared.fault.TextFault.TheVariants.{Outside, NotUtf8}
use Rattle.text.specs.declared.part.Part.{Part}
use Rattle.text.specs.Utf8.{utf8}

-- the bytes that a part names: `len` of them, from `start` on
abbrev pub part_bytes : List ℕ → Part → List ℕ
part_bytes source p = take p.len (drop p.start source)

abbrev pub inside : List ℕ → Part → Bool
inside source p = nat_le (p.start + p.len) (length source)

-- What is wrong with a part, if anything is. An empty part is text wherever it lies, within a sequence of several bytes too.
abbrev pub part_fault : List ℕ → Part → Option TextFault
part_fault source p = cond (inside source p) (cond (utf8 (part_bytes source p)) None (Some NotUtf8)) (Some Outside)

-- the text that a part names, or what is wrong with it
abbrev pub PartText : List ℕ → Part → Result (Bor (List ℕ)) TextFault → Type 0
PartText source p (Ok text) = (part_fault source p ≡ None) × (text.now ≡ part_bytes source p)
PartText source p (Err fault) = part_fault source p ≡ Some fault
