-- Names and their order. Assumes nothing.
use Rattle.std.specs.Prelude.{◌≡◌, ℕ, ◌<◌, ◌≤◌, true, false, List, ◌++◌, length, take, Ok, Err, Result}
use Rattle.std.specs.declared.cmp.Ordering.TheVariants.{Less, Equal}
use Rattle.std.specs.declared.cmp.Ordering.{Ordering}
use Rattle.std.specs.Cmp.{IsTotalOrder}
use Rattle.std.specs.Cmp.Lexicographic.{slice_cmp}
use Rattle.text.specs.declared.fault.TextFault.{TextFault}
use Rattle.text.specs.declared.fault.TextFault.TheVariants.{TooLong, Outside, NotUtf8}
use Rattle.text.specs.declared.name.Name.{Name}
use Rattle.text.specs.Utf8.{utf8}
use Rattle.std.specs.Ordering.{nat_cmp}

abbrev pub name_bytes : Name → List ℕ
name_bytes n = take n.len n.bytes

-- what making a name of these bytes answers
abbrev pub Named : List ℕ → Result Name TextFault → Type 0
Named bs (Ok n) = (length bs ≤ 255) × (utf8 bs ≡ true) × (name_bytes n ≡ bs)
Named bs (Err TooLong) = 255 < length bs
Named bs (Err Outside) = ⊥
Named bs (Err NotUtf8) = (length bs ≤ 255) × (utf8 bs ≡ false)

-- the first byte that differs decides, and else a beginning comes before the longer name
abbrev pub byte_order : List ℕ → List ℕ → Ordering
byte_order = slice_cmp nat_cmp

abbrev pub name_order : Name → Name → Ordering
name_order a b = byte_order (name_bytes a) (name_bytes b)

-- The order of names, in the form that an ordered table asks of its rows, and what ties and beginnings mean.
pub record InOrder : Type 0 where
  pub total : IsTotalOrder name_order
  pub ties : (a b : Name) → name_order a b ≡ Equal → name_bytes a ≡ name_bytes b
  pub itself : (a b : Name) → name_bytes a ≡ name_bytes b → name_order a b ≡ Equal
  pub beginning : (bs cs : List ℕ) → 0 < length cs → byte_order bs (bs ++ cs) ≡ Less

abbrev pub NamesInOrder : Type 0
NamesInOrder = InOrder
