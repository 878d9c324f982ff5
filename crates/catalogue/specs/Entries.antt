-- What a list of entries means.
use Rattle.std.specs.Prelude.{ℕ, ◌-◌, Bool, List, [], is_some, vec_items, vec_len, Option, find, option_map}
use Rattle.arrayvec.specs.ArrayVec.{ArrayVec}
use Rattle.catalogue.specs.declared.entries.NumberedName.{NumberedName}
use Rattle.catalogue.specs.declared.kinds.Kind.{Kind}
use Rattle.catalogue.specs.declared.reserved.Registry.{Registry}
use Rattle.catalogue.specs.Meaning.{Meaning, same}

-- a registered name
abbrev pub Entry : Type 0
Entry = NumberedName (ArrayVec ℕ)

abbrev pub spells : Entry → Kind → List ℕ → Bool
spells e k n = same e.kind e.name.items k n

-- the number of the first entry of a name
abbrev pub lookup : List Entry → Kind → List ℕ → Option ℕ
lookup es k n = option_map (λ e. e.number) (find (λ e. spells e k n) es)

abbrev pub listed : List Entry → ℕ → Meaning
listed es free = record { map = lookup es; held = λ k n. is_some (lookup es k n); places = free }

abbrev pub registry : Registry → Meaning
registry t = listed (vec_items t.entries) (t.limit - vec_len t.entries)

abbrev pub empty : ℕ → Meaning
empty places = listed [] places
