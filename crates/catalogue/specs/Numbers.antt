-- The published numbers of the refusals.
use Rattle.std.specs.Prelude.{ℕ}
use Rattle.catalogue.specs.declared.kinds.Refusal.{Refusal}
use Rattle.catalogue.specs.declared.kinds.Refusal.TheVariants.{TooLong, Full}

abbrev pub published : Refusal → ℕ
published TooLong = 31
published Full = 32
