-- When a registration is taken and when it is refused: what a catalogue's author has to show.
use Rattle.std.proofs.Common.{◌≡◌, ℕ, ◌≤◌, true, false, cond, ◌||◌, ltb, List, length, Ok, Err, arith}
use Rattle.catalogue.specs.declared.kinds.Kind.{Kind}
use Rattle.catalogue.specs.declared.kinds.Refusal.TheVariants.{Full}
use Rattle.catalogue.specs.Meaning.{Meaning, Registers, answer, write}
use Rattle.std.proofs.lemmas.Bool.Decides.{nat_tests}

module _ (longest : ℕ) (m : Meaning) (k : Kind) (n : List ℕ) (fits : length n ≤ longest) where
  pub heard : answer longest m k n ≡ cond (m.held k n || ltb 0 m.places) (Ok tt) (Err Full)
  heard = grind (arith, nat_tests)

  pub taken : (x : ℕ) (m' : Meaning) → (m.held k n || ltb 0 m.places) ≡ true → m' ≡ write m k n x → Registers longest m k n x (Ok tt) m'
  taken x m' room e = grind (arith, nat_tests)

  pub turned_away : (x : ℕ) → m.held k n ≡ false → m.places ≡ 0 → Registers longest m k n x (Err Full) m
  turned_away x free none = grind (arith, nat_tests)
