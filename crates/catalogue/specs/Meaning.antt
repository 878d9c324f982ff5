-- What a catalogue means, and what registering makes of it.
use Rattle.std.specs.Prelude.{◌≡◌, ℕ, ◌-◌, Bool, true, false, cond, ◌&&◌, ◌||◌, List, length, is_ok, Some, None, Ok, Err, Option, Result, nat_lt}
use Rattle.catalogue.specs.declared.kinds.Kind.{Kind}
use Rattle.catalogue.specs.declared.kinds.Kind.TheVariants.{Filter, Test, Function}
use Rattle.catalogue.specs.declared.kinds.Refusal.{Refusal}
use Rattle.catalogue.specs.declared.kinds.Refusal.TheVariants.{TooLong, Full}
use Rattle.std.specs.Str.{bytes_eq}

-- the number of a kind and name, whether the catalogue holds that name itself, and the places left
pub record Meaning : Type 0 where
  pub map : Kind → List ℕ → Option ℕ
  pub held : Kind → List ℕ → Bool
  pub places : ℕ

abbrev pub same_kind : Kind → Kind → Bool
same_kind Filter Filter = true
same_kind Filter Test = false
same_kind Filter Function = false
same_kind Test Filter = false
same_kind Test Test = true
same_kind Test Function = false
same_kind Function Filter = false
same_kind Function Test = false
same_kind Function Function = true

-- the two are one kind and one name
abbrev pub same : Kind → List ℕ → Kind → List ℕ → Bool
same k n k' n' = same_kind k k' && bytes_eq n n'

-- the name has the number x and is held; no other name is touched; a name that was not held costs a place
abbrev pub write : Meaning → Kind → List ℕ → ℕ → Meaning
write m k n x =
    record {
      map = λ k' n'. cond (same k n k' n') (Some x) (m.map k' n');
      held = λ k' n'. same k n k' n' || m.held k' n';
      places = m.places - cond (m.held k n) 0 1;
    }

-- too long, then neither held nor a place left; else it is taken
abbrev pub answer : ℕ → Meaning → Kind → List ℕ → Result (Unit {0}) Refusal
answer longest m k n =
    cond (nat_lt longest (length n)) (Err TooLong) (cond (m.held k n || nat_lt 0 m.places) (Ok tt) (Err Full))

-- what is meant after a registration: a refused one leaves all as it was
abbrev pub after : ℕ → Meaning → Kind → List ℕ → ℕ → Meaning
after longest m k n x = cond (is_ok (answer longest m k n)) (write m k n x) m

pub record Registers (longest : ℕ) (m : Meaning) (k : Kind) (n : List ℕ) (x : ℕ) (r : Result (Unit {0}) Refusal) (m' : Meaning) : Type 0 where
  pub answers : r ≡ answer longest m k n
  pub leaves : m' ≡ after longest m k n x

abbrev pub or_else : Option ℕ → Option ℕ → Option ℕ
or_else None o = o
or_else (Some x) o = Some x

-- the left-biased union: a has the first word, and what is held and the places are a's
abbrev pub over : Meaning → Meaning → Meaning
over a b = record { map = λ k n. or_else (a.map k n) (b.map k n); held = a.held; places = a.places }
