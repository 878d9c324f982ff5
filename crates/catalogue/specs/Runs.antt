-- A list of registrations, one after another.
use Rattle.std.specs.Prelude.{◌≡◌, ℕ, ◌+◌, ◌≤◌, true, false, cond, List, [], ◌∷◌, length, is_some, is_ok, Some, None, Option}
use Rattle.catalogue.specs.declared.kinds.Kind.{Kind}
use Rattle.catalogue.specs.declared.entries.NumberedName.{NumberedName}
use Rattle.std.specs.Borrow.{Bor}
use Rattle.catalogue.specs.Meaning.{Meaning, after, answer, or_else, same}

-- a name that is to have a number
abbrev pub Registration : Type 0
Registration = NumberedName (Bor (List ℕ))

pub record Said : Type 0 where
  pub kind : Kind
  pub name : List ℕ
  pub number : ℕ

abbrev pub said : Registration → Said
said r = record { kind = r.kind; name = r.name.now; number = r.number }

-- what is meant after the whole list
abbrev pub all_after : ℕ → Meaning → List Said → Meaning
all_after longest m [] = m
all_after longest m (s ∷ ss) = all_after longest (after longest m s.kind s.name s.number) ss

-- how many of the list were refused
abbrev pub turned_down : ℕ → Meaning → List Said → ℕ
turned_down longest m [] = 0
turned_down longest m (s ∷ ss) =
    cond (is_ok (answer longest m s.kind s.name)) 0 1
    + turned_down longest (after longest m s.kind s.name s.number) ss

-- the number that the list gives a name last
abbrev pub last_said : List Said → Kind → List ℕ → Option ℕ
last_said [] k n = None
last_said (s ∷ ss) k n = or_else (last_said ss k n) (cond (same s.kind s.name k n) (Some s.number) None)

-- What a list of registrations leaves: no name is lost or let go; of a name that is held, and is not too long, the last number of
-- the list counts; a name that is not held, that is too long or that the list does not name has the number it had.
pub record Leaves (longest : ℕ) (m : Meaning) (ss : List Said) (m' : Meaning) : Type 0 where
  pub known : (k : Kind) (n : List ℕ) → is_some (m.map k n) ≡ true → is_some (m'.map k n) ≡ true
  pub keeps : (k : Kind) (n : List ℕ) → m.held k n ≡ true → m'.held k n ≡ true
  pub last : (k : Kind) (n : List ℕ) → length n ≤ longest → m'.held k n ≡ true → m'.map k n ≡ or_else (last_said ss k n) (m.map k n)
  pub free : (k : Kind) (n : List ℕ) → m'.held k n ≡ false → m'.map k n ≡ m.map k n
  pub unsaid : (k : Kind) (n : List ℕ) → last_said ss k n ≡ None → (m'.map k n ≡ m.map k n) × (m'.held k n ≡ m.held k n)
