-- The laws of registering, from the meaning alone: for one registration, and for a list of them.
use Rattle.std.proofs.Common.{◌≡◌, ℕ, ◌≤◌, true, false, List, [], ◌∷◌, length, is_some, Some, refl, arith}
use Rattle.catalogue.specs.declared.kinds.Kind.{Kind}
use Rattle.catalogue.specs.Meaning.{Meaning, after, same}
use Rattle.catalogue.specs.Runs.{Leaves, Said, all_after}
use Rattle.std.proofs.lemmas.Bool.Decides.{nat_tests}
use Rattle.catalogue.proofs.Sames.{same_true}

-- after one registration of the name n₀, of the kind k₀, with the number x
module _ (longest : ℕ) (m : Meaning) (k₀ : Kind) (n₀ : List ℕ) (x : ℕ) (k : Kind) (n : List ℕ) where
  pub never_lost : is_some (m.map k n) ≡ true → is_some ((after longest m k₀ n₀ x).map k n) ≡ true
  never_lost h = grind (arith, nat_tests)

  pub never_let_go : m.held k n ≡ true → (after longest m k₀ n₀ x).held k n ≡ true
  never_let_go h = grind (arith, nat_tests)

  pub other_number : same k₀ n₀ k n ≡ false → (after longest m k₀ n₀ x).map k n ≡ m.map k n
  other_number h = grind (arith, nat_tests)

  pub other_held : same k₀ n₀ k n ≡ false → (after longest m k₀ n₀ x).held k n ≡ m.held k n
  other_held h = grind (arith, nat_tests)

  pub free_number : (after longest m k₀ n₀ x).held k n ≡ false → (after longest m k₀ n₀ x).map k n ≡ m.map k n
  free_number h = grind (arith, nat_tests)

  -- a name that is held, and not too long, was not refused
  pub new_number : same k₀ n₀ k n ≡ true → length n ≤ longest → (after longest m k₀ n₀ x).held k n ≡ true → (after longest m k₀ n₀ x).map k n ≡ Some x
  new_number s fits h = grind (arith, nat_tests, same_true k₀ n₀ k n s)

pub leaves : (longest : ℕ) (m : Meaning) (ss : List Said) → Leaves longest m ss (all_after longest m ss)
leaves longest m [] = record { known = λ k n h. h; keeps = λ k n h. h; last = λ k n l h. refl; free = λ k n h. refl; unsaid = λ k n h. (refl, refl) }
leaves longest m (s ∷ ss) =
    let rest = leaves longest (after longest m s.kind s.name s.number) ss in
    record {
      known = λ k n h. rest.known k n (never_lost longest m s.kind s.name s.number k n h);
      keeps = λ k n h. rest.keeps k n (never_let_go longest m s.kind s.name s.number k n h);
      last = λ k n l h. grind (arith, nat_tests, rest.last k n l h, rest.unsaid k n, new_number longest m s.kind s.name s.number k n, other_number longest m s.kind s.name s.number k n);
      free = λ k n h. grind (arith, nat_tests, rest.free k n h, rest.keeps k n, free_number longest m s.kind s.name s.number k n);
      unsaid = λ k n h. (grind (arith, nat_tests, rest.unsaid k n, other_number longest m s.kind s.name s.number k n), grind (arith, nat_tests, rest.unsaid k n, other_held longest m s.kind s.name s.number k n));
    }
