-- One kind and one name.
use Rattle.std.proofs.Common.{◌≡◌, ℕ, Bool, true, ◌&&◌, List, arith}
use Rattle.catalogue.specs.declared.kinds.Kind.{Kind}
use Rattle.catalogue.specs.Meaning.{same, same_kind}
use Rattle.std.proofs.lemmas.Slice.Eq.{bytes_eq-Decides}

pub kind_refl : (k : Kind) → same_kind k k ≡ true
kind_refl k = grind arith

pub kind_and : (k k' : Kind) (b : Bool) → k ≡ k' → (same_kind k k' && b) ≡ b
kind_and k k' b e = grind arith

-- the test is true only of one kind and one name
pub same_true : (k : Kind) (n : List ℕ) (k' : Kind) (n' : List ℕ) → same k n k' n' ≡ true → (k ≡ k') × (n ≡ n')
same_true k n k' n' h = (grind (arith, h), grind (arith, bytes_eq-Decides n n', h))

-- a name is the same as itself
pub same_refl : (k : Kind) (n : List ℕ) → same k n k n ≡ true
same_refl k n = grind (arith, bytes_eq-Decides n n)

-- what is said of one name is said of the other
pub at_same : {X : Type 0} (f : Kind → List ℕ → X) (k : Kind) (n : List ℕ) (k' : Kind) (n' : List ℕ) → same k n k' n' ≡ true → f k n ≡ f k' n'
at_same f k n k' n' h = let e = same_true k n k' n' h in λ i. f (e.0 i) (e.1 i)
