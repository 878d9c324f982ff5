-- The rule of the table of the commands. Assumes nothing.
use Rattle.std.proofs.Common.{◌≡◌, ℕ, Bool, true, false, cond, eqb, List, [], ◌∷◌, Some, sym, refl, ap, ◌∙◌, arith}
use Rattle.std.proofs.lemmas.Bool.{eqb-true}
use Rattle.std.proofs.lemmas.Option.{none-some}
use Rattle.record.specs.declared.letter.Letter.{Letter}
use Rattle.record.specs.declared.letter.Letter.TheVariants.{Extends, Block, PlainBlock, Component, Refer, Variable, Text, Close, End}
use Rattle.record.specs.declared.letter.Reference.TheVariants.{Filter, Test, Function, Component as component, Include}
use Rattle.record.specs.Letters.{layout_of, letter_byte, letter_at, letter_in, letters, Rule}

pub byte_of_layout : (l : Letter) → (layout_of l).byte ≡ letter_byte l
byte_of_layout l = grind arith

-- each letter's byte stands for that letter: no two letters share one
pub letter_known : (l : Letter) → letter_at (letter_byte l) ≡ Some l
letter_known Extends = refl
letter_known Block = refl
letter_known PlainBlock = refl
letter_known Component = refl
letter_known (Refer Filter) = refl
letter_known (Refer Test) = refl
letter_known (Refer Function) = refl
letter_known (Refer component) = refl
letter_known (Refer Include) = refl
letter_known Variable = refl
letter_known Text = refl
letter_known Close = refl
letter_known End = refl

found : (n : ℕ) (ls : List Letter) (l : Letter) → letter_in n ls ≡ Some l → letter_byte l ≡ n
found n [] l e = absurd (none-some l e)
found n (k ∷ ls) l e = go (eqb (letter_byte k) n) refl e (found n ls l)
  where
    go : (t : Bool) → eqb (letter_byte k) n ≡ t → cond t (Some k) (letter_in n ls) ≡ Some l → (letter_in n ls ≡ Some l → letter_byte l ≡ n) → letter_byte l ≡ n
    go true t h more =
        let is : k ≡ l = cc in
        ap letter_byte (sym is) ∙ eqb-true (letter_byte k) n t
    go false t h more = more h

pub letter_found : (n : ℕ) (l : Letter) → letter_at n ≡ Some l → letter_byte l ≡ n
letter_found n l e = found n letters l e

pub table_rule : Rule
table_rule = record { thirteen = refl; own = letter_known; found = λ n l. letter_found n l }
