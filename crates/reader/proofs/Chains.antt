-- The commands of a record that is read to its end, and the record that they are written to. Assumes nothing.
use Rattle.std.proofs.Common.{◌≡◌, ℕ, zero, suc, ◌+◌, ◌≤◌, Bool, true, false, cond, ltb, List, [], ◌∷◌, ◌++◌, length, take, drop, Some, None, Ok, Err, Option, Result, sym, refl, ap, ◌∙◌, subst, arith}
use Rattle.std.proofs.lemmas.List.{drop_at, length-append, take-append-drop}
use Rattle.std.proofs.lemmas.Bool.{cond-false, le-ltb, ltb-false}
use Rattle.record.specs.declared.command.Command.{Command}
use Rattle.record.specs.declared.command.Entry.{Entry}
use Rattle.record.specs.declared.fault.Reason.{Reason}
use Rattle.record.specs.declared.fault.Reason.TheVariants.{Incomplete}
use Rattle.record.specs.declared.letter.Letter.{Letter}
use Rattle.reader.specs.declared.nest.Nest.{Nest}
use Rattle.record.specs.Kinds.{is_end, letter_of}
use Rattle.record.specs.Letters.{letter_at, letter_byte, width}
use Rattle.reader.specs.Operands.{command_of}
use Rattle.reader.specs.Questions.{Standing, fault_of}
use Rattle.reader.specs.Reading.{answered, asked, ended, entry, read_from, taken, turn}
use Rattle.reader.specs.Written.{written, written_operands}
use Rattle.reader.proofs.Bytes.{Bytes, bytes_tail, command_again, command_back, length_operands}
use Rattle.record.proofs.Lookup.{letter_found, letter_known}
use Rattle.reader.proofs.Stepping.{letter_of_command}
use Rattle.reader.proofs.Underway.{end_is, onward, read_ended, read_taken, turned}

-- From `es` and what stands then, the commands are each taken in turn, up to Z where nothing is open, and `out` are all the entries.
pub data Chain (source : List ℕ) : List Entry → Standing → List Command → List Entry → Type 0 where
  last : (es : List Entry) (s : Standing) (c : Command) → is_end c ≡ true → fault_of source es s.rows c ≡ None → s.rows ≡ [] → Chain source es s (c ∷ []) (es ++ entry s c ∷ [])
  next : (es : List Entry) (s : Standing) (c : Command) (cs : List Command) (out : List Entry) → is_end c ≡ false → fault_of source es s.rows c ≡ None → Chain source (es ++ entry s c ∷ []) (taken (length es) s c) cs out → Chain source es s (c ∷ cs) out

-- what is refused is not taken
pub apart : {X : Type 0} {E : Type 0} {x : X} {e : E} → ◌≡◌ {A = Result X E} (Err e) (Ok x) → ⊥
apart e = grind arith

-- ---- what a turn that was taken tells

pub record Known (source : List ℕ) (es : List Entry) (rows : List Nest) (n : ℕ) (bs : List ℕ) (c : Command) : Type 0 where
  pub letter : Letter
  pub stands_for : letter_at n ≡ Some letter
  pub complete : width letter ≤ length bs
  pub is : c ≡ command_of letter bs
  pub faultless : fault_of source es rows c ≡ None

turn_known : (source : List ℕ) (es : List Entry) (rows : List Nest) (n : ℕ) (bs : List ℕ) (c : Command) → turn source es rows n bs ≡ Ok c → Known source es rows n bs c
turn_known source es rows n bs c told = go (letter_at n) refl told
  where
    judged : (l : Letter) → letter_at n ≡ Some l → width l ≤ length bs → (o : Option Reason) → fault_of source es rows (command_of l bs) ≡ o → answered o (command_of l bs) ≡ Ok c → Known source es rows n bs c
    judged l known wide None none e =
        let is : command_of l bs ≡ c = cc in
        record { letter = l; stands_for = known; complete = wide; is = sym is; faultless = ap (fault_of source es rows) (sym is) ∙ none }
    judged l known wide (Some r) some e = absurd (apart e)

    measured : (l : Letter) → letter_at n ≡ Some l → (t : Bool) → ltb (length bs) (width l) ≡ t → cond t (Err Incomplete) (answered (fault_of source es rows (command_of l bs)) (command_of l bs)) ≡ Ok c → Known source es rows n bs c
    measured l known true short e = absurd (apart e)
    measured l known false long e = judged l known (ltb-false (length bs) (width l) long) (fault_of source es rows (command_of l bs)) refl e

    go : (o : Option Letter) → letter_at n ≡ o → asked source es rows bs o ≡ Ok c → Known source es rows n bs c
    go None none e = absurd (apart e)
    go (Some l) known e = measured l known (ltb (length bs) (width l)) refl e

-- ---- read to the end: the commands are taken in turn, and written they are the record

pub record Made (source : List ℕ) (es : List Entry) (s : Standing) (bs : List ℕ) (out : List Entry) : Type 0 where
  pub commands : List Command
  pub chain : Chain source es s commands out
  pub is : written commands ≡ bs

ended_inverse : (es : List Entry) (rows : List Nest) (at : ℕ) (bs : List ℕ) (out : List Entry) → ended es rows at bs ≡ Ok out → (rows ≡ []) × (bs ≡ []) × (es ≡ out)
ended_inverse es rows at bs out e = grind arith

-- one command, and what the rest was made of
module _ (source : List ℕ) (es : List Entry) (s : Standing) (at b : ℕ) (bs : List ℕ) (out : List Entry) (h : Bytes (b ∷ bs)) (ih : (es' : List Entry) (s' : Standing) (at' k : ℕ) → k ≤ length bs → read_from source es' s' at' k bs ≡ Ok out → Made source es' s' (drop k bs) out) where
  module _ (c : Command) (known : Known source es s.rows b bs c) where
    same_letter : letter_of c ≡ known.letter
    same_letter = ap letter_of known.is ∙ letter_of_command known.letter bs

    same_byte : letter_byte (letter_of c) ≡ b
    same_byte = ap letter_byte same_letter ∙ letter_found b known.letter known.stands_for

    wide : width (letter_of c) ≤ length bs
    wide = omega (arith, ap width same_letter, known.complete)

    same_operands : written_operands c ≡ take (width (letter_of c)) bs
    same_operands =
        ap written_operands known.is
        ∙ command_back known.letter bs (bytes_tail b bs h) known.complete
        ∙ ap (λ (n : ℕ). take n bs) (sym (ap width same_letter))

    made_last : is_end c ≡ true → ended (es ++ entry s c ∷ []) s.rows (at + 1) bs ≡ Ok out → Made source es s (b ∷ bs) out
    made_last t e =
        let inv = ended_inverse (es ++ entry s c ∷ []) s.rows (at + 1) bs out e in
        let C : List Entry → Type 0 = Chain source es s (c ∷ []) in
        record {
          commands = c ∷ [];
          chain = subst C inv.2 (last es s c t known.faultless inv.0);
          is = (λ i. same_byte i ∷ (written_operands (end_is c t i) ++ [])) ∙ ap (λ (l : List ℕ). b ∷ l) (sym inv.1);
        }

    made_next : is_end c ≡ false → read_from source (es ++ entry s c ∷ []) (taken (length es) s c) (at + 1 + width (letter_of c)) (width (letter_of c)) bs ≡ Ok out → Made source es s (b ∷ bs) out
    made_next t e =
        let m = ih (es ++ entry s c ∷ []) (taken (length es) s c) (at + 1 + width (letter_of c)) (width (letter_of c)) wide e in
        record {
          commands = c ∷ m.commands;
          chain = next es s c m.commands out t known.faultless m.chain;
          is = (λ i. same_byte i ∷ (same_operands i ++ m.is i)) ∙ ap (λ (l : List ℕ). b ∷ l) (take-append-drop (width (letter_of c)) bs);
        }

    by_end : (t : Bool) → is_end c ≡ t → onward source es s at b bs c t ≡ Ok out → Made source es s (b ∷ bs) out
    by_end true t e = made_last t e
    by_end false t e = made_next t e

  by_turn : (t : Result Command Reason) → turn source es s.rows b bs ≡ t → turned source es s at b bs t ≡ Ok out → Made source es s (b ∷ bs) out
  by_turn (Ok c) told e = by_end c (turn_known source es s.rows b bs c told) (is_end c) refl e
  by_turn (Err r) told e = absurd (apart e)

pub made : (source bs : List ℕ) (es : List Entry) (s : Standing) (at k : ℕ) (out : List Entry) → Bytes bs → k ≤ length bs → read_from source es s at k bs ≡ Ok out → Made source es s (drop k bs) out
made source [] es s at zero out h l e = absurd (apart e)
made source [] es s at (suc k) out h l e = absurd (apart e)
made source (b ∷ bs) es s at zero out h l e =
    by_turn source es s at b bs out h (λ es' s' at' k short f. made source bs es' s' at' k out (bytes_tail b bs h) short f) (turn source es s.rows b bs) refl e
made source (b ∷ bs) es s at (suc k) out h l e = made source bs es s at k out (bytes_tail b bs h) (omega arith) e

-- ---- and back: commands that can be taken in turn are read from what they are written to

module _ (source : List ℕ) (es : List Entry) (s : Standing) (c : Command) (rest : List ℕ) (none : fault_of source es s.rows c ≡ None) where
  enough : width (letter_of c) ≤ length (written_operands c ++ rest)
  enough = omega (arith, length-append (written_operands c) rest, length_operands c)

  taken_again : turn source es s.rows (letter_byte (letter_of c)) (written_operands c ++ rest) ≡ Ok c
  taken_again =
      ap (asked source es s.rows (written_operands c ++ rest)) (letter_known (letter_of c))
      ∙ cond-false _ _ _ (le-ltb (length (written_operands c ++ rest)) (width (letter_of c)) enough)
      ∙ ap (λ (d : Command). answered (fault_of source es s.rows d) d) (command_again c rest)
      ∙ ap (λ (o : Option Reason). answered o c) none

  left_again : drop (width (letter_of c)) (written_operands c ++ rest) ≡ rest
  left_again = drop_at (written_operands c) rest (width (letter_of c)) (length_operands c)

pub read_again : (source : List ℕ) (es : List Entry) (s : Standing) (cs : List Command) (out : List Entry) → Chain source es s cs out → (at : ℕ) → read_from source es s at 0 (written cs) ≡ Ok out
read_again source es s cs out (last es₁ s₁ c t none nothing) at =
    read_ended source es₁ s₁ at (letter_byte (letter_of c)) (written_operands c ++ []) c (taken_again source es₁ s₁ c [] none) t
    ∙ (λ i. ended (es₁ ++ entry s₁ c ∷ []) (nothing i) (at + 1) (written_operands (end_is c t i) ++ []))
read_again source es s cs out (next es₁ s₁ c cs₁ out₁ t none chain) at =
    read_taken source es₁ s₁ at (letter_byte (letter_of c)) (written_operands c ++ written cs₁) c (taken_again source es₁ s₁ c (written cs₁) none) t (enough source es₁ s₁ c (written cs₁) none)
    ∙ ap (read_from source (es₁ ++ entry s₁ c ∷ []) (taken (length es₁) s₁ c) (at + 1 + width (letter_of c)) 0) (left_again source es₁ s₁ c (written cs₁) none)
    ∙ read_again source (es₁ ++ entry s₁ c ∷ []) (taken (length es₁) s₁ c) cs₁ out₁ chain (at + 1 + width (letter_of c))
