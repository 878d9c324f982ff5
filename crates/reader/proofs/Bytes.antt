-- A command written and read again, and the other way round. Assumes nothing.
use Rattle.std.proofs.Common.{◌≡◌, ℕ, zero, suc, ◌+◌, ◌*◌, ◌/◌, ◌%◌, ◌<◌, ◌≤◌, List, [], ◌∷◌, ◌++◌, length, get_or, take, drop, sym, refl, ap, ◌∙◌, arith}
use Rattle.std.proofs.lemmas.List.{append-nil, drop_more, get_or-drop}
use Rattle.std.specs.Simd.{first_chunks}
use Rattle.text.specs.declared.part.Part.{Part}
use Rattle.text.specs.declared.span.Span.{Span}
use Rattle.record.specs.declared.command.Command.{Command}
use Rattle.record.specs.declared.command.Command.TheVariants.{Extends, Open, Refer, Variable, Text, Close, End}
use Rattle.record.specs.declared.command.Opener.TheVariants.{Block as block, PlainBlock as plain_block, Component as component}
use Rattle.record.specs.declared.letter.Letter.{Letter}
use Rattle.record.specs.declared.letter.Letter.TheVariants.{Extends as X, Block as B, PlainBlock as b, Component as C, Refer as refers, Variable as V, Text as W, Close as E, End as Z}
use Rattle.record.specs.Kinds.{letter_of}
use Rattle.record.specs.Letters.{width}
use Rattle.reader.specs.Operands.{command_of, name_operand, number, span_operand, text_operand}
use Rattle.reader.specs.Written.{two, written_name, written_operands, written_span, written_text}

-- ---- written, then read

whole : (n : ℕ) → n / 256 * 256 + n % 256 ≡ n
whole n = omega arith

name_again : (p : Part) (rest : List ℕ) → name_operand (written_name p ++ rest) ≡ p
name_again p rest = λ i. record { start = whole p.start i; len = p.len }

text_again : (p : Part) (rest : List ℕ) → text_operand (written_text p ++ rest) ≡ p
text_again p rest = λ i. record { start = whole p.start i; len = whole p.len i }

span_again : (s : Span) (rest : List ℕ) → span_operand (written_span s ++ rest) ≡ s
span_again s rest = λ i. record {
  start_line = whole s.start_line i;
  start_col = record { 0 = whole s.start_col.0 i };
  end_line = whole s.end_line i;
  end_col = record { 0 = whole s.end_col.0 i };
  from = whole s.from i;
  to = whole s.to i;
}

pub command_again : (c : Command) (rest : List ℕ) → command_of (letter_of c) (written_operands c ++ rest) ≡ c
command_again (Extends p) rest = ap Extends (name_again p rest)
command_again (Open (block s) p) rest = λ i. Open (block (span_again s rest i)) (name_again p (written_span s ++ rest) i)
command_again (Open plain_block p) rest = ap (Open plain_block) (name_again p rest)
command_again (Open component p) rest = ap (Open component) (name_again p rest)
command_again (Refer k p s) rest = λ i. Refer k (name_again p (written_span s ++ rest) i) (span_again s rest i)
command_again (Variable p) rest = ap Variable (name_again p rest)
command_again (Text p) rest = ap Text (text_again p rest)
command_again Close rest = refl
command_again End rest = refl

pub length_operands : (c : Command) → length (written_operands c) ≡ width (letter_of c)
length_operands c = grind arith

-- ---- read, then written

-- every number of the list is a byte
abbrev pub Bytes : List ℕ → Type 0
Bytes bs = (i : ℕ) → get_or bs i 0 < 256

pub bytes_tail : (n : ℕ) (bs : List ℕ) → Bytes (n ∷ bs) → Bytes bs
bytes_tail n bs h i = h (suc i)

halves : (x y : ℕ) → y < 256 → two (x * 256 + y) ≡ x ∷ y ∷ []
halves x y h =
    let high : (x * 256 + y) / 256 ≡ x = omega arith in
    let low : (x * 256 + y) % 256 ≡ y = omega arith in
    λ i. high i ∷ low i ∷ []

-- k numbers of two bytes, from place i on
abbrev pairs : ℕ → ℕ → List ℕ → List ℕ
pairs zero i bs = []
pairs (suc k) i bs = two (number bs i) ++ pairs k (i + 2) bs

abbrev twice : ℕ → ℕ
twice zero = 0
twice (suc k) = suc (suc (twice k))

-- number k of the pairs that the bytes are cut into
pub pair_number : (k n : ℕ) (bs : List ℕ) → k < n → number (get_or (first_chunks 2 n bs) k []) 0 ≡ number bs (2 * k)
pair_number k zero bs h = absurd (omega arith)
pair_number zero (suc n) [] h = refl
pair_number zero (suc n) (x ∷ []) h = refl
pair_number zero (suc n) (x ∷ y ∷ bs) h = refl
pair_number (suc k) (suc n) bs h =
    let on : 2 + (2 * k + 1) ≡ 2 + 2 * k + 1 = omega arith in
    pair_number k n (drop 2 bs) (omega arith)
    ∙ (λ i. get_or-drop 2 bs (2 * k) 0 i * 256 + (get_or-drop 2 bs (2 * k + 1) 0 ∙ ap (λ (j : ℕ). get_or bs j 0) on) i)
    ∙ ap (number bs) (omega arith)

pairs_back : (k i : ℕ) (bs : List ℕ) → Bytes bs → i + twice k ≤ length bs → pairs k i bs ≡ take (twice k) (drop i bs)
pairs_back zero i bs h l = refl
pairs_back (suc k) i bs h l =
    let x = get_or bs i 0 in
    let y = get_or bs (i + 1) 0 in
    let after : i + 1 + 1 ≡ i + 2 = omega arith in
    let first : drop i bs ≡ x ∷ y ∷ drop (i + 2) bs =
    drop_more bs i 0 (omega arith) ∙ ap (λ (t : List ℕ). x ∷ t) (drop_more bs (i + 1) 0 (omega arith)) ∙ ap (λ (n : ℕ). x ∷ y ∷ drop n bs) after in
    ap (λ (t : List ℕ). t ++ pairs k (i + 2) bs) (halves x y (h (i + 1)))
    ∙ ap (λ (t : List ℕ). x ∷ y ∷ t) (pairs_back k (i + 2) bs h (omega arith))
    ∙ sym (ap (take (twice (suc k))) first)

span_back : (bs : List ℕ) → Bytes bs → 12 ≤ length bs → written_span (span_operand bs) ≡ take 12 bs
span_back bs h l = pairs_back 6 0 bs h l

text_back : (bs : List ℕ) → Bytes bs → 4 ≤ length bs → written_text (text_operand bs) ≡ take 4 bs
text_back bs h l = pairs_back 2 0 bs h l

name_back : (bs : List ℕ) → Bytes bs → 3 ≤ length bs → written_name (name_operand bs) ≡ take 3 bs
name_back [] h l = absurd (omega arith)
name_back (x ∷ []) h l = absurd (omega arith)
name_back (x ∷ y ∷ []) h l = absurd (omega arith)
name_back (x ∷ y ∷ z ∷ bs) h l = ap (λ (t : List ℕ). t ++ (z ∷ [])) (halves x y (h 1))

-- a name and a span
both_back : (bs : List ℕ) → Bytes bs → 15 ≤ length bs → written_name (name_operand bs) ++ written_span (span_operand (drop 3 bs)) ≡ take 15 bs
both_back [] h l = absurd (omega arith)
both_back (x ∷ []) h l = absurd (omega arith)
both_back (x ∷ y ∷ []) h l = absurd (omega arith)
both_back (x ∷ y ∷ z ∷ bs) h l =
    ap (λ (t : List ℕ). (t ++ (z ∷ [])) ++ written_span (span_operand bs)) (halves x y (h 1))
    ∙ ap (λ (t : List ℕ). x ∷ y ∷ z ∷ t) (span_back bs (λ i. h (suc (suc (suc i)))) (omega arith))

open_back : (bs : List ℕ) → Bytes bs → 3 ≤ length bs → written_name (name_operand bs) ++ [] ≡ take 3 bs
open_back bs h l = append-nil (written_name (name_operand bs)) ∙ name_back bs h l

pub command_back : (l : Letter) (bs : List ℕ) → Bytes bs → width l ≤ length bs → written_operands (command_of l bs) ≡ take (width l) bs
command_back X bs h l = name_back bs h l
command_back B bs h l = both_back bs h l
command_back b bs h l = open_back bs h l
command_back C bs h l = open_back bs h l
command_back (refers kind) bs h l = both_back bs h l
command_back V bs h l = name_back bs h l
command_back W bs h l = text_back bs h l
command_back E bs h l = refl
command_back Z bs h l = refl
