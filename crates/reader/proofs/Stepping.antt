-- One command read. Assumes nothing.
use Rattle.std.proofs.Common.{◌≡◌, ℕ, ◌+◌, ◌<◌, ◌≤◌, List, ◌∷◌, length, get_or, drop, Some, None, Ok, Err, Option, Result, sym, refl, ap, ◌∙◌, subst, arith}
use Rattle.std.specs.List.{between}
use Rattle.std.specs.Option.{option_map}
use Rattle.std.proofs.lemmas.List.{take_rest}
use Rattle.std.proofs.lemmas.Slice.{first_rest}
use Rattle.std.proofs.lemmas.Option.{none-some}
use Rattle.std.proofs.lemmas.Bool.{cond-false, le-ltb}
use Rattle.record.specs.declared.command.Command.{Command}
use Rattle.record.specs.declared.command.Entry.{Entry}
use Rattle.record.specs.declared.fault.Reason.{Reason}
use Rattle.record.specs.declared.letter.Layout.{Layout}
use Rattle.record.specs.declared.letter.Letter.{Letter}
use Rattle.reader.specs.declared.nest.Nest.{Nest}
use Rattle.reader.specs.declared.state.Reader.{Reader}
use Rattle.record.specs.Kinds.{letter_of}
use Rattle.record.specs.Letters.{layout_at, layout_of, letter_at, width}
use Rattle.reader.specs.Operands.{command_of}
use Rattle.reader.specs.Questions.{fault_of, operand_fault, or_else, place_fault}
use Rattle.reader.specs.Reading.{answered, asked, entry, taken, turn}
use Rattle.reader.specs.Rows.{Moved, Stepped, standing}

letter_of_layout : (l : Letter) → (layout_of l).letter ≡ l
letter_of_layout l = grind arith

pub letter_of_command : (l : Letter) (bs : List ℕ) → letter_of (command_of l bs) ≡ l
letter_of_command l bs = grind arith

-- a row that the table gives is the layout of its letter
pub known_layout : (b : ℕ) (y : Layout) → Some y ≡ layout_at b → (letter_at b ≡ Some y.letter) × (y ≡ layout_of y.letter)
known_layout b y e = go (letter_at b) e
  where
    go : (o : Option Letter) → Some y ≡ option_map layout_of o → (o ≡ Some y.letter) × (y ≡ layout_of y.letter)
    go None e = absurd (none-some y (sym e))
    go (Some l) e =
        let same : y ≡ layout_of l = cc in
        let letter : y.letter ≡ l = ap (λ (w : Layout). w.letter) same ∙ letter_of_layout l in
        (ap Some (sym letter), same ∙ ap layout_of (sym letter))

pub known_width : (y : Layout) → y ≡ layout_of y.letter → y.name + y.text + y.span ≡ width y.letter
known_width y e = ap (λ (w : Layout). w.name + w.text + w.span) e

-- the turn of a command that is complete, by its letter and the bytes of its operands
module _ (source : List ℕ) (before : List Entry) (rows : List Nest) (b : ℕ) (bs : List ℕ) (l : Letter) (known : letter_at b ≡ Some l) (complete : width l ≤ length bs) where
  turn_known : turn source before rows b bs ≡ answered (fault_of source before rows (command_of l bs)) (command_of l bs)
  turn_known = ap (asked source before rows bs) known ∙ cond-false _ _ _ (le-ltb (length bs) (width l) complete)

  pub turn_operand : (reason : Reason) → operand_fault source (command_of l bs) ≡ Some reason → turn source before rows b bs ≡ Err reason
  turn_operand reason asks = turn_known ∙ ap (λ (o : Option Reason). answered (or_else o (place_fault source before rows (command_of l bs))) (command_of l bs)) asks

  -- the turn, once the operands are found right
  turn_placed : operand_fault source (command_of l bs) ≡ None → turn source before rows b bs ≡ answered (place_fault source before rows (command_of l bs)) (command_of l bs)
  turn_placed asks = turn_known ∙ ap (λ (o : Option Reason). answered (or_else o (place_fault source before rows (command_of l bs))) (command_of l bs)) asks

  pub turn_place : (reason : Reason) → operand_fault source (command_of l bs) ≡ None → place_fault source before rows (command_of l bs) ≡ Some reason → turn source before rows b bs ≡ Err reason
  turn_place reason asks place = turn_placed asks ∙ ap (λ (o : Option Reason). answered o (command_of l bs)) place

  pub turn_taken : operand_fault source (command_of l bs) ≡ None → place_fault source before rows (command_of l bs) ≡ None → turn source before rows b bs ≡ Ok (command_of l bs)
  turn_taken asks place = turn_placed asks ∙ ap (λ (o : Option Reason). answered o (command_of l bs)) place

-- The reader stands at that command: the table gave its layout, and its operands are complete.
pub record Upcoming (r : Reader) (y : Layout) (c : Command) : Type 0 where
  pub some : 0 < length r.rest.now
  pub row : Some y ≡ layout_at (get_or r.rest.now 0 0)
  pub complete : y.name + y.text + y.span ≤ length (between 1 (length r.rest.now) r.rest.now)
  pub is : c ≡ command_of y.letter (between 1 (length r.rest.now) r.rest.now)

module _ (r : Reader) (before : List Entry) (y : Layout) (c : Command) (up : Upcoming r y c) where
  abbrev byte : ℕ
  byte = get_or r.rest.now 0 0

  abbrev behind : List ℕ
  behind = between 1 (length r.rest.now) r.rest.now

  begins : r.rest.now ≡ byte ∷ behind
  begins = first_rest r.rest.now 0 up.some

  known : (letter_at byte ≡ Some y.letter) × (y ≡ layout_of y.letter)
  known = known_layout byte y up.row

  wide : y.name + y.text + y.span ≡ width y.letter
  wide = known_width y known.1

  fits : width y.letter ≤ length behind
  fits = omega (arith, up.complete, wide)

  -- the command of its letter over these bytes
  over : (P : Command → Type 0) → P c → P (command_of y.letter behind)
  over P p = subst P up.is p

  module _ (r' : Reader) where
    refused : (answer : Result Entry Reason) (reason : Reason) → answer ≡ Err reason → turn r.source.now before (standing r).rows byte behind ≡ Err reason → r' ≡ r → Stepped r r' before r.rest.now answer
    refused answer reason gave told same =
        let P : List ℕ → Type 0 = λ xs. Stepped r r' before xs answer in
        let Q : Result Entry Reason → Type 0 = Stepped r r' before (byte ∷ behind) in
        subst P (sym begins) (subst Q (sym gave) (told, same))

    pub refused_operands : (answer : Result Entry Reason) (reason : Reason) → answer ≡ Err reason → operand_fault r.source.now c ≡ Some reason → r' ≡ r → Stepped r r' before r.rest.now answer
    refused_operands answer reason gave asks same = refused answer reason gave (turn_operand r.source.now before (standing r).rows byte behind y.letter known.0 fits reason (over (λ d. operand_fault r.source.now d ≡ Some reason) asks)) same

    pub refused_place : (answer : Result Entry Reason) (reason : Reason) → answer ≡ Err reason → operand_fault r.source.now c ≡ None → place_fault r.source.now before (standing r).rows c ≡ Some reason → r' ≡ r → Stepped r r' before r.rest.now answer
    refused_place answer reason gave asks place same = refused answer reason gave (turn_place r.source.now before (standing r).rows byte behind y.letter known.0 fits reason (over (λ d. operand_fault r.source.now d ≡ None) asks) (over (λ d. place_fault r.source.now before (standing r).rows d ≡ Some reason) place)) same

    pub stepped : (e : Entry) → e ≡ entry (standing r) c → operand_fault r.source.now c ≡ None → place_fault r.source.now before (standing r).rows c ≡ None → standing r' ≡ taken (length before) (standing r) c → Moved r r' (between (y.name + y.text + y.span) (length behind) behind) → Stepped r r' before r.rest.now (Ok e)
    stepped e held asks place stands moved =
        let told : turn r.source.now before (standing r).rows byte behind ≡ Ok c = turn_taken r.source.now before (standing r).rows byte behind y.letter known.0 fits (over (λ d. operand_fault r.source.now d ≡ None) asks) (over (λ d. place_fault r.source.now before (standing r).rows d ≡ None) place) ∙ ap Ok (sym up.is) in
        let same : width (letter_of c) ≡ width y.letter = ap width (ap letter_of up.is ∙ letter_of_command y.letter behind) in
        let P : List ℕ → Type 0 = λ xs. Stepped r r' before xs (Ok e) in
        let Q : Entry → Type 0 = λ x. Stepped r r' before (byte ∷ behind) (Ok x) in
        let M : List ℕ → Type 0 = Moved r r' in
        subst P (sym begins) (subst Q (sym held) (told, refl, stands, subst M (take_rest behind _ ∙ ap (λ (n : ℕ). drop n behind) (wide ∙ sym same)) moved, omega (arith, fits, same)))
