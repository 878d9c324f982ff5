-- A record that is being read. Assumes nothing.
use Rattle.std.proofs.Common.{◌≡◌, ℕ, zero, suc, ◌+◌, ◌<◌, ◌≤◌, Bool, true, false, ◌⊎◌, List, [], ◌∷◌, ◌++◌, length, drop, Ok, Err, Result, sym, refl, ap, ◌∙◌, inl, inr, ⊎_elim, arith, length-drop}
use Rattle.record.specs.declared.command.Command.{Command}
use Rattle.record.specs.declared.command.Command.TheVariants.{End}
use Rattle.record.specs.declared.command.Entry.{Entry}
use Rattle.record.specs.declared.fault.Reason.{Reason}
use Rattle.record.specs.declared.fault.Reason.TheVariants.{Unfinished}
use Rattle.record.specs.declared.fault.RecordFault.{RecordFault}
use Rattle.reader.specs.declared.nest.Nest.{Nest}
use Rattle.reader.specs.declared.state.Reader.{Reader}
use Rattle.record.specs.Kinds.{is_end, letter_of}
use Rattle.record.specs.Letters.{width}
use Rattle.reader.specs.Questions.{Standing}
use Rattle.reader.specs.Reading.{counted, ended, entry, read, read_from, refused, taken, turn}
use Rattle.reader.specs.Rows.{Finished, Next, Stepped, position, standing}
use Rattle.reader.proofs.Held.{length_rows}

pub skipped : (source : List ℕ) (es : List Entry) (s : Standing) (at k : ℕ) (bs : List ℕ) → k ≤ length bs → read_from source es s at k bs ≡ read_from source es s at 0 (drop k bs)
skipped source es s at zero bs h = refl
skipped source es s at (suc k) [] h = absurd (omega arith)
skipped source es s at (suc k) (b ∷ bs) h = skipped source es s at k bs (omega arith)

module _ (source : List ℕ) (es : List Entry) (s : Standing) (at b : ℕ) (bs : List ℕ) where
  -- what a turn makes of the rest
  abbrev pub onward : Command → Bool → Result (List Entry) RecordFault
  onward c true = ended (es ++ entry s c ∷ []) s.rows (at + 1) bs
  onward c false = read_from source (es ++ entry s c ∷ []) (taken (length es) s c) (at + 1 + width (letter_of c)) (width (letter_of c)) bs

  abbrev pub turned : Result Command Reason → Result (List Entry) RecordFault
  turned (Ok c) = onward c (is_end c)
  turned (Err r) = refused r at

  pub read_refused : (r : Reason) → turn source es s.rows b bs ≡ Err r → read_from source es s at 0 (b ∷ bs) ≡ refused r at
  read_refused r told = ap turned told

  pub read_ended : (c : Command) → turn source es s.rows b bs ≡ Ok c → is_end c ≡ true → read_from source es s at 0 (b ∷ bs) ≡ ended (es ++ entry s c ∷ []) s.rows (at + 1) bs
  read_ended c told e = ap turned told ∙ ap (onward c) e

  pub read_taken : (c : Command) → turn source es s.rows b bs ≡ Ok c → is_end c ≡ false → width (letter_of c) ≤ length bs → read_from source es s at 0 (b ∷ bs) ≡ read_from source (es ++ entry s c ∷ []) (taken (length es) s c) (at + 1 + width (letter_of c)) 0 (drop (width (letter_of c)) bs)
  read_taken c told e h = ap turned told ∙ ap (onward c) e ∙ skipped source (es ++ entry s c ∷ []) (taken (length es) s c) (at + 1 + width (letter_of c)) (width (letter_of c)) bs h

pub end_is : (c : Command) → is_end c ≡ true → c ≡ End
end_is c e = grind arith

length_counted : (rows : List Nest) (body : ℕ) → length (counted rows body).rows ≡ length rows
length_counted rows body = grind arith

-- Z is the last byte, and nothing is open
ended_whole : (es : List Entry) (rows : List Nest) (at : ℕ) (bs : List ℕ) → length rows ≡ 0 → length bs ≡ 0 → ended es rows at bs ≡ Ok es
ended_whole es rows at bs h g = grind arith

ended_early : (es : List Entry) (rows : List Nest) (at : ℕ) (bs : List ℕ) → (0 < length rows) ⊎ (0 < length bs) → ended es rows at bs ≡ refused Unfinished at
ended_early es rows at bs h = grind arith

-- each command takes a byte at least
pub shorter : (r r' : Reader) (es : List Entry) (e : Entry) → Next r r' es (Ok e) → length r'.rest.now < length r.rest.now
shorter r r' es e h = go r.rest.now refl h
  where
    go : (rest : List ℕ) → r.rest.now ≡ rest → Stepped r r' es rest (Ok e) → length r'.rest.now < length r.rest.now
    go [] is t = absurd t
    go (b ∷ bs) is t = omega (arith, ap length is, ap length t.3.rest, length-drop (width (letter_of e.command)) bs)

-- the commands `es` were read, and what is left gives the whole answer
pub record Underway (source bytes : List ℕ) (es : List Entry) (r : Reader) : Type 0 where
  pub text : r.source.now ≡ source
  pub whole : r.bytes.now ≡ bytes
  pub gives : read_from source es (standing r) (position r) 0 r.rest.now ≡ read source bytes

module _ (source bytes : List ℕ) (es : List Entry) (r r' : Reader) (u : Underway source bytes es r) where
  -- the turn, over the source that is read
  told_of : (b : ℕ) (bs : List ℕ) (x : Result Command Reason) → turn r.source.now es (standing r).rows b bs ≡ x → turn source es (standing r).rows b bs ≡ x
  told_of b bs x told = sym (ap (λ (t : List ℕ). turn t es (standing r).rows b bs) u.text) ∙ told

  from_rest : (rest : List ℕ) → r.rest.now ≡ rest → read_from source es (standing r) (position r) 0 rest ≡ read source bytes
  from_rest rest is = sym (ap (read_from source es (standing r) (position r) 0) is) ∙ u.gives

  pub fault_read : (fault : RecordFault) → Next r r' es (Err fault) → read source bytes ≡ Err fault
  fault_read fault h = go r.rest.now refl h.0
    where
      go : (rest : List ℕ) → r.rest.now ≡ rest → Stepped r r' es rest (Err fault.reason) → read source bytes ≡ Err fault
      go [] is t = sym (from_rest [] is) ∙ (λ i. Err record { reason = sym t.0 i; at = sym h.1 i })
      go (b ∷ bs) is t = sym (from_rest (b ∷ bs) is) ∙ read_refused source es (standing r) (position r) b bs fault.reason (told_of b bs _ t.0) ∙ (λ i. Err record { reason = fault.reason; at = sym h.1 i })

  -- the command that was taken, and what was left of the record
  record Begun (e : Entry) : Type 0 where
    byte : ℕ
    behind : List ℕ
    is : r.rest.now ≡ byte ∷ behind
    told : Stepped r r' es (byte ∷ behind) (Ok e)

  begun : (e : Entry) → Next r r' es (Ok e) → Begun e
  begun e h = go r.rest.now refl h
    where
      go : (rest : List ℕ) → r.rest.now ≡ rest → Stepped r r' es rest (Ok e) → Begun e
      go [] is t = absurd t
      go (b ∷ bs) is t = record { byte = b; behind = bs; is = is; told = t }

  module _ (e : Entry) (h : Next r r' es (Ok e)) where
    abbrev b : ℕ
    b = (begun e h).byte

    abbrev bs : List ℕ
    bs = (begun e h).behind

    is : r.rest.now ≡ b ∷ bs
    is = (begun e h).is

    t : Stepped r r' es (b ∷ bs) (Ok e)
    t = (begun e h).told

    -- where the reader stands then
    moved_on : position r' ≡ position r + 1 + width (letter_of e.command)
    moved_on = omega (arith, ap length is, ap length t.3.bytes, ap length t.3.rest, length-drop (width (letter_of e.command)) bs, t.4, r.rest_within)

    pub underway_more : (es' : List Entry) → is_end e.command ≡ false → es' ≡ es ++ e ∷ [] → Underway source bytes es' r'
    underway_more es' not_end pushed =
        let more = read_taken source es (standing r) (position r) b bs e.command (told_of b bs _ t.0) not_end t.4 in
        record {
          text = t.3.source ∙ u.text;
          whole = t.3.bytes ∙ u.whole;
          gives = (λ i. read_from source ((pushed ∙ ap (λ (x : Entry). es ++ x ∷ []) t.1) i) (t.2 i) (moved_on i) 0 (t.3.rest i)) ∙ sym more ∙ from_rest (b ∷ bs) is;
        }

    -- after Z as many containers are open as before it, and its bytes are all that was taken
    module _ (is_last : is_end e.command ≡ true) (es' : List Entry) (pushed : es' ≡ es ++ e ∷ []) where
      no_operands : width (letter_of e.command) ≡ 0
      no_operands = ap (λ (c : Command). width (letter_of c)) (end_is e.command is_last)

      open_then : length (standing r).rows ≡ r'.depth
      open_then =
          sym (length_counted (standing r).rows (standing r).body)
          ∙ sym (ap (λ (s : Standing). length s.rows) (t.2 ∙ ap (taken (length es) (standing r)) (end_is e.command is_last)))
          ∙ length_rows r'.depth r'.nests

      left_then : length r'.rest.now ≡ length bs
      left_then = omega (arith, ap length t.3.rest, length-drop (width (letter_of e.command)) bs, no_operands)

      read_last : read source bytes ≡ ended es' (standing r).rows (position r + 1) bs
      read_last =
          sym (from_rest (b ∷ bs) is)
          ∙ read_ended source es (standing r) (position r) b bs e.command (told_of b bs _ t.0) is_last
          ∙ ap (λ (x : Entry). ended (es ++ x ∷ []) (standing r).rows (position r + 1) bs) (sym t.1)
          ∙ ap (λ (l : List Entry). ended l (standing r).rows (position r + 1) bs) (sym pushed)

      pub finished_read : Finished r' (Ok tt) → read source bytes ≡ Ok es'
      finished_read done = read_last ∙ ended_whole es' (standing r).rows (position r + 1) bs (open_then ∙ done.0) (sym left_then ∙ done.1)

      pub unfinished_read : (fault : RecordFault) → Finished r' (Err fault) → read source bytes ≡ Err fault
      unfinished_read fault early =
          let left : (0 < length (standing r).rows) ⊎ (0 < length bs) = ⊎_elim (λ d. inl (omega (arith, open_then))) (λ d. inr (omega (arith, left_then))) early.1 in
          let at : position r' ≡ position r + 1 = omega (arith, moved_on, no_operands) in
          read_last ∙ ended_early es' (standing r).rows (position r + 1) bs left ∙ ap (refused Unfinished) (sym at) ∙ ap Err (sym early.0)
