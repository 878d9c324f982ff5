-- A record is read to its end exactly where its commands are well formed. Assumes nothing.
use Rattle.std.proofs.Common.{◌≡◌, ℕ, suc, ◌+◌, ◌<◌, Bool, true, false, cond, ◌&&◌, ◌||◌, ltb, leb, ◌==◌, List, [], ◌∷◌, ◌++◌, map, length, Some, None, Ok, Err, Option, Result, sym, refl, ap, ◌∙◌, subst, arith}
use Rattle.std.specs.List.{AllByRecursion}
use Rattle.std.proofs.lemmas.List.{append_assoc, length-map, length_push, map_push}
use Rattle.std.proofs.lemmas.Bool.{and_from, and_parts, cond-true, cond-false, le-leb, leb-true, lt-ltb, ltb-true}
use Rattle.text.specs.Lines.{breaks}
use Rattle.text.specs.Spans.{lawful_in}
use Rattle.text.specs.Texts.{inside, part_bytes, part_fault}
use Rattle.text.specs.Utf8.{utf8}
use Rattle.text.specs.declared.fault.TextFault.TheVariants.{Outside, NotUtf8}
use Rattle.text.specs.declared.part.Part.{Part}
use Rattle.text.specs.declared.span.Span.{Span}
use Rattle.text.proofs.Decoding.{utf8_decides}
use Rattle.std.proofs.lemmas.List.Splits.{length-slice_split}
use Rattle.record.specs.declared.command.Command.{Command}
use Rattle.record.specs.declared.command.Command.TheVariants.{End}
use Rattle.record.specs.declared.command.Container.{Container}
use Rattle.record.specs.declared.command.Entry.{Entry}
use Rattle.record.specs.declared.fault.ReadError.{ReadError}
use Rattle.record.specs.declared.fault.ReadError.TheVariants.{Record, Memory}
use Rattle.record.specs.declared.fault.Reason.{Reason}
use Rattle.record.specs.declared.fault.Reason.TheVariants.{Span as NotLawful, Misplaced, Repeated, TooDeep}
use Rattle.record.specs.declared.fault.RecordFault.{RecordFault}
use Rattle.reader.specs.declared.listing.Listing.{Listing}
use Rattle.reader.specs.declared.nest.Nest.{Nest}
use Rattle.record.specs.Kinds.{opens, part_of, span_of}
use Rattle.record.specs.Openers.{opens_named}
use Rattle.reader.specs.Places.{commands_of}
use Rattle.reader.specs.Questions.{Standing, allowed, asks_depth, asks_new, asks_part, asks_span, declared, fault_of, not_text, operand_fault, or_else, place_fault, stands}
use Rattle.reader.specs.Reading.{entry, read, taken}
use Rattle.reader.specs.Records.{Accepted, Judged, Reads, entries_of}
use Rattle.reader.specs.WellFormed.{Distinct, Holds, Lawful, TextInside, WellFormed, names}
use Rattle.reader.specs.Written.{written}
use Rattle.reader.proofs.Bytes.{Bytes}
use Rattle.reader.proofs.Chains.{Chain, apart, made, read_again}
use Rattle.reader.proofs.Chains.Chain.{last, next}
use Rattle.reader.proofs.Novelty.{New, among, distinct, new}
use Rattle.reader.proofs.Placing.{chain_innermost}
use Rattle.reader.proofs.Shapes.{Steps, moved, shaped, stands_in, steps}
use Rattle.reader.proofs.Shapes.Steps.{stop, go}
use Rattle.reader.proofs.Underway.{end_is}

neither : (a b : Option Reason) → or_else a b ≡ None → (a ≡ None) × (b ≡ None)
neither a b e = grind arith

-- a question that gives no reason was answered well
none_true : {X : Type 0} (t : Bool) (x : X) → cond t None (Some x) ≡ None → t ≡ true
none_true t x e = grind arith

none_false : {X : Type 0} (t : Bool) (x : X) → cond t (Some x) None ≡ None → t ≡ false
none_false t x e = grind arith

-- ---- operands

part_ok : (source : List ℕ) (p : Part) → part_fault source p ≡ None → TextInside source p
part_ok source p e = go (inside source p) refl (utf8 (part_bytes source p)) refl e
  where
    go : (a : Bool) → inside source p ≡ a → (b : Bool) → utf8 (part_bytes source p) ≡ b → cond a (cond b None (Some NotUtf8)) (Some Outside) ≡ None → TextInside source p
    go true i true u f = record { inside = leb-true (p.start + p.len) (length source) i; text = (utf8_decides (part_bytes source p)).0 u }
    go true i false u f = grind arith
    go false i b u f = grind arith

part_back : (source : List ℕ) (p : Part) → TextInside source p → part_fault source p ≡ None
part_back source p h =
    cond-true (inside source p) _ _ (le-leb (p.start + p.len) (length source) h.inside)
    ∙ cond-true (utf8 (part_bytes source p)) None (Some NotUtf8) ((utf8_decides (part_bytes source p)).1 h.text)

text_ok : (source : List ℕ) (o : Option Part) → not_text (asks_part source o) ≡ None → Holds (TextInside source) o
text_ok source None e = tt
text_ok source (Some p) e = part_ok source p (grind arith)

text_back : (source : List ℕ) (o : Option Part) → Holds (TextInside source) o → not_text (asks_part source o) ≡ None
text_back source None h = refl
text_back source (Some p) h = ap not_text (part_back source p h)

span_ok : (source : List ℕ) (o : Option Span) → asks_span source o ≡ None → Holds (Lawful source) o
span_ok source None e = tt
span_ok source (Some s) e =
    let count = breaks source + 1 in
    let ends = leb s.from s.to && leb s.to (length source) in
    let a = and_parts (leb 1 s.start_line) (leb s.start_line count && ends) (none_true (lawful_in source s) NotLawful e) in
    let b = and_parts (leb s.start_line count) ends a.1 in
    let c = and_parts (leb s.from s.to) (leb s.to (length source)) b.1 in
    record {
      first = leb-true _ _ a.0;
      last = omega (arith, leb-true s.start_line count b.0, length-slice_split (λ b. b == 10) source);
      forward = leb-true _ _ c.0;
      inside = leb-true _ _ c.1;
    }

span_back : (source : List ℕ) (o : Option Span) → Holds (Lawful source) o → asks_span source o ≡ None
span_back source None h = refl
span_back source (Some s) h =
    cond-true (lawful_in source s) None (Some NotLawful)
    (and_from _ _ (le-leb _ _ h.first) (and_from _ _ (le-leb _ _ (omega (arith, h.last, length-slice_split (λ b. b == 10) source))) (and_from _ _ (le-leb _ _ h.forward) (le-leb _ _ h.inside))))

-- ---- places

abbrev kinds : List Nest → List Container
kinds rows = map (λ (r : Nest). r.container) rows

stands_kinds : (n : ℕ) (rows : List Nest) → stands n rows ≡ stands_in n (kinds rows)
stands_kinds n rows = grind arith

kinds_taken : (n : ℕ) (rows : List Nest) (body : ℕ) (c : Command) → kinds (taken n record { rows = rows; body = body } c).rows ≡ moved (kinds rows) c
kinds_taken n rows body c = grind arith

declared_among : (source : List ℕ) (kind : Container) (name : List ℕ) (es : List Entry) → declared source kind name es ≡ among source kind name (commands_of es)
declared_among source kind name [] = refl
declared_among source kind name (e ∷ es) = ap (λ (t : Bool). opens_named source kind name (opens e.command) || t) (declared_among source kind name es)

new_ok : (source : List ℕ) (es : List Entry) (o : Option (Container × Part)) → asks_new source es o ≡ None → Holds (λ q. among source q.0 (part_bytes source q.1) (commands_of es) ≡ false) o
new_ok source es None e = tt
new_ok source es (Some q) e =
    let known = declared source q.0 (part_bytes source q.1) es in
    sym (declared_among source q.0 (part_bytes source q.1) es) ∙ none_false known Repeated e

new_back : (source : List ℕ) (es : List Entry) (o : Option (Container × Part)) → Holds (λ q. among source q.0 (part_bytes source q.1) (commands_of es) ≡ false) o → asks_new source es o ≡ None
new_back source es None h = refl
new_back source es (Some q) h = cond-false _ _ _ (declared_among source q.0 (part_bytes source q.1) es ∙ h)

depth_ok : (rows : List Nest) (o : Option (Container × Part)) → asks_depth rows o ≡ None → Holds (λ _. length (kinds rows) < 16) o
depth_ok rows None e = tt
depth_ok rows (Some q) e =
    let few = ltb-true (length rows) 16 (none_true (ltb (length rows) 16) TooDeep e) in
    omega (arith, few, length-map rows (λ (r : Nest). r.container))

depth_back : (rows : List Nest) (o : Option (Container × Part)) → Holds (λ _. length (kinds rows) < 16) o → asks_depth rows o ≡ None
depth_back rows None h = refl
depth_back rows (Some q) h = cond-true (ltb (length rows) 16) None (Some TooDeep) (lt-ltb (length rows) 16 (omega (arith, h, length-map rows (λ (r : Nest). r.container))))

-- ---- what a chain of commands says of them

pub record SoundChain (source : List ℕ) (es : List Entry) (s : Standing) (cs : List Command) : Type 0 where
  pub texts : AllByRecursion (λ (c : Command). Holds (TextInside source) (part_of c)) cs
  pub spans : AllByRecursion (λ (c : Command). Holds (Lawful source) (span_of c)) cs
  pub steps : Steps (length es) (kinds s.rows) cs
  pub new : New source (commands_of es) cs

commands_push : (es : List Entry) (s : Standing) (c : Command) → commands_of (es ++ entry s c ∷ []) ≡ commands_of es ++ c ∷ []
commands_push es s c = map_push (λ (e : Entry). e.command) es (entry s c)

length_more : (es : List Entry) (s : Standing) (c : Command) → length (es ++ entry s c ∷ []) ≡ suc (length es)
length_more es s c = omega (arith, length_push es (entry s c))

module _ (source : List ℕ) (es : List Entry) (s : Standing) (c : Command) (none : fault_of source es s.rows c ≡ None) where
  fault_parts : (operand_fault source c ≡ None) × (place_fault source es s.rows c ≡ None)
  fault_parts = neither (operand_fault source c) (place_fault source es s.rows c) none

  operand_parts : (not_text (asks_part source (part_of c)) ≡ None) × (asks_span source (span_of c) ≡ None)
  operand_parts = neither (not_text (asks_part source (part_of c))) (asks_span source (span_of c)) fault_parts.0

  place_parts : (allowed (stands (length es) s.rows) c ≡ true) × (asks_new source es (opens c) ≡ None) × (asks_depth s.rows (opens c) ≡ None)
  place_parts =
      let a = neither (cond (allowed (stands (length es) s.rows) c) None (Some Misplaced)) (or_else (asks_new source es (opens c)) (asks_depth s.rows (opens c))) fault_parts.1 in
      let b = neither (asks_new source es (opens c)) (asks_depth s.rows (opens c)) a.1 in
      (none_true _ Misplaced a.0, b.0, b.1)

chain_sound : (source : List ℕ) (es : List Entry) (s : Standing) (cs : List Command) (out : List Entry) → Chain source es s cs out → SoundChain source es s cs
chain_sound source es s cs out (last es₁ s₁ c t none nothing) =
    let p = operand_parts source es₁ s₁ c none in
    let q = place_parts source es₁ s₁ c none in
    record {
      texts = (text_ok source (part_of c) p.0, tt);
      spans = (span_ok source (span_of c) p.1, tt);
      steps = subst (λ (d : Command). Steps (length es₁) (kinds s₁.rows) (d ∷ [])) (sym (end_is c t)) (subst (λ (rows : List Nest). Steps (length es₁) (kinds rows) (End ∷ [])) (sym nothing) (stop (length es₁)));
      new = (new_ok source es₁ (opens c) q.1, tt);
    }
chain_sound source es s cs out (next es₁ s₁ c cs₁ out₁ t none chain) =
    let p = operand_parts source es₁ s₁ c none in
    let q = place_parts source es₁ s₁ c none in
    let ih = chain_sound source (es₁ ++ entry s₁ c ∷ []) (taken (length es₁) s₁ c) cs₁ out₁ chain in
    let T : ℕ → Type 0 = λ n. Steps n (kinds (taken (length es₁) s₁ c).rows) cs₁ in
    let K : List Container → Type 0 = λ ks. Steps (suc (length es₁)) ks cs₁ in
    let N : List Command → Type 0 = λ before. New source before cs₁ in
    record {
      texts = (text_ok source (part_of c) p.0, ih.texts);
      spans = (span_ok source (span_of c) p.1, ih.spans);
      steps = go (length es₁) (kinds s₁.rows) c cs₁ t (sym (ap (λ x. allowed x c) (stands_kinds (length es₁) s₁.rows)) ∙ q.0) (depth_ok s₁.rows (opens c) q.2) (subst K (kinds_taken (length es₁) s₁.rows s₁.body c) (subst T (length_more es₁ s₁ c) ih.steps));
      new = (new_ok source es₁ (opens c) q.1, subst N (commands_push es₁ s₁ c) ih.new);
    }

-- ---- and back

faultless : (source : List ℕ) (es : List Entry) (s : Standing) (c : Command) → Holds (TextInside source) (part_of c) → Holds (Lawful source) (span_of c) → allowed (stands (length es) s.rows) c ≡ true → Holds (λ q. among source q.0 (part_bytes source q.1) (commands_of es) ≡ false) (opens c) → Holds (λ _. length (kinds s.rows) < 16) (opens c) → fault_of source es s.rows c ≡ None
faultless source es s c text span may fresh deep =
    (λ i. or_else (or_else (text_back source (part_of c) text i) (asks_span source (span_of c))) (place_fault source es s.rows c))
    ∙ (λ i. or_else (span_back source (span_of c) span i) (place_fault source es s.rows c))
    ∙ (λ i. or_else (cond-true (allowed (stands (length es) s.rows) c) None (Some Misplaced) may i) (or_else (asks_new source es (opens c)) (asks_depth s.rows (opens c))))
    ∙ (λ i. or_else (new_back source es (opens c) fresh i) (asks_depth s.rows (opens c)))
    ∙ depth_back s.rows (opens c) deep

chain_back : (source : List ℕ) (n : ℕ) (ks : List Container) (cs : List Command) → Steps n ks cs → (es : List Entry) (s : Standing) → n ≡ length es → ks ≡ kinds s.rows → AllByRecursion (λ (c : Command). Holds (TextInside source) (part_of c)) cs → AllByRecursion (λ (c : Command). Holds (Lawful source) (span_of c)) cs → New source (commands_of es) cs → (out : List Entry) × Chain source es s cs out
chain_back source n ks cs (stop m) es s count is texts spans fresh =
    let nothing = no_kinds s.rows (sym is) in
    (es ++ entry s End ∷ [], last es s End refl refl nothing)
  where
    no_kinds : (rows : List Nest) → kinds rows ≡ [] → rows ≡ []
    no_kinds [] e = refl
    no_kinds (r ∷ rows) e = grind arith
chain_back source n ks cs (go m ks₁ c cs₁ t a deep rest) es s count is texts spans fresh =
    let A : List Container → Type 0 = λ x. allowed (stands_in m x) c ≡ true in
    let B : ℕ → Type 0 = λ x. allowed (stands_in x (kinds s.rows)) c ≡ true in
    let D : List Container → Type 0 = λ x. Holds (λ _. length x < 16) (opens c) in
    let may = ap (λ x. allowed x c) (stands_kinds (length es) s.rows) ∙ subst B count (subst A is a) in
    let none = faultless source es s c texts.0 spans.0 may fresh.0 (subst D is deep) in
    let N : List Command → Type 0 = λ before. New source before cs₁ in
    let more = chain_back source (suc m) (moved ks₁ c) cs₁ rest (es ++ entry s c ∷ []) (taken (length es) s c) (ap suc count ∙ sym (length_more es s c)) (ap (λ x. moved x c) is ∙ sym (kinds_taken (length es) s.rows s.body c)) texts.1 spans.1 (subst N (sym (commands_push es s c)) fresh.1) in
    (more.0, next es s c cs₁ more.0 t none more.1)

-- the entries hold the commands
chain_commands : (source : List ℕ) (es : List Entry) (s : Standing) (cs : List Command) (out : List Entry) → Chain source es s cs out → commands_of out ≡ commands_of es ++ cs
chain_commands source es s cs out (last es₁ s₁ c t none nothing) = commands_push es₁ s₁ c
chain_commands source es s cs out (next es₁ s₁ c cs₁ out₁ t none chain) =
    chain_commands source (es₁ ++ entry s₁ c ∷ []) (taken (length es₁) s₁ c) cs₁ out₁ chain
    ∙ ap (λ (l : List Command). l ++ cs₁) (commands_push es₁ s₁ c)
    ∙ append_assoc (commands_of es₁) (c ∷ []) cs₁

-- ---- the whole

abbrev start : Standing
start = record { rows = []; body = 0 }

pub accepted : (source bytes : List ℕ) (out : List Entry) → Bytes bytes → read source bytes ≡ Ok out → Accepted source bytes out
accepted source bytes out small told =
    let m = made source bytes [] start 0 0 out small (omega arith) told in
    let h = chain_sound source [] start m.commands out m.chain in
    let same = chain_commands source [] start m.commands out m.chain in
    let W : List Command → Type 0 = WellFormed source in
    record {
      well_formed = subst W (sym same) (record { texts = h.texts; spans = h.spans; shape = shaped m.commands h.steps; distinct = λ kind. (distinct source kind [] m.commands h.new).0 });
      whole = ap written same ∙ m.is;
      innermost = chain_innermost source m.commands out m.chain;
    }

pub read_well_formed : (source bytes : List ℕ) (cs : List Command) → WellFormed source cs → written cs ≡ bytes → (out : List Entry) × (read source bytes ≡ Ok out)
read_well_formed source bytes cs h is =
    let apart : (kind : Container) → Distinct (names source kind cs) × AllByRecursion (λ (n : List ℕ). AllByRecursion (λ (y : List ℕ). y ≡ n → ⊥) []) (names source kind cs) = λ kind. (h.distinct kind, nothing_before (names source kind cs)) in
    let c = chain_back source 0 [] cs (steps cs h.shape) [] start refl refl h.texts h.spans (new source [] cs apart) in
    (c.0, ap (read source) (sym is) ∙ read_again source [] start cs c.0 c.1 0)
  where
    nothing_before : (ns : List (List ℕ)) → AllByRecursion (λ (n : List ℕ). AllByRecursion (λ (y : List ℕ). y ≡ n → ⊥) []) ns
    nothing_before [] = tt
    nothing_before (n ∷ ns) = (tt, nothing_before ns)

-- what the definition gives is right by the grammar
pub judged : (source bytes : List ℕ) (r : Result Listing ReadError) → Bytes bytes → Reads source bytes r → Judged source bytes r
judged source bytes (Ok l) small h = accepted source bytes (entries_of l) small h.1
judged source bytes (Err (Record fault)) small h = λ cs well e. apart (sym h ∙ (read_well_formed source bytes cs well e).1)
judged source bytes (Err Memory) small h = tt

-- what a refused record answers
pub refused : (source bytes : List ℕ) (fault : RecordFault) (r : Result Listing ReadError) → Bytes bytes → r ≡ Err (Record fault) → read source bytes ≡ Err fault → Reads source bytes r × Judged source bytes r
refused source bytes fault r small is told =
    let reads : Reads source bytes r = subst (Reads source bytes) (sym is) told in
    (reads, judged source bytes r small reads)
