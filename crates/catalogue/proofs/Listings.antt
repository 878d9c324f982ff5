-- What a new number and a new entry make of a list's meaning.
use Rattle.std.proofs.Common.{◌≡◌, ℕ, ◌+◌, ◌-◌, Bool, true, false, cond, List, [], ◌∷◌, ◌++◌, get_or, set, is_some, Some, None, position, option_map, sym, refl, ap, ◌∙◌, arith}
use Rattle.std.specs.List.{position_or_len}
use Rattle.catalogue.specs.declared.kinds.Kind.{Kind}
use Rattle.catalogue.specs.Entries.{Entry, listed, lookup, spells}
use Rattle.catalogue.specs.Meaning.{Meaning, same, write}
use Rattle.catalogue.proofs.Sames.{at_same}
use Rattle.std.proofs.lemmas.Bool.Decides.{nat_tests}
use Rattle.std.proofs.lemmas.List.Folds.{find_at, find-append, find-set, find_past}
use Rattle.std.proofs.lemmas.List.Quantifiers.{position-Some}
use Rattle.std.proofs.lemmas.Option.{slice_get_cases, slice_get_past}
use Rattle.std.proofs.lemmas.Grind.{common_steps}

-- two meanings with the same answers are one
pub same_meaning : (a b : Meaning) → ((k : Kind) (n : List ℕ) → a.map k n ≡ b.map k n) → ((k : Kind) (n : List ℕ) → a.held k n ≡ b.held k n) → a.places ≡ b.places → a ≡ b
same_meaning a b p q r = λ i. record { map = λ k n. p k n i; held = λ k n. q k n i; places = r i }

module _ (es : List Entry) (k : Kind) (n : List ℕ) where
  pub lookup_none : None ≡ position (λ z. spells z k n) es → lookup es k n ≡ None
  lookup_none h =
      ap (option_map (λ z. z.number)) (find_at (λ z. spells z k n) es ∙ slice_get_past es (position_or_len (λ z. spells z k n) es) (grind (arith, nat_tests, h)))

  pub lookup_some : (i : ℕ) → Some i ≡ position (λ z. spells z k n) es → is_some (lookup es k n) ≡ true
  lookup_some i h = grind (arith, nat_tests, find_at (λ z. spells z k n) es, slice_get_cases es (position_or_len (λ z. spells z k n) es), h)

  module _ (k' : Kind) (n' : List ℕ) where
    pub lookup_set : (x i : ℕ) (e : Entry) → Some i ≡ position (λ z. spells z k n) es → e ≡ get_or es i e → (b : Bool) → same k n k' n' ≡ b → lookup (set es i (record { kind = e.kind; name = e.name; number = x })) k' n' ≡ cond b (Some x) (lookup es k' n')
    lookup_set x i e h r true s =
        let p = position-Some (λ z. spells z k n) es i e (sym h) in
        let named : spells e k n ≡ true = ap (λ z. spells z k n) r ∙ p.1 in
        let new : Entry = record { kind = e.kind; name = e.name; number = x } in
        sym (at_same (λ k n. lookup (set es i new) k n) k n k' n' s)
        ∙ ap (option_map (λ z. z.number)) (find-set (λ z. spells z k n) es i new (grind (arith, nat_tests, h)) p.0 named)
    lookup_set x i e h r false s =
        let p = position-Some (λ z. spells z k n) es i e (sym h) in
        let named : spells e k n ≡ true = ap (λ z. spells z k n) r ∙ p.1 in
        let other : spells e k' n' ≡ false = at_same (λ k n. same k n k' n') e.kind e.name.items k n named ∙ s in
        ap (option_map (λ z. z.number)) (find_past (λ z. spells z k' n') es i (record { kind = e.kind; name = e.name; number = x }) e (ap (λ z. spells z k' n') (sym r) ∙ other) other)

    pub lookup_push : (e : Entry) → None ≡ position (λ z. spells z k n) es → e.kind ≡ k → e.name.items ≡ n → (b : Bool) → same k n k' n' ≡ b → lookup (es ++ e ∷ []) k' n' ≡ cond b (Some e.number) (lookup es k' n')
    lookup_push e h p q true s = grind (arith, common_steps, find-append (λ z. spells z k' n') es (e ∷ []), sym (at_same (lookup es) k n k' n' s) ∙ lookup_none h)
    lookup_push e h p q false s = grind (arith, common_steps, find-append (λ z. spells z k' n') es (e ∷ []))

  module _ (p p' : ℕ) where
    -- a list whose look-ups are so changed means what is written
    pub wrote : (es' : List Entry) (x : ℕ) → ((k' : Kind) (n' : List ℕ) → lookup es' k' n' ≡ cond (same k n k' n') (Some x) (lookup es k' n')) → p' ≡ p - cond (is_some (lookup es k n)) 0 1 → listed es' p' ≡ write (listed es p) k n x
    wrote es' x h e = same_meaning (listed es' p') (write (listed es p) k n x) h (λ k' n'. grind (arith, nat_tests, h k' n')) e

    pub set_writes : (x i : ℕ) (e : Entry) → Some i ≡ position (λ z. spells z k n) es → e ≡ get_or es i e → p' ≡ p → listed (set es i (record { kind = e.kind; name = e.name; number = x })) p' ≡ write (listed es p) k n x
    set_writes x i e h r paid = wrote _ x (λ k' n'. lookup_set k' n' x i e h r _ refl) (grind (arith, nat_tests, lookup_some i h))

    pub push_writes : (e : Entry) (es' : List Entry) → None ≡ position (λ z. spells z k n) es → e.kind ≡ k → e.name.items ≡ n → es' ≡ es ++ e ∷ [] → p' + 1 ≡ p → listed es' p' ≡ write (listed es p) k n e.number
    push_writes e es' h kind named pushed paid =
        wrote es' e.number (rw pushed (λ k' n'. lookup_push k' n' e h kind named _ refl)) (grind (arith, nat_tests, lookup_none h))
