-- Names that are new as they come are distinct, and the other way round. Assumes nothing.
use Rattle.std.proofs.Common.{◌≡◌, ℕ, Bool, true, false, cond, ◌&&◌, ◌||◌, List, [], ◌∷◌, ◌++◌, Some, None, Option, sym, refl, ap, ◌∙◌, subst, ⊎_elim, arith}
use Rattle.std.specs.List.{AllByRecursion}
use Rattle.std.specs.Str.{bytes_eq}
use Rattle.std.proofs.lemmas.List.Elements.{All-append, All-from_recursion, All-weaker, recursion_from_All}
use Rattle.std.proofs.lemmas.Slice.Eq.{bytes_eq-Decides}
use Rattle.std.proofs.lemmas.Bool.{both_ways, cases_Bool, false≢true, or_parts, or_from}
use Rattle.text.specs.Texts.{part_bytes}
use Rattle.text.specs.declared.part.Part.{Part}
use Rattle.record.specs.declared.command.Command.{Command}
use Rattle.record.specs.declared.command.Container.{Container}
use Rattle.record.specs.Kinds.{opens}
use Rattle.record.specs.Openers.{opens_named, same_container}
use Rattle.reader.specs.WellFormed.{Distinct, Holds, names, names_from}
use Rattle.record.proofs.Sameness.{same_itself, same_true}

-- no name of the list is this one
abbrev pub Absent : List ℕ → List (List ℕ) → Type 0
Absent x ys = AllByRecursion (λ (y : List ℕ). y ≡ x → ⊥) ys

module _ (source : List ℕ) where
  -- is a container of that kind and name opened by one of the commands?
  abbrev pub among : Container → List ℕ → List Command → Bool
  among kind name [] = false
  among kind name (c ∷ cs) = opens_named source kind name (opens c) || among kind name cs

  -- each container that is opened has a name that no earlier one of its kind has
  abbrev pub New : List Command → List Command → Type 0
  New before [] = Unit {0}
  New before (c ∷ cs) = Holds (λ q. among q.0 (part_bytes source q.1) before ≡ false) (opens c) × New (before ++ c ∷ []) cs

  named_once : (kind : Container) (name : List ℕ) (o : Option (Container × Part)) → opens_named source kind name o ≡ false → (ns : List (List ℕ)) → Absent name ns → Absent name (names_from source kind o ns)
  named_once kind name None e ns h = h
  named_once kind name (Some q) e ns h = go (same_container kind q.0) e
    where
      go : (t : Bool) → (t && bytes_eq (part_bytes source q.1) name) ≡ false → Absent name (cond t (part_bytes source q.1 ∷ ns) ns)
      go true f = (λ same. both_ways _ f ((bytes_eq-Decides (part_bytes source q.1) name).1 same), h)
      go false f = h

  named_back : (kind : Container) (name : List ℕ) (o : Option (Container × Part)) (ns : List (List ℕ)) → Absent name (names_from source kind o ns) → (opens_named source kind name o ≡ false) × Absent name ns
  named_back kind name None ns h = (refl, h)
  named_back kind name (Some q) ns h = go (same_container kind q.0) h
    where
      go : (t : Bool) → Absent name (cond t (part_bytes source q.1 ∷ ns) ns) → ((t && bytes_eq (part_bytes source q.1) name) ≡ false) × Absent name ns
      go true f = (⊎_elim (λ e. absurd (f.0 ((bytes_eq-Decides (part_bytes source q.1) name).0 e))) (λ e. e) (cases_Bool (bytes_eq (part_bytes source q.1) name)), f.1)
      go false f = (refl, f)

  absent : (kind : Container) (name : List ℕ) (cs : List Command) → among kind name cs ≡ false → Absent name (names source kind cs)
  absent kind name [] e = tt
  absent kind name (c ∷ cs) e =
      let parts = or_parts (opens_named source kind name (opens c)) (among kind name cs) e in
      named_once kind name (opens c) parts.0 (names source kind cs) (absent kind name cs parts.1)

  absent_back : (kind : Container) (name : List ℕ) (cs : List Command) → Absent name (names source kind cs) → among kind name cs ≡ false
  absent_back kind name [] h = refl
  absent_back kind name (c ∷ cs) h =
      let parts = named_back kind name (opens c) (names source kind cs) h in
      or_from _ _ parts.0 (absent_back kind name cs parts.1)

  from_append : (kind : Container) (o : Option (Container × Part)) (xs ys : List (List ℕ)) → names_from source kind o (xs ++ ys) ≡ names_from source kind o xs ++ ys
  from_append kind o xs ys = grind arith

  names_append : (kind : Container) (xs ys : List Command) → names source kind (xs ++ ys) ≡ names source kind xs ++ names source kind ys
  names_append kind [] ys = refl
  names_append kind (c ∷ xs) ys = ap (names_from source kind (opens c)) (names_append kind xs ys) ∙ from_append kind (opens c) (names source kind xs) (names source kind ys)

  -- none of the names is one of those before
  abbrev Apart : List (List ℕ) → List (List ℕ) → Type 0
  Apart before ns = AllByRecursion (λ (n : List ℕ). Absent n before) ns

  all_append : {X : Type 0} (P : X → Type 0) (xs ys : List X) → AllByRecursion P xs → AllByRecursion P ys → AllByRecursion P (xs ++ ys)
  all_append P xs ys h g = recursion_from_All P (xs ++ ys) (All-append P xs ys (All-from_recursion P xs h) (All-from_recursion P ys g))

  all_weaker : {X : Type 0} (P Q : X → Type 0) → ((x : X) → P x → Q x) → (xs : List X) → AllByRecursion P xs → AllByRecursion Q xs
  all_weaker P Q f xs h = recursion_from_All Q xs (All-weaker P Q f xs (All-from_recursion P xs h))

  all_append_left : {X : Type 0} (P : X → Type 0) (xs ys : List X) → AllByRecursion P (xs ++ ys) → AllByRecursion P xs
  all_append_left P [] ys h = tt
  all_append_left P (x ∷ xs) ys h = (h.0, all_append_left P xs ys h.1)

  all_append_right : {X : Type 0} (P : X → Type 0) (xs ys : List X) → AllByRecursion P (xs ++ ys) → AllByRecursion P ys
  all_append_right P [] ys h = h
  all_append_right P (x ∷ xs) ys h = all_append_right P xs ys h.1

  -- what one command more before the others adds
  module _ (kind : Container) (before : List (List ℕ)) (ns : List (List ℕ)) where
    distinct_more : (o : Option (Container × Part)) → Holds (λ q. (k : Container) → k ≡ q.0 → Absent (part_bytes source q.1) (cond (same_container kind k) before [])) o → Distinct ns → Apart (before ++ names_from source kind o []) ns → Distinct (names_from source kind o ns) × Apart before (names_from source kind o ns)
    distinct_more None h d a = (d, all_weaker _ _ (λ n x. all_append_left _ before [] x) ns a)
    distinct_more (Some q) h d a = go (same_container kind q.0) (h q.0 refl) a
      where
        go : (t : Bool) → Absent (part_bytes source q.1) (cond t before []) → Apart (before ++ cond t (part_bytes source q.1 ∷ []) []) ns → Distinct (cond t (part_bytes source q.1 ∷ ns) ns) × Apart before (cond t (part_bytes source q.1 ∷ ns) ns)
        go true f b = (
          (all_weaker _ _ (λ n x. (all_append_right _ before (part_bytes source q.1 ∷ []) x).0) ns b, d),
          (f, all_weaker _ _ (λ n x. all_append_left _ before (part_bytes source q.1 ∷ []) x) ns b),
        )
        go false f b = (d, all_weaker _ _ (λ n x. all_append_left _ before [] x) ns b)

    distinct_less : (o : Option (Container × Part)) → Distinct (names_from source kind o ns) → Apart before (names_from source kind o ns) → Distinct ns × Apart (before ++ names_from source kind o []) ns × Holds (λ q. same_container kind q.0 ≡ true → Absent (part_bytes source q.1) before) o
    distinct_less None d a = (d, all_weaker _ _ (λ n x. all_append _ before [] x tt) ns a, tt)
    distinct_less (Some q) d a = go (same_container kind q.0) d a
      where
        both : (xs : List (List ℕ)) → Apart before xs → AllByRecursion (λ (y : List ℕ). part_bytes source q.1 ≡ y → ⊥) xs → Apart (before ++ (part_bytes source q.1 ∷ [])) xs
        both [] b f = tt
        both (x ∷ xs) b f = (all_append _ before (part_bytes source q.1 ∷ []) b.0 (f.0, tt), both xs b.1 f.1)

        go : (t : Bool) → Distinct (cond t (part_bytes source q.1 ∷ ns) ns) → Apart before (cond t (part_bytes source q.1 ∷ ns) ns) → Distinct ns × Apart (before ++ cond t (part_bytes source q.1 ∷ []) []) ns × (t ≡ true → Absent (part_bytes source q.1) before)
        go true e b = (e.1, both ns b.1 e.0, λ _. b.0)
        go false e b = (e, all_weaker _ _ (λ n x. all_append _ before [] x tt) ns b, λ f. absurd (false≢true f))

  -- an opener's name is new of its kind
  held_new : (kind : Container) (before : List Command) (o : Option (Container × Part)) → Holds (λ q. among q.0 (part_bytes source q.1) before ≡ false) o → Holds (λ q. (k : Container) → k ≡ q.0 → Absent (part_bytes source q.1) (cond (same_container kind k) (names source kind before) [])) o
  held_new kind before None h = tt
  held_new kind before (Some q) h = λ k is. go k is (same_container kind k) refl
    where
      go : (k : Container) → k ≡ q.0 → (t : Bool) → same_container kind k ≡ t → Absent (part_bytes source q.1) (cond t (names source kind before) [])
      go k is true e =
          let A : Container → Type 0 = λ x. Absent (part_bytes source q.1) (names source x before) in
          subst A (sym (same_true kind k e ∙ is)) (absent q.0 (part_bytes source q.1) before h)
      go k is false e = tt

  pub distinct : (kind : Container) (before cs : List Command) → New before cs → Distinct (names source kind cs) × Apart (names source kind before) (names source kind cs)
  distinct kind before [] h = (tt, tt)
  distinct kind before (c ∷ cs) h =
      let more = distinct kind (before ++ c ∷ []) cs h.1 in
      let A : List (List ℕ) → Type 0 = λ b. Apart b (names source kind cs) in
      distinct_more kind (names source kind before) (names source kind cs) (opens c) (held_new kind before (opens c) h.0) more.0 (subst A (names_append kind before (c ∷ [])) more.1)

  -- and back, where each kind's names are distinct and apart from those before
  pub new : (before cs : List Command) → ((kind : Container) → Distinct (names source kind cs) × Apart (names source kind before) (names source kind cs)) → New before cs
  new before [] h = tt
  new before (c ∷ cs) h = (first (opens c) (λ kind. (less kind).2), new (before ++ c ∷ []) cs (λ kind. ((less kind).0, back kind)))
    where
      less : (kind : Container) → Distinct (names source kind cs) × Apart (names source kind before ++ names_from source kind (opens c) []) (names source kind cs) × Holds (λ q. same_container kind q.0 ≡ true → Absent (part_bytes source q.1) (names source kind before)) (opens c)
      less kind = distinct_less kind (names source kind before) (names source kind cs) (opens c) (h kind).0 (h kind).1

      back : (kind : Container) → Apart (names source kind (before ++ c ∷ [])) (names source kind cs)
      back kind =
          let A : List (List ℕ) → Type 0 = λ b. Apart b (names source kind cs) in
          subst A (sym (names_append kind before (c ∷ []))) (less kind).1

      first : (o : Option (Container × Part)) → ((kind : Container) → Holds (λ q. same_container kind q.0 ≡ true → Absent (part_bytes source q.1) (names source kind before)) o) → Holds (λ q. among q.0 (part_bytes source q.1) before ≡ false) o
      first None f = tt
      first (Some q) f = absent_back q.0 (part_bytes source q.1) before (f q.0 (same_itself q.0))
