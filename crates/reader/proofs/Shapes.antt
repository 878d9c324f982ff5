-- Commands that open and close in turn are properly nested, and the other way round. Assumes nothing.
use Rattle.std.proofs.Common.{◌≡◌, ℕ, suc, ◌<◌, true, false, cond, eqb, List, [], ◌∷◌, ◌++◌, length, sym, refl, ap, ◌∙◌, subst, arith, rules}
use Rattle.std.proofs.lemmas.List.{append_assoc}
use Rattle.std.proofs.lemmas.Bool.{false≢true}
use Rattle.text.specs.declared.part.Part.{Part}
use Rattle.record.specs.declared.command.Command.{Command}
use Rattle.record.specs.declared.command.Command.TheVariants.{Extends, Open, Refer, Variable, Text, Close, End}
use Rattle.record.specs.declared.command.Container.{Container}
use Rattle.record.specs.declared.command.Opener.{Opener}
use Rattle.reader.specs.declared.nest.Stands.{Stands}
use Rattle.reader.specs.declared.nest.Stands.TheVariants.{First, Outside}
use Rattle.record.specs.Kinds.{container_of, is_end, opens}
use Rattle.reader.specs.Questions.{allowed, in_container, may_close, may_extend, may_open}
use Rattle.reader.specs.WellFormed.{Heading, Holds, MayHold, Nested, Scope, Shaped, is_plain}
use Rattle.reader.specs.WellFormed.Nested.{nothing, plain, holds}
use Rattle.reader.specs.WellFormed.Scope.{outermost, within}

-- what stands open, by its kinds alone, the innermost first
abbrev pub stands_in : ℕ → List Container → Stands
stands_in n [] = cond (eqb n 0) First Outside
stands_in n (k ∷ ks) = in_container k

abbrev pub left_open : List Container → List Container
left_open [] = []
left_open (k ∷ ks) = ks

abbrev pub moved : List Container → Command → List Container
moved ks (Extends p) = ks
moved ks (Open o p) = container_of o ∷ ks
moved ks (Refer k p s) = ks
moved ks (Variable p) = ks
moved ks (Text p) = ks
moved ks Close = left_open ks
moved ks End = ks

-- n commands were taken and these containers are open: the commands are allowed in turn, up to Z where nothing is open
pub data Steps : ℕ → List Container → List Command → Type 0 where
  stop : (n : ℕ) → Steps n [] (End ∷ [])
  go : (n : ℕ) (ks : List Container) (c : Command) (cs : List Command) → is_end c ≡ false → allowed (stands_in n ks) c ≡ true → Holds (λ _. length ks < 16) (opens c) → Steps (suc n) (moved ks c) cs → Steps n ks (c ∷ cs)

abbrev scope_of : List Container → Scope
scope_of [] = outermost
scope_of (k ∷ ks) = within k

-- ---- what is allowed in turn is nested

-- what follows what stands in the innermost: its close, and so on outwards, to Z
abbrev After : List Container → List Command → Type 0
After [] cs = cs ≡ End ∷ []
After (k ∷ ks) cs = (inner : List Command) × (tail : List Command) × (cs ≡ Close ∷ (inner ++ tail)) × Nested (scope_of ks) (length ks) inner × After ks tail

abbrev Closes : List Container → List Command → Type 0
Closes ks cs = (inner : List Command) × (tail : List Command) × (cs ≡ inner ++ tail) × Nested (scope_of ks) (length ks) inner × After ks tail

may_hold : (n : ℕ) (ks : List Container) (k : Container) → may_open (stands_in n ks) k ≡ true → MayHold (scope_of ks) k
may_hold n ks k e = grind arith

add_plain : (ks : List Container) (c : Command) (cs : List Command) → is_plain c ≡ true → Closes ks cs → Closes ks (c ∷ cs)
add_plain ks c cs e h = (c ∷ h.0, h.1, ap (λ (l : List Command). c ∷ l) h.2, plain (scope_of ks) (length ks) c h.0 e h.3, h.4)

add_open : (n : ℕ) (ks : List Container) (o : Opener) (p : Part) (cs : List Command) → may_open (stands_in n ks) (container_of o) ≡ true → length ks < 16 → Closes (container_of o ∷ ks) cs → Closes ks (Open o p ∷ cs)
add_open n ks o p cs e deep h =
    let out = h.4 in (
      Open o p ∷ (h.0 ++ (Close ∷ out.0)),
      out.1,
      ap (λ (l : List Command). Open o p ∷ l) (h.2 ∙ ap (λ (l : List Command). h.0 ++ l) out.2 ∙ sym (append_assoc h.0 (Close ∷ out.0) out.1)),
      holds (scope_of ks) (length ks) o p h.0 out.0 (may_hold n ks (container_of o) e) deep h.3 out.3,
      out.4,
    )

-- after the first command, nothing open is just that
later : (n : ℕ) → stands_in (suc n) [] ≡ Outside
later n = grind arith

add_close : (n : ℕ) (ks : List Container) (cs : List Command) → may_close (stands_in (suc n) ks) ≡ true → Closes (left_open ks) cs → Closes ks (Close ∷ cs)
add_close n [] cs e h = absurd (false≢true (sym (ap may_close (later n)) ∙ e))
add_close n (k ∷ ks) cs e h = ([], Close ∷ cs, refl, nothing (within k) (suc (length ks)), (h.0, h.1, ap (λ (l : List Command). Close ∷ l) h.2, h.3, h.4))

no_extends : (n : ℕ) (ks : List Container) → may_extend (stands_in (suc n) ks) ≡ true → ⊥
no_extends n ks e = grind arith

closes : (n : ℕ) (ks : List Container) (cs : List Command) → Steps (suc n) ks cs → Closes ks cs
closes n ks cs (stop m) = ([], End ∷ [], refl, nothing outermost 0, refl)
closes n ks cs (go m ks₁ (Extends p) cs₁ t a deep steps) = absurd (no_extends n ks₁ a)
closes n ks cs (go m ks₁ (Open o p) cs₁ t a deep steps) = add_open (suc n) ks₁ o p cs₁ a deep (closes (suc n) (container_of o ∷ ks₁) cs₁ steps)
closes n ks cs (go m ks₁ (Refer k p s) cs₁ t a deep steps) = add_plain ks₁ (Refer k p s) cs₁ refl (closes (suc n) ks₁ cs₁ steps)
closes n ks cs (go m ks₁ (Variable p) cs₁ t a deep steps) = add_plain ks₁ (Variable p) cs₁ refl (closes (suc n) ks₁ cs₁ steps)
closes n ks cs (go m ks₁ (Text p) cs₁ t a deep steps) = add_plain ks₁ (Text p) cs₁ refl (closes (suc n) ks₁ cs₁ steps)
closes n ks cs (go m ks₁ Close cs₁ t a deep steps) = add_close n ks₁ cs₁ a (closes (suc n) (left_open ks₁) cs₁ steps)
closes n ks cs (go m ks₁ End cs₁ t a deep steps) = absurd (false≢true (sym t))

shaped_by : (cs : List Command) → Closes [] cs → Shaped cs
shaped_by cs h = record { heading = []; inner = h.0; is = h.2 ∙ ap (λ (l : List Command). h.0 ++ l) h.4; extends = tt; nested = h.3 }

shaped_extends : (p : Part) (cs : List Command) → Closes [] cs → Shaped (Extends p ∷ cs)
shaped_extends p cs h = record {
  heading = Extends p ∷ [];
  inner = h.0;
  is = ap (λ (l : List Command). Extends p ∷ l) (h.2 ∙ ap (λ (l : List Command). h.0 ++ l) h.4);
  extends = (p, refl);
  nested = h.3;
}

pub shaped : (cs : List Command) → Steps 0 [] cs → Shaped cs
shaped cs (stop m) = record { heading = []; inner = []; is = refl; extends = tt; nested = nothing outermost 0 }
shaped cs (go m ks (Extends p) cs₁ t a deep steps) = shaped_extends p cs₁ (closes 0 [] cs₁ steps)
shaped cs (go m ks (Open o p) cs₁ t a deep steps) = shaped_by (Open o p ∷ cs₁) (add_open 0 [] o p cs₁ a deep (closes 0 (container_of o ∷ []) cs₁ steps))
shaped cs (go m ks (Refer k p s) cs₁ t a deep steps) = shaped_by (Refer k p s ∷ cs₁) (add_plain [] (Refer k p s) cs₁ refl (closes 0 [] cs₁ steps))
shaped cs (go m ks (Variable p) cs₁ t a deep steps) = shaped_by (Variable p ∷ cs₁) (add_plain [] (Variable p) cs₁ refl (closes 0 [] cs₁ steps))
shaped cs (go m ks (Text p) cs₁ t a deep steps) = shaped_by (Text p ∷ cs₁) (add_plain [] (Text p) cs₁ refl (closes 0 [] cs₁ steps))
shaped cs (go m ks Close cs₁ t a deep steps) = absurd (false≢true a)
shaped cs (go m ks End cs₁ t a deep steps) = absurd (false≢true (sym t))

-- ---- what is nested is allowed in turn

plain_goes : (n : ℕ) (ks : List Container) (c : Command) (cs : List Command) → is_plain c ≡ true → Steps (suc n) ks cs → Steps n ks (c ∷ cs)
plain_goes n ks c cs e steps = search (rules, go)

may_open_there : (n : ℕ) (ks : List Container) (k : Container) → MayHold (scope_of ks) k → may_open (stands_in (suc n) ks) k ≡ true
may_open_there n ks k h = grind arith

may_close_there : (k : Container) → may_close (in_container k) ≡ true
may_close_there k = grind arith

nested_goes : (s : Scope) (deep : ℕ) (inner : List Command) → Nested s deep inner → (ks : List Container) (tail : List Command) → scope_of ks ≡ s → length ks ≡ deep → ((m : ℕ) → Steps (suc m) ks tail) → (n : ℕ) → Steps (suc n) ks (inner ++ tail)
nested_goes s deep inner (nothing s₁ d₁) ks tail is long more n = more n
nested_goes s deep inner (plain s₁ d₁ c rest e nest) ks tail is long more n =
    plain_goes (suc n) ks c (rest ++ tail) e (nested_goes s₁ d₁ rest nest ks tail is long more (suc n))
nested_goes s deep inner (holds s₁ d₁ o p inside rest may few nest after) ks tail is long more n =
    let k = container_of o in
    let M : Scope → Type 0 = λ x. MayHold x k in
    let D : ℕ → Type 0 = λ x. x < 16 in
    let S : List Command → Type 0 = λ l. Steps (suc n) ks (Open o p ∷ l) in
    subst S (sym (append_assoc inside (Close ∷ rest) tail))
    (go (suc n) ks (Open o p) (inside ++ (Close ∷ (rest ++ tail))) refl (may_open_there n ks k (subst M (sym is) may)) (subst D (sym long) few)
    (nested_goes (within k) (suc d₁) inside nest (k ∷ ks) (Close ∷ (rest ++ tail)) refl (ap suc long)
    (λ m. go (suc m) (k ∷ ks) Close (rest ++ tail) refl (may_close_there k) tt (nested_goes s₁ d₁ rest after ks tail is long more (suc m)))
    (suc n)))

-- how many commands were taken does not matter after the first
shift : (n : ℕ) (ks : List Container) (cs : List Command) → Steps (suc n) ks cs → (m : ℕ) → Steps (suc m) ks cs
shift n ks cs (stop x) m = stop (suc m)
shift n ks cs (go x [] c cs₁ t a deep steps) m =
    let A : Stands → Type 0 = λ s. allowed s c ≡ true in
    go (suc m) [] c cs₁ t (subst A (later n ∙ sym (later m)) a) deep (shift (suc n) (moved [] c) cs₁ steps (suc m))
shift n ks cs (go x (k ∷ ks₁) c cs₁ t a deep steps) m = go (suc m) (k ∷ ks₁) c cs₁ t a deep (shift (suc n) (moved (k ∷ ks₁) c) cs₁ steps (suc m))

first_allowed : (c : Command) → allowed Outside c ≡ true → allowed First c ≡ true
first_allowed c e = grind arith

first_too : (n : ℕ) (cs : List Command) → Steps (suc n) [] cs → Steps 0 [] cs
first_too n cs (stop x) = stop 0
first_too n cs (go x ks c cs₁ t a deep steps) =
    let A : Stands → Type 0 = λ s. allowed s c ≡ true in
    go 0 [] c cs₁ t (first_allowed c (subst A (later n) a)) deep (shift (suc n) (moved [] c) cs₁ steps 0)

pub steps : (cs : List Command) → Shaped cs → Steps 0 [] cs
steps cs h = subst (Steps 0 []) (sym h.is) (by_heading h.heading h.extends)
  where
    by_heading : (heading : List Command) → Heading heading → Steps 0 [] (heading ++ (h.inner ++ (End ∷ [])))
    by_heading [] e = first_too 0 (h.inner ++ (End ∷ [])) (nested_goes outermost 0 h.inner h.nested [] (End ∷ []) refl refl (λ m. stop (suc m)) 0)
    by_heading (c ∷ []) e =
        let inner = nested_goes outermost 0 h.inner h.nested [] (End ∷ []) refl refl (λ m. stop (suc m)) 0 in
        let S : Command → Type 0 = λ x. Steps 0 [] (x ∷ (h.inner ++ (End ∷ []))) in
        subst S (sym e.1) (go 0 [] (Extends e.0) (h.inner ++ (End ∷ [])) refl refl tt inner)
    by_heading (c ∷ d ∷ cs₁) e = absurd e
