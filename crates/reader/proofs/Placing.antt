-- The reader's rows tell the innermost container and how many commands stand in it. Assumes nothing.
use Rattle.std.proofs.Common.{◌≡◌, ℕ, zero, suc, ◌+◌, ◌<◌, ◌≤◌, Bool, true, cond, eqb, List, [], ◌∷◌, ◌++◌, length, sym, refl, ap, ◌∙◌, subst, arith}
use Rattle.std.specs.List.{AllByRecursion}
use Rattle.std.proofs.lemmas.List.{append_assoc, length-map, length_push}
use Rattle.std.proofs.lemmas.Bool.{and_from, eq-eqb, ne_eqb}
use Rattle.record.specs.declared.command.Command.{Command}
use Rattle.record.specs.declared.command.Command.TheVariants.{Extends, Open, Refer, Variable, Text, Close, End}
use Rattle.record.specs.declared.command.Entry.{Entry}
use Rattle.record.specs.declared.command.Opener.{Opener}
use Rattle.record.specs.declared.command.Owner.{Owner}
use Rattle.record.specs.declared.command.Owner.TheVariants.{Body, Container}
use Rattle.reader.specs.declared.nest.Nest.{Nest}
use Rattle.text.specs.declared.part.Part.{Part}
use Rattle.record.specs.Kinds.{container_of}
use Rattle.reader.specs.Places.{commands_of, count_in, innermost, placed, same_owner, stands_in}
use Rattle.reader.specs.Questions.{Standing}
use Rattle.reader.specs.Reading.{counted, entry, outward, owner_in, place_in, pushed, raised, taken}
use Rattle.reader.proofs.Chains.{Chain}
use Rattle.reader.proofs.Chains.Chain.{last, next}

-- the container n places out
abbrev owner_at : ℕ → List Nest → Owner
owner_at n [] = Body
owner_at zero (r ∷ rows) = Container r.opener
owner_at (suc n) (r ∷ rows) = owner_at n rows

-- each opener stands before the one within it
abbrev Outward : ℕ → List Nest → Type 0
Outward b [] = Unit {0}
Outward b (r ∷ rows) = (r.opener < b) × Outward r.opener rows

abbrev Counts : List Entry → Nest → Type 0
Counts before r = r.commands ≡ count_in (Container r.opener) before

-- the rows and the count of the body tell what the entries before do
pub record Tells (before : List Entry) (s : Standing) : Type 0 where
  pub owners : (n : ℕ) → owner_at n s.rows ≡ innermost n (commands_of before)
  pub counts : AllByRecursion (Counts before) s.rows
  pub body : s.body ≡ count_in Body before
  pub order : Outward (length before) s.rows
  pub unseen : (k : ℕ) → length before ≤ k → count_in (Container k) before ≡ 0

inner_owner : (rows : List Nest) → owner_at 0 rows ≡ owner_in rows
inner_owner rows = grind arith

inner_place : (before : List Entry) (rows : List Nest) (body : ℕ) → AllByRecursion (Counts before) rows → body ≡ count_in Body before → place_in rows body ≡ count_in (owner_in rows) before
inner_place before rows body h b = grind arith

pub same_owner_itself : (o : Owner) → same_owner o o ≡ true
same_owner_itself o = grind arith

pub same_owner_true : (o w : Owner) → same_owner o w ≡ true → o ≡ w
same_owner_true o w e = grind arith

there : (before : List Entry) (s : Standing) (c : Command) → Tells before s → stands_in before (entry s c) ≡ true
there before s c t =
    let owner = sym (inner_owner s.rows) ∙ t.owners 0 in
    let P : Owner → Type 0 = λ o. same_owner (owner_in s.rows) o ≡ true in
    and_from _ _ (subst P owner (same_owner_itself (owner_in s.rows))) (eq-eqb _ _ (inner_place before s.rows s.body t.counts t.body))

-- ---- a command counted

same_self : (i : ℕ) (n m : ℕ) → n ≡ m → n + 1 ≡ cond (eqb i i) 1 0 + m
same_self i n m e = ap (λ (k : ℕ). k + 1) e ∙ omega arith ∙ sym (ap (λ (t : Bool). cond t 1 0 + m) (eq-eqb i i refl))

same_other : (i j : ℕ) (n m : ℕ) → (i ≡ j → ⊥) → n ≡ m → n ≡ cond (eqb i j) 1 0 + m
same_other i j n m ne e = e ∙ omega arith ∙ sym (ap (λ (t : Bool). cond t 1 0 + m) (ne_eqb i j ne))

Outward-more : (a b : ℕ) (rows : List Nest) → a ≤ b → Outward a rows → Outward b rows
Outward-more a b [] l h = tt
Outward-more a b (r ∷ rows) l h = (omega arith, h.1)

-- the rows further out count nothing new
outer_counts : (before : List Entry) (e : Entry) (i : ℕ) → e.owner ≡ Container i → (rows : List Nest) → Outward i rows → AllByRecursion (Counts before) rows → AllByRecursion (Counts (e ∷ before)) rows
outer_counts before e i is [] o h = tt
outer_counts before e i is (r ∷ rows) o h = (
  same_other r.opener i r.commands (count_in (Container r.opener) before) (λ same. omega arith) h.0
      ∙ sym (ap (λ (w : Owner). cond (same_owner (Container r.opener) w) 1 0 + count_in (Container r.opener) before) is),
  outer_counts before e i is rows (Outward-more r.opener i rows (omega arith) o.1) h.1,
)

-- what stands once a command is counted, before it opens or closes anything
pub record Counted (before : List Entry) (e : Entry) (s : Standing) : Type 0 where
  pub owners : (n : ℕ) → owner_at n s.rows ≡ innermost n (commands_of before)
  pub counts : AllByRecursion (Counts (e ∷ before)) s.rows
  pub body : s.body ≡ count_in Body (e ∷ before)
  pub order : Outward (length before) s.rows
  pub unseen : (k : ℕ) → length before ≤ k → count_in (Container k) (e ∷ before) ≡ 0

count : (before : List Entry) (rows : List Nest) (body : ℕ) (c : Command) → Tells before record { rows = rows; body = body } → Counted before (entry record { rows = rows; body = body } c) (counted rows body)
count before [] body c t = record {
  owners = t.owners;
  counts = tt;
  body = ap (λ (n : ℕ). n + 1) t.body ∙ omega arith;
  order = tt;
  unseen = λ k h. omega (arith, t.unseen k h);
}
count before (r ∷ rows) body c t = record {
  owners = λ n. same_owners n ∙ t.owners n;
  counts = (same_self r.opener r.commands (count_in (Container r.opener) before) t.counts.0, outer_counts before (entry record { rows = r ∷ rows; body = body } c) r.opener refl rows t.order.1 t.counts.1);
  body = t.body ∙ omega arith;
  order = (t.order.0, t.order.1);
  unseen = λ k h. sym (same_other k r.opener 0 (count_in (Container k) before) (λ same. omega (arith, t.order.0)) (sym (t.unseen k h)));
}
  where
    same_owners : (n : ℕ) → owner_at n (raised r ∷ rows) ≡ owner_at n (r ∷ rows)
    same_owners n = grind arith

-- ---- a command taken

stays : (before : List Entry) (e : Entry) (s : Standing) → Counted before e s → ((n : ℕ) → innermost n (commands_of before) ≡ innermost n (commands_of (e ∷ before))) → Tells (e ∷ before) s
stays before e s k same = record {
  owners = λ n. k.owners n ∙ same n;
  counts = k.counts;
  body = k.body;
  order = Outward-more (length before) (suc (length before)) s.rows (omega arith) k.order;
  unseen = λ n h. k.unseen n (omega arith);
}

opened : (before : List Entry) (e : Entry) (s : Standing) (o : Opener) (p : Part) → e.command ≡ Open o p → Counted before e s → Tells (e ∷ before) (pushed (container_of o) (length before) s)
opened before e s o p is k = record {
  owners = λ n. found n ∙ sym (ap (λ (c : Command). innermost n (c ∷ commands_of before)) is);
  counts = (sym (k.unseen (length before) (omega arith)), k.counts);
  body = k.body;
  order = (omega arith, k.order);
  unseen = λ n h. k.unseen n (omega arith);
}
  where
    found : (n : ℕ) → owner_at n (record { container = container_of o; opener = length before; commands = 0 } ∷ s.rows) ≡ innermost n (Open o p ∷ commands_of before)
    found zero = ap Container (sym (length-map before (λ (x : Entry). x.command)))
    found (suc n) = k.owners n

closed : (before : List Entry) (e : Entry) (rows : List Nest) (body : ℕ) → e.command ≡ Close → Counted before e record { rows = rows; body = body } → Tells (e ∷ before) record { rows = outward rows; body = body }
closed before e [] body is k = record {
  owners = λ n. k.owners (suc n) ∙ sym (ap (λ (c : Command). innermost n (c ∷ commands_of before)) is);
  counts = tt;
  body = k.body;
  order = tt;
  unseen = λ n h. k.unseen n (omega arith);
}
closed before e (r ∷ rows) body is k = record {
  owners = λ n. k.owners (suc n) ∙ sym (ap (λ (c : Command). innermost n (c ∷ commands_of before)) is);
  counts = k.counts.1;
  body = k.body;
  order = Outward-more r.opener (suc (length before)) rows (omega (arith, k.order.0)) k.order.1;
  unseen = λ n h. k.unseen n (omega arith);
}

take : (before : List Entry) (s : Standing) (c : Command) → Tells before s → Tells (entry s c ∷ before) (taken (length before) s c)
take before s (Extends p) t = stays before (entry s (Extends p)) _ (count before s.rows s.body (Extends p) t) (λ n. refl)
take before s (Open o p) t = opened before (entry s (Open o p)) _ o p refl (count before s.rows s.body (Open o p) t)
take before s (Refer k p span) t = stays before (entry s (Refer k p span)) _ (count before s.rows s.body (Refer k p span) t) (λ n. refl)
take before s (Variable p) t = stays before (entry s (Variable p)) _ (count before s.rows s.body (Variable p) t) (λ n. refl)
take before s (Text p) t = stays before (entry s (Text p)) _ (count before s.rows s.body (Text p) t) (λ n. refl)
take before s Close t = closed before (entry s Close) (counted s.rows s.body).rows (counted s.rows s.body).body refl (count before s.rows s.body Close t)
take before s End t = stays before (entry s End) _ (count before s.rows s.body End t) (λ n. refl)

-- ---- a whole chain

chain_placed : (source : List ℕ) (es : List Entry) (s : Standing) (cs : List Command) (out : List Entry) → Chain source es s cs out → (before : List Entry) → length before ≡ length es → Tells before s → (more : List Entry) × (out ≡ es ++ more) × (placed before more ≡ true)
chain_placed source es s cs out (last es₁ s₁ c t none nothing) before long tells = (entry s₁ c ∷ [], refl, and_from _ _ (there before s₁ c tells) refl)
chain_placed source es s cs out (next es₁ s₁ c cs₁ out₁ t none chain) before long tells =
    let e = entry s₁ c in
    let T : ℕ → Type 0 = λ n. Tells (e ∷ before) (taken n s₁ c) in
    let more = chain_placed source (es₁ ++ e ∷ []) (taken (length es₁) s₁ c) cs₁ out₁ chain (e ∷ before) (omega (arith, long, length_push es₁ e)) (subst T long (take before s₁ c tells)) in
    (e ∷ more.0, more.1 ∙ append_assoc es₁ (e ∷ []) more.0, and_from _ _ (there before s₁ c tells) more.2)

tells_start : Tells [] record { rows = []; body = 0 }
tells_start = record { owners = λ n. refl; counts = tt; body = refl; order = tt; unseen = λ k h. refl }

pub chain_innermost : (source : List ℕ) (cs : List Command) (out : List Entry) → Chain source [] record { rows = []; body = 0 } cs out → placed [] out ≡ true
chain_innermost source cs out chain =
    let p = chain_placed source [] record { rows = []; body = 0 } cs out chain [] refl tells_start in
    let P : List Entry → Type 0 = λ es. placed [] es ≡ true in
    subst P (sym p.1) p.2
