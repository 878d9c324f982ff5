-- When a list of commands makes a template, said without a reader. Assumes nothing.
use Rattle.std.specs.Prelude.{◌≡◌, ℕ, suc, ◌+◌, ◌<◌, ◌≤◌, Bool, true, false, cond, List, [], ◌∷◌, ◌++◌, length, Some, None, IsUtf8, Option, ◌≢◌}
use Rattle.std.specs.List.{AllByRecursion}
use Rattle.text.specs.Lines.{lines}
use Rattle.text.specs.Texts.{part_bytes}
use Rattle.text.specs.declared.part.Part.{Part}
use Rattle.text.specs.declared.span.Span.{Span}
use Rattle.record.specs.declared.command.Command.{Command}
use Rattle.record.specs.declared.command.Command.TheVariants.{Extends, Open, Refer, Variable, Text, Close, End}
use Rattle.record.specs.declared.command.Container.{Container}
use Rattle.record.specs.declared.command.Container.TheVariants.{Block, Component}
use Rattle.record.specs.declared.command.Opener.{Opener}
use Rattle.record.specs.Kinds.{container_of, opens, part_of, span_of}
use Rattle.record.specs.Openers.{same_container}

-- ---- operands

-- a part lies inside the source, and is text
pub record TextInside (source : List ℕ) (p : Part) : Type 0 where
  pub inside : p.start + p.len ≤ length source
  pub text : IsUtf8 (part_bytes source p)

-- the start line is one of the source's lines, and from ≤ to ≤ its length
pub record Lawful (source : List ℕ) (s : Span) : Type 0 where
  pub first : 1 ≤ s.start_line
  pub last : s.start_line ≤ length (lines source)
  pub forward : s.from ≤ s.to
  pub inside : s.to ≤ length source

-- P holds of what is there
abbrev pub Holds : {X : Type 0} → (X → Type 0) → Option X → Type 0
Holds P None = Unit {0}
Holds P (Some x) = P x

-- ---- nesting

-- where a command stands: directly in the body, or directly in a container
pub data Scope : Type 0 where
  outermost : Scope
  within : Container → Scope

-- a component stands only outermost, and no block in a component
abbrev pub MayHold : Scope → Container → Type 0
MayHold outermost kind = Unit {0}
MayHold (within Block) Block = Unit {0}
MayHold (within Block) Component = ⊥
MayHold (within Component) kind = ⊥

-- a command that neither opens nor closes, extends nor ends
abbrev pub is_plain : Command → Bool
is_plain (Extends p) = false
is_plain (Open o p) = false
is_plain (Refer k p s) = true
is_plain (Variable p) = true
is_plain (Text p) = true
is_plain Close = false
is_plain End = false

-- The commands may stand in a row in that scope, with so many containers open: each container is an opener, what may stand in it, and its close.
pub data Nested : Scope → ℕ → List Command → Type 0 where
  nothing : (s : Scope) (deep : ℕ) → Nested s deep []
  plain : (s : Scope) (deep : ℕ) (c : Command) (rest : List Command) → is_plain c ≡ true → Nested s deep rest → Nested s deep (c ∷ rest)
  holds : (s : Scope) (deep : ℕ) (o : Opener) (name : Part) (inner rest : List Command) → MayHold s (container_of o) → deep < 16 → Nested (within (container_of o)) (suc deep) inner → Nested s deep rest → Nested s deep (Open o name ∷ (inner ++ (Close ∷ rest)))

-- an X, or nothing
abbrev pub Heading : List Command → Type 0
Heading [] = Unit {0}
Heading (c ∷ []) = (p : Part) × (c ≡ Extends p)
Heading (c ∷ d ∷ cs) = ⊥

-- X only first, containers properly nested and at most 16 deep, Z only last
pub record Shaped (cs : List Command) : Type 0 where
  pub heading : List Command
  pub inner : List Command
  pub is : cs ≡ heading ++ (inner ++ (End ∷ []))
  pub extends : Heading heading
  pub nested : Nested outermost 0 inner

-- ---- names

abbrev pub names_from : List ℕ → Container → Option (Container × Part) → List (List ℕ) → List (List ℕ)
names_from source kind None names = names
names_from source kind (Some q) names = cond (same_container kind q.0) (part_bytes source q.1 ∷ names) names

-- the names of the containers of a kind, as they are opened
abbrev pub names : List ℕ → Container → List Command → List (List ℕ)
names source kind [] = []
names source kind (c ∷ cs) = names_from source kind (opens c) (names source kind cs)

abbrev pub Distinct : List (List ℕ) → Type 0
Distinct [] = Unit {0}
Distinct (x ∷ xs) = AllByRecursion (λ y. x ≢ y) xs × Distinct xs

-- ---- all of it

pub record WellFormed (source : List ℕ) (cs : List Command) : Type 0 where
  pub texts : AllByRecursion (λ c. Holds (TextInside source) (part_of c)) cs
  pub spans : AllByRecursion (λ c. Holds (Lawful source) (span_of c)) cs
  pub shape : Shaped cs
  pub distinct : (kind : Container) → Distinct (names source kind cs)
