-- Kinds of container, compared. Assumes nothing.
use Rattle.std.proofs.Common.{◌≡◌, Bool, true, false, ◌&&◌, sym, refl, ap, ◌∙◌}
use Rattle.std.proofs.lemmas.Bool.{false≢true}
use Rattle.record.specs.declared.command.Container.{Container}
use Rattle.record.specs.declared.command.Container.TheVariants.{Block, Component}
use Rattle.record.specs.Openers.{same_container}

pub same_itself : (k : Container) → same_container k k ≡ true
same_itself Block = refl
same_itself Component = refl

pub same_true : (j k : Container) → same_container j k ≡ true → j ≡ k
same_true Block Block e = refl
same_true Block Component e = absurd (false≢true e)
same_true Component Block e = absurd (false≢true e)
same_true Component Component e = refl

pub same_and : (j k : Container) (t : Bool) → j ≡ k → (same_container j k && t) ≡ t
same_and j k t e = ap (λ (x : Container). same_container j x && t) (sym e) ∙ ap (λ (x : Bool). x && t) (same_itself j)

pub other_and : (j k : Container) (t : Bool) → (j ≡ k → ⊥) → (same_container j k && t) ≡ false
other_and Block Block t h = absurd (h refl)
other_and Block Component t h = refl
other_and Component Block t h = refl
other_and Component Component t h = absurd (h refl)
