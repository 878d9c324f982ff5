-- The front of a list that was copied into. Assumes nothing.
use Rattle.std.proofs.Common.{◌≡◌, ℕ, List, ◌++◌, length, take, sym, ap, ◌∙◌}
use Rattle.std.proofs.lemmas.List.{take_at}

-- the front of a list into which bs was copied
pub front : {X : Type 0} (xs ys bs : List X) (n : ℕ) → xs ≡ bs → n ≡ length bs → take n (xs ++ ys) ≡ bs
front xs ys bs n e l = take_at xs ys n (ap length e ∙ sym l) ∙ e
