-- The lines of a source. Assumes nothing.
use Rattle.std.specs.Prelude.{ℕ, zero, suc, List, None, Option, count_by, ◌==◌}
use Rattle.std.specs.List.{slice_get, slice_split}

-- how many bytes 0A there are
abbrev pub breaks : List ℕ → ℕ
breaks bs = count_by (λ b. b == 10) bs

-- the lines, each without its 0A
abbrev pub lines : List ℕ → List (List ℕ)
lines bs = slice_split (λ b. b == 10) bs

-- line n, counted from 1
abbrev pub line_at : List ℕ → ℕ → Option (List ℕ)
line_at bs zero = None
line_at bs (suc n) = slice_get (lines bs) n
