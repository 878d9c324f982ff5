-- When a span is lawful. Assumes nothing.
use Rattle.std.specs.Prelude.{ℕ, ◌+◌, Bool, ◌&&◌, List, length, nat_le}
use Rattle.text.specs.declared.span.Span.{Span}
use Rattle.text.specs.Lines.{breaks}

-- In a source of so many lines and bytes: the start line is one of its lines, and from ≤ to ≤ its length.
abbrev pub lawful : ℕ → ℕ → Span → Bool
lawful lines bytes s = nat_le 1 s.start_line && (nat_le s.start_line lines && (nat_le s.from s.to && nat_le s.to bytes))

abbrev pub lawful_in : List ℕ → Span → Bool
lawful_in source s = lawful (breaks source + 1) (length source) s
