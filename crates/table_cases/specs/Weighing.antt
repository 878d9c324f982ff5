-- An order with a tie-break.
use Rattle.std.specs.Prelude.{ℕ}
use Rattle.std.specs.declared.cmp.Ordering.{Ordering}
use Rattle.std.specs.Ordering.{ordering_then, nat_cmp}
use Rattle.table_cases.specs.declared.weighed.Scale.{Scale}
use Rattle.table_cases.specs.declared.weighed.Weighed.{Weighed}

abbrev pub weighs : Weighed → ℕ × ℕ
weighs w = (w.weight, w.tag)

abbrev pub by_weight : Weighed → Weighed → Ordering
by_weight a b = ordering_then (nat_cmp a.weight b.weight) (nat_cmp a.tag b.tag)

-- how a row stands to a key
abbrev pub by_scale : Scale → Weighed → Ordering
by_scale s w = ordering_then (nat_cmp w.weight s.weight) (nat_cmp w.tag s.tag)
