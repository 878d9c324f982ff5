-- The order of weighed rows is total, and ties only rows of one weight and tag. In `specs/`, since an `impl` may import of its own crate only what stands there.
use Rattle.std.specs.Prelude.{◌≡◌}
use Rattle.std.specs.declared.cmp.Ordering.TheVariants.{Equal}
use Rattle.std.specs.Cmp.{IsTotalOrder}
use Rattle.std.specs.Cmp.Rules.{comparing}
use Rattle.std.proofs.Common.{rules}
use Rattle.table_cases.specs.declared.weighed.Weighed.{Weighed}
use Rattle.table_cases.specs.Weighing.{by_weight, weighs}

pub weights_total : IsTotalOrder by_weight
weights_total = search (comparing, rules)

pub weights_tie : (x y : Weighed) → by_weight x y ≡ Equal → weighs x ≡ weighs y
weights_tie = search rules

pub weights_keyed : (x y : Weighed) → weighs x ≡ weighs y → by_weight x y ≡ Equal
weights_keyed = search rules
