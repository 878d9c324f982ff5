use Rattle.std.proofs.Common.{◌≡◌, ◌-◌, ◌≤◌, length, Less, Greater}
use Rattle.std.specs.List.{AllWithin}
use Rattle.table.specs.Held.{held}
use Rattle.table.specs.Order.{Ascending}
use Rattle.table.proofs.ordered.Table.find.Given as goal

-- the rows below `low` stand before the key, those from `high` on after it
abbrev pub invariant-loop-low : goal.invariant-loop-low
invariant-loop-low g l =
    let stands = g.P.Probe.stands l.probe in
    let xs = held l.self in
    record {
      order : l.low ≤ l.high;
      within : l.high ≤ length xs;
      parts : Ascending g.R.Row.compare xs → AllWithin (λ y. stands y ≡ Less) xs 0 l.low × AllWithin (λ y. stands y ≡ Greater) xs l.high (length xs);
    }

abbrev pub decreases-loop-low : goal.decreases-loop-low
decreases-loop-low g l = l.high - l.low
