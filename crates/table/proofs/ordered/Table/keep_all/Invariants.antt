use Rattle.std.proofs.Common.{◌≡◌, List, ◌++◌, take}
use Rattle.table.specs.Calls.{Kept}
use Rattle.table.proofs.ordered.Table.keep_all.Given as goal

abbrev pub invariant-loop-row : goal.invariant-loop-row
invariant-loop-row g l =
    record {
      limit : l.self.limit ≡ l.initial.self.limit;
      first : (all : List g.row.R.Denot) → Kept g.R.Row.compare all l.initial.self → Kept g.R.Row.compare (all ++ take l.row-index l.rows) l.self;
    }
