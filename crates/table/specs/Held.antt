-- What a table holds.
use Rattle.std.specs.Prelude.{List, vec_items}
use Rattle.table.specs.declared.ordered.Table.{Table}

abbrev pub held : {R : Type 0} → Table R → List R
held t = vec_items t.rows
