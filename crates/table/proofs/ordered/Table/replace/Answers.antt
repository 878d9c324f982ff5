use Rattle.std.proofs.Common.{◌≡◌, true, false, nat_lt, length, sym, refl, ◌∙◌, rules}
use Rattle.std.proofs.lemmas.List.{get_or_read}
use Rattle.std.specs.Ordering.{is_le, is_lt}
use Rattle.table.specs.Held.{held}
use Rattle.table.specs.Order.{Ascending}
use Rattle.table.proofs.Exact.{there, nowhere}
use Rattle.table.proofs.Placing.{parted}
use Rattle.table.proofs.Orderly.{ascending_from_strict, ascending_in, order_put, strict_in}
use Rattle.table.proofs.ordered.Table.replace.Goals as goal

-- one has the key
pub returns-in-Ok-clause-exact : goal.returns-in-Ok-clause-exact
returns-in-Ok-clause-exact g c = λ s.
    let xs = held c.args.self.now in
    let n = there g.R.Row c.args.row xs s c.in-Ok.i c.in-Ok.ensures in
    let old = c.replace.ensures.value ∙ get_or_read xs c.in-Ok.i c.index_mut.result.now c.in-Ok.ensures.0 c.index_mut.ensures.value c.args.row in
    record { answer = rw (n.0, ← old) refl; rows = rw c.replace.ensures.after (sym n.1) }

pub returns-in-Ok-clause-ascending : goal.returns-in-Ok-clause-ascending
returns-in-Ok-clause-ascending g c = rw c.replace.ensures.after (order_put g.R.Row c.args.row is_le c.in-Ok.i (held c.args.self.now) c.in-Ok.ensures)

pub returns-in-Ok-clause-strict : goal.returns-in-Ok-clause-strict
returns-in-Ok-clause-strict g c = rw c.replace.ensures.after (order_put g.R.Row c.args.row is_lt c.in-Ok.i (held c.args.self.now) c.in-Ok.ensures)

-- none has it, and there is no room
pub returns-then-is_full-clause-exact : goal.returns-then-is_full-clause-exact
returns-then-is_full-clause-exact g c = λ s.
    let t = c.args.self.now in
    let n = nowhere g.R.Row c.args.row (held t) s c.in-Err.i c.in-Err.ensures in
    let full : nat_lt (length (held t)) t.limit ≡ false = search rules in
    record { answer = rw (n.0, full) refl; rows = refl }

-- none has it, and it is let in
pub returns-else-is_full : goal.returns-else-is_full
returns-else-is_full g c =
    let row = g.R.Row in
    let x = c.args.row in
    let t = c.args.self.now in
    let xs = held t in
    let i = c.in-Err.i in
    let h = c.in-Err.ensures in
    let room : nat_lt (length xs) t.limit ≡ true = search rules in
    let rows = λ (a : Ascending row.compare xs). c.put.ensures.rows ∙ parted row.compare x xs i (h.1 a).0 in
    record {
      does = (search rules, (i, h.0, c.put.ensures), λ a. ((h.1 a).1, rows a));
      exact = λ s. let n = nowhere row x xs s i h in record { answer = rw (n.0, room) refl; rows = c.put.ensures.rows ∙ sym n.1 };
      ascending = λ a. rw (rows a) (ascending_in row x xs a);
      strict = λ s. let a = ascending_from_strict row.compare xs s in rw (rows a) (strict_in row x xs (h.1 a).1 s);
    }
