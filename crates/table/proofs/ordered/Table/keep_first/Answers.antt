use Rattle.std.proofs.Common.{◌≡◌, ◌+◌, ◌≤◌, length, vec_items, None, ◌∙◌, arith, rules}
use Rattle.std.proofs.lemmas.Grind.{common_steps}
use Rattle.std.specs.Option.{option_to_list}
use Rattle.table.specs.Calls.{Keeps}
use Rattle.table.specs.Held.{held}
use Rattle.table.specs.Order.{insert_in}
use Rattle.table.proofs.Cuts.{driven, kept_more}
use Rattle.table.proofs.Orderly.{ascending_cut}
use Rattle.table.proofs.ordered.Table.keep_first.Goals as goal

-- there is room
pub returns-then-not-is_full : goal.returns-then-not-is_full
returns-then-not-is_full g c =
    let t = c.args.self.now in
    let does : Keeps g.R.Row.compare t c.args.row None c.put.new.self = record { rows = grind (arith, common_steps); whole = grind (arith, common_steps); limit = c.put.ensures.limit; came = search rules } in
    record { does = does; first = λ all. kept_more g.R.Row.compare all c.args.row t c.put.new.self does.rows does.limit does.came; ascending = rw does.rows (ascending_cut g.R.Row c.args.row t.limit (held t)) }

-- the row itself is past the limit
pub returns-then-place-self-clause-first : goal.returns-then-place-self-clause-first
returns-then-place-self-clause-first g c = λ all. kept_more g.R.Row.compare all c.args.row c.args.self.now _ (grind (arith, common_steps)) (search rules) c.saturating_add-self.ensures

-- the last row makes room
pub returns : goal.returns
returns g c =
    let compare = g.R.Row.compare in
    let x = c.args.row in
    let t = c.args.self.now in
    let zs = vec_items c.pop-last.new.self in
    let at : c.place-place.result ≤ length zs = search rules in
    let full : length zs + 1 ≡ t.limit = search rules in
    let d = driven t.limit c.place-place.result x (held t) (insert_in compare x (held t)) zs (option_to_list c.pop-last.result) c.pop-last.ensures.items at full c.place-place.ensures.there in
    let does : Keeps compare t x c.pop-last.result c.put-2.new.self = record { rows = c.put-2.ensures.rows ∙ d.0; whole = rw c.put-2.ensures.rows d.1; limit = c.put-2.ensures.limit; came = c.put-2.ensures.came ∙ c.saturating_add-self.ensures } in
    record { does = does; first = λ all. kept_more compare all x t c.put-2.new.self does.rows does.limit does.came; ascending = rw does.rows (ascending_cut g.R.Row x t.limit (held t)) }
