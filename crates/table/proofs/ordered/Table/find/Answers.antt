use Rattle.std.proofs.Common.{arith, rules}
use Rattle.std.proofs.lemmas.Grind.{common_steps}
use Rattle.table.specs.Held.{held}
use Rattle.table.proofs.Seeking.{all_greater, all_less, found_exact}
use Rattle.table.proofs.ordered.Table.find.Goals as goal

pub loop-low-preserved-in-Less : goal.loop-low-preserved-in-Less
loop-low-preserved-in-Less g c =
    let p = c.args.probe.now in
    let xs = held c.args.self.now in
    let below = all_less g.R.Row.compare (g.P.Probe.stands p) (g.met.P.Probe.rises p) xs _ c.index.result.now (search rules) c.index.ensures in
    search rules

pub loop-low-preserved : goal.loop-low-preserved
loop-low-preserved g c =
    let p = c.args.probe.now in
    let xs = held c.args.self.now in
    let above = all_greater g.R.Row.compare (g.P.Probe.stands p) (g.met.P.Probe.rises p) xs _ c.index.result.now (search rules) c.index.ensures in
    search rules

pub returns-in-Equal-clause-exact : goal.returns-in-Equal-clause-exact
returns-in-Equal-clause-exact g c =
    let p = c.args.probe.now in
    found_exact g.R.Row.compare (g.P.Probe.stands p) (g.met.P.Probe.rises p) (g.met.P.Probe.one p) (held c.args.self.now) _ (grind (arith, common_steps))

pub returns-clause-exact : goal.returns-clause-exact
returns-clause-exact g c =
    let p = c.args.probe.now in
    found_exact g.R.Row.compare (g.P.Probe.stands p) (g.met.P.Probe.rises p) (g.met.P.Probe.one p) (held c.args.self.now) _ (search rules)
