use Rattle.std.proofs.Common.{◌≡◌, map, arith}
use Rattle.catalogue.specs.Runs.{all_after, said}
use Rattle.catalogue.proofs.Laws.{leaves}
use Rattle.std.proofs.lemmas.Grind.{common_steps}
use Rattle.catalogue.proofs.runs.register_all.Goals as goal

pub returns-clause-law : goal.returns-clause-law
returns-clause-law g c =
    let all : g.C.Catalogue.means c.loop-new.catalogue ≡ all_after g.C.Catalogue.longest (g.C.Catalogue.means c.args.catalogue.now) (map said c.args.list.now) = grind (arith, common_steps) in
    rw all (leaves g.C.Catalogue.longest (g.C.Catalogue.means c.args.catalogue.now) (map said c.args.list.now))
