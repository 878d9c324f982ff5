use Rattle.std.proofs.Common.{◌≡◌, ◌+◌, ◌≤◌, map, drop}
use Rattle.catalogue.specs.Runs.{all_after, said, turned_down}
use Rattle.catalogue.proofs.runs.register_all.Given as goal

abbrev pub invariant-loop-new : goal.invariant-loop-new
invariant-loop-new g l =
    let most = g.C.Catalogue.longest in
    let start = g.C.Catalogue.means l.initial.catalogue in
    let here = g.C.Catalogue.means l.catalogue in
    record {
      counts : l.refused + turned_down most here (map said (drop l.new-index l.list)) ≡ turned_down most start (map said l.list);
      leaves : all_after most here (map said (drop l.new-index l.list)) ≡ all_after most start (map said l.list);
      fits : l.refused ≤ l.new-index;
    }
