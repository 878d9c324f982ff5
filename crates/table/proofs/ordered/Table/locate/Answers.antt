use Rattle.std.proofs.Common.{◌≡◌, Ordering, refl, subst}
use Rattle.std.specs.List.Sorted.{IsBinarySearchResult}
use Rattle.table.proofs.Seeking.{searched}
use Rattle.table.proofs.ordered.Table.locate.Goals as goal

pub returns : goal.returns
returns g c =
    let row = g.R.Row in
    let x = c.args.row.now in
    let xs = c.deref.result.now in
    let r = c.binary_search.result in
    -- std's search speaks of the order of `cmp`, which is `compare`
    let same : ◌≡◌ {A = g.row.R.Denot → g.row.R.Denot → Ordering} g.R.Ord.cmp row.compare = λ i y z. g.met.R.Row.says y z (g.R.Ord.cmp y z) refl i in
    let position = subst (λ (cmp : g.row.R.Denot → g.row.R.Denot → Ordering). IsBinarySearchResult (λ y. cmp y x) xs r) same c.binary_search.ensures.position in
    rw c.deref.ensures.value at (searched row x xs r c.binary_search.ensures.bound position)
