use Rattle.std.proofs.Common.{◌≡◌, List, [], ◌∷◌, ◌+◌, ◌++◌, take, sym, ap, ◌∙◌, subst}
use Rattle.std.proofs.lemmas.List.{append_assoc, take_more}
use Rattle.table.specs.Calls.{Kept}
use Rattle.table.proofs.ordered.Table.keep_all.Goals as goal

pub loop-row-preserved : goal.loop-row-preserved
loop-row-preserved g c =
    let rows = c.args.rows.now in
    let i = c.loop-row.row-index in
    let x = c.row-item.result in
    let more : take i rows ++ x ∷ [] ≡ take (i + 1) rows = ap (λ z. take i rows ++ z ∷ []) c.row-item.is ∙ sym (take_more rows i x c.loop-row-test.true) in
    record {
      limit = c.keep_first.ensures.does.limit ∙ c.loop-row.invariant.limit;
      first = λ all k.
          subst (λ (ws : List g.row.R.Denot). Kept g.R.Row.compare ws c.keep_first.new.self) (append_assoc all (take i rows) (x ∷ []) ∙ ap (λ ws. all ++ ws) more)
          (c.keep_first.ensures.first (all ++ take i rows) (c.loop-row.invariant.first all k));
    }
