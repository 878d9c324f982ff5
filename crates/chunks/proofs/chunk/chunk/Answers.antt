use Rattle.std.proofs.Common.{[], ap, ◌∙◌, filter, rules, tests}
use Rattle.std.specs.Bool.{then_some}
use Rattle.std.proofs.lemmas.Iterator.{YieldsList-from_slice, items_from_collect}
use Rattle.std.proofs.lemmas.Iterator.Consumers.{YieldsList-from_filter_map}
use Rattle.std.proofs.lemmas.Result.{IfOk-weaker}
use Rattle.reader.specs.Places.{commands_of}
use Rattle.chunks.specs.Chunks.{chunk_of}
use Rattle.chunks.proofs.Within.{filter_map-test, kept_chunk, named}
use Rattle.chunks.proofs.chunk.chunk.Goals as goal

pub returns : goal.returns
returns c =
    let owner = c.args.owner in
    let es = c.entries.result.now in
    let kept = items_from_collect c.collect.result c.collect.ensures.ran (YieldsList-from_filter_map _ (λ e. then_some (named owner e) e) (YieldsList-from_slice es cc) c.filter_map.ensures.closure (λ x r q k. search (rules, tests))) in
    record {
      entries = IfOk-weaker c.collect.result _ _ (λ v is. is ∙ filter_map-test (named owner) es ∙ ap (filter (named owner)) c.entries.ensures.entries) kept;
      innermost = IfOk-weaker c.collect.result _ _ (λ v is. ap commands_of (is ∙ filter_map-test (named owner) es) ∙ kept_chunk owner [] es c.entries.ensures.innermost ∙ ap (λ es. chunk_of owner [] (commands_of es)) c.entries.ensures.entries) kept;
    }
