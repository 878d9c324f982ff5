use Rattle.std.proofs.Common.{[], ap, ◌∙◌}
use Rattle.reader.specs.Places.{commands_of}
use Rattle.chunks.specs.Chunks.{calls_super, chunk_of}
use Rattle.chunks.proofs.Within.{kept_chunk}
use Rattle.chunks.proofs.chunk.chunk_calls_super.Goals as goal

pub returns : goal.returns
returns c =
    let owner = c.args.owner in
    c.calls_super.ensures
    ∙ ap (calls_super c.as_bytes.result.now) (kept_chunk owner [] c.entries.result.now c.entries.ensures.innermost)
    ∙ (λ i. calls_super ((c.as_bytes.ensures.value ∙ c.source.ensures) i) (chunk_of owner [] (commands_of (c.entries.ensures.entries i))))
