use Rattle.std.proofs.Common.{◌≡◌, ◌*◌, ◌/◌, ◌<◌, ℕ, length, get_or, [], ◌∙◌, arith}
use Rattle.std.specs.Simd.{first_chunks}
use Rattle.reader.specs.Operands.{number}
use Rattle.reader.proofs.Bytes.{pair_number}
use Rattle.reader.proofs.commands.span_operand.Goals as goal

pub returns : goal.returns
returns c =
    let bs = c.args.operands.now in
    let n = length bs / 2 in
    let cut : c.as_chunks.result.0.now ≡ first_chunks 2 n bs = c.as_chunks.ensures.front in
    let at : (k : ℕ) → k < n → number (get_or c.as_chunks.result.0.now k []) 0 ≡ number bs (2 * k) = λ k h. rw cut (pair_number k n bs h) in
    λ i. record {
      start_line = (c.number.ensures ∙ at 0 (omega (arith, c.requires))) i;
      start_col = record { 0 = (c.number-2.ensures ∙ at 1 (omega (arith, c.requires))) i };
      end_line = (c.number-3.ensures ∙ at 2 (omega (arith, c.requires))) i;
      end_col = record { 0 = (c.number-4.ensures ∙ at 3 (omega (arith, c.requires))) i };
      from = (c.number-5.ensures ∙ at 4 (omega (arith, c.requires))) i;
      to = (c.number-6.ensures ∙ at 5 (omega (arith, c.requires))) i;
    }
