use Rattle.std.proofs.Common.{ap, ◌∙◌, arith}
use Rattle.text.specs.Utf8.{utf8}
use Rattle.text.proofs.Cut.{front}
use Rattle.text.proofs.Decoding.{utf8_decides}
use Rattle.text.proofs.name.Name.new.Goals as goal

pub invariant_of-result : goal.invariant_of-result
invariant_of-result c =
    record { text = ap utf8 (front _ _ _ _ c.copy_from_slice.ensures.after (omega arith)) ∙ (utf8_decides _).1 c.in_ok-from_utf8.ensures.cases.1 }
