use Rattle.std.proofs.Common.{◌≡◌, ◌+◌, ◌≤◌, length, IsUtf8, ◌∙◌, subst, arith}
use Rattle.std.proofs.lemmas.Grind.{common_steps}
use Rattle.std.proofs.lemmas.Bool.{cond-true, le-leb}
use Rattle.text.specs.Texts.{part_bytes}
use Rattle.text.proofs.Decoding.{utf8_decides}
use Rattle.text.proofs.part.Part.text.Goals as goal

pub returns : goal.returns
returns c =
    let part = c.args.self in
    let inside : part.start + part.len ≤ length c.args.source.now = grind (arith, common_steps) in
    let bytes : c.in-Some.bytes.now ≡ part_bytes c.args.source.now part = grind (arith, common_steps) in
    let text = c.in_ok-from_utf8.ensures.cases in (
      cond-true _ _ _ (le-leb _ _ inside) ∙ cond-true _ _ _ ((utf8_decides _).1 (subst IsUtf8 bytes text.1)),
      text.0 ∙ bytes,
    )
