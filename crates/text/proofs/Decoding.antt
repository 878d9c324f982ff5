-- The test `utf8` and the library's `IsUtf8` say the same. Assumes nothing.
use Rattle.std.proofs.Common.{ℕ, List, IsUtf8, Decides}
use Rattle.std.specs.Str.{all_scalars, bytes_eq, chars, encode_utf8_all}
use Rattle.std.proofs.lemmas.Slice.Eq.{bytes_eq-Decides}
use Rattle.std.proofs.lemmas.Bool.{and_parts, and_from}
use Rattle.std.proofs.lemmas.Str.{encodes-chars, scalars-chars}
use Rattle.text.specs.Utf8.{utf8}

pub utf8_decides : (bs : List ℕ) → Decides (utf8 bs) (IsUtf8 bs)
utf8_decides bs = (
  λ e.
      let p = and_parts (all_scalars (chars bs)) (bytes_eq (encode_utf8_all (chars bs)) bs) e in
      (chars bs, (p.0, (bytes_eq-Decides (encode_utf8_all (chars bs)) bs).0 p.1)),
  λ u. and_from _ _ (scalars-chars bs u) ((bytes_eq-Decides (encode_utf8_all (chars bs)) bs).1 (encodes-chars bs u)),
)
