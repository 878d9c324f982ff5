-- What text is. Assumes nothing.
use Rattle.std.specs.Prelude.{ℕ, Bool, ◌&&◌, List}
use Rattle.std.specs.Str.{all_scalars, bytes_eq, chars, encode_utf8_all}

-- Bytes are UTF-8 if the characters that they spell are Unicode scalar values, and these are spelled so.
-- (`chars` reads any bytes at all; only where they are UTF-8 does spelling the characters again give them back.)
-- The library's `is_utf8` says the same. It is written out here, since a proof looks into these words and not into that one.
abbrev pub utf8 : List ℕ → Bool
utf8 bs = all_scalars (chars bs) && bytes_eq (encode_utf8_all (chars bs)) bs
