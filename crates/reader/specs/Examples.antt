-- Worked examples, which the definition of reading computes. Assumes nothing.
use Rattle.std.specs.Prelude.{◌≡◌, ℕ, List, [], ◌∷◌, ◌++◌, Ok, Err, codes}
use Rattle.text.specs.declared.fault.TextFault.TheVariants.{NotUtf8}
use Rattle.record.specs.declared.command.Command.TheVariants.{Extends, Open, Refer, Text, Close, End}
use Rattle.record.specs.declared.command.Entry.{Entry}
use Rattle.record.specs.declared.command.Opener.TheVariants.{PlainBlock}
use Rattle.record.specs.declared.command.Owner.TheVariants.{Body, Container}
use Rattle.record.specs.declared.fault.Reason.TheVariants.{Text as NotText, Span, Unfinished}
use Rattle.record.specs.declared.letter.Reference.TheVariants.{Function}
use Rattle.reader.specs.Reading.{read}

abbrev pub profile : List ℕ
profile = codes "r tail super!"

-- X `r`; b `tail`; W `!`; U `super`
abbrev pub opening : List ℕ
opening =
    (88 ∷ 0 ∷ 0 ∷ 1 ∷ [])
    ++ ((98 ∷ 0 ∷ 2 ∷ 4 ∷ []) ++ ((87 ∷ 0 ∷ 12 ∷ 0 ∷ 1 ∷ []) ++ (85 ∷ 0 ∷ 7 ∷ 5 ∷ 0 ∷ 1 ∷ 0 ∷ 7 ∷ 0 ∷ 1 ∷ 0 ∷ 12 ∷ 0 ∷ 7 ∷ 0 ∷ 12 ∷ [])))

abbrev pub entries : List Entry
entries =
    record { command = Extends record { start = 0; len = 1 }; owner = Body; place = 0 }
    ∷ record { command = Open PlainBlock record { start = 2; len = 4 }; owner = Body; place = 1 }
    ∷ record { command = Text record { start = 12; len = 1 }; owner = Container 1; place = 0 }
    ∷ record { command = Refer Function record { start = 7; len = 5 } record { start_line = 1; start_col = record { 0 = 7 }; end_line = 1; end_col = record { 0 = 12 }; from = 7; to = 12 }; owner = Container 1; place = 1 }
    ∷ record { command = Close; owner = Container 1; place = 2 }
    ∷ record { command = End; owner = Body; place = 2 }
    ∷ []

pub record Examples : Type 0 where
  -- an empty record
  pub nothing : read [] [] ≡ Err record { reason = Unfinished; at = 0 }
  -- a profile that widens the block `tail` and calls up to it
  pub taken : read profile (opening ++ (69 ∷ 90 ∷ [])) ≡ Ok entries
  -- the same without its E
  pub left_open : read profile (opening ++ (90 ∷ [])) ≡ Err record { reason = Unfinished; at = 30 }
  -- bytes after Z
  pub more : read profile (opening ++ (69 ∷ 90 ∷ 90 ∷ [])) ≡ Err record { reason = Unfinished; at = 31 }
  -- a text that begins within the two bytes of a degree sign
  pub cut : read (194 ∷ 176 ∷ 67 ∷ []) (87 ∷ 0 ∷ 1 ∷ 0 ∷ 2 ∷ 90 ∷ []) ≡ Err record { reason = NotText NotUtf8; at = 0 }
  -- a span at line 0
  pub line_zero : read (97 ∷ []) (70 ∷ 0 ∷ 0 ∷ 1 ∷ 0 ∷ 0 ∷ 0 ∷ 0 ∷ 0 ∷ 0 ∷ 0 ∷ 0 ∷ 0 ∷ 0 ∷ 0 ∷ 1 ∷ 90 ∷ []) ≡ Err record { reason = Span; at = 0 }
