-- The published numbers of a record's refusals, and the layer that each names. Assumes nothing.
use Rattle.std.specs.Prelude.{ℕ}
use Rattle.record.specs.declared.fault.Layer.{Layer}
use Rattle.record.specs.declared.fault.Layer.TheVariants.{Text as text_layer, Record as record_layer}
use Rattle.record.specs.declared.fault.Reason.{Reason}
use Rattle.record.specs.declared.fault.Reason.TheVariants.{Unknown, Incomplete, Text, Span, Misplaced, Repeated, TooDeep, Unfinished}

abbrev pub number_of : Reason → ℕ
number_of Unknown = 9
number_of Incomplete = 10
number_of (Text fault) = 11
number_of Span = 12
number_of Misplaced = 13
number_of Repeated = 14
number_of TooDeep = 15
number_of Unfinished = 16

abbrev pub layer_of : Reason → Layer
layer_of Unknown = record_layer
layer_of Incomplete = record_layer
layer_of (Text fault) = text_layer
layer_of Span = record_layer
layer_of Misplaced = record_layer
layer_of Repeated = record_layer
layer_of TooDeep = record_layer
layer_of Unfinished = record_layer
