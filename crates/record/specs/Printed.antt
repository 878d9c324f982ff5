-- How kinds and refusals are printed.
use Rattle.std.specs.Prelude.{ℕ, List, ◌++◌, codes}
use Rattle.std.specs.Fmt.{decimal}
use Rattle.record.specs.declared.command.Container.{Container}
use Rattle.record.specs.declared.command.Container.TheVariants.{Block, Component as component}
use Rattle.record.specs.declared.fault.Layer.{Layer}
use Rattle.record.specs.declared.fault.Layer.TheVariants.{Text, Record}
use Rattle.record.specs.declared.fault.RecordFault.{RecordFault}
use Rattle.record.specs.declared.letter.Reference.{Reference}
use Rattle.record.specs.declared.letter.Reference.TheVariants.{Filter, Test, Function, Component, Include}
use Rattle.record.specs.Refusals.{layer_of, number_of}

abbrev pub container_word : Container → List ℕ
container_word Block = codes "block"
container_word component = codes "component"

abbrev pub reference_word : Reference → List ℕ
reference_word Filter = codes "filter"
reference_word Test = codes "test"
reference_word Function = codes "function"
reference_word Component = codes "component"
reference_word Include = codes "include"

abbrev pub layer_word : Layer → List ℕ
layer_word Text = codes "text"
layer_word Record = codes "record"

-- the number of the refusal, its layer and its position, as `16 record at 15`
abbrev pub fault_words : RecordFault → List ℕ
fault_words fault = decimal (number_of fault.reason) ++ (codes " " ++ (layer_word (layer_of fault.reason) ++ (codes " at " ++ decimal fault.at)))
