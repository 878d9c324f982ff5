-- Containers by kind and name. Assumes nothing.
use Rattle.std.specs.Prelude.{ℕ, Bool, true, false, ◌&&◌, List, Some, None, Option}
use Rattle.std.specs.Str.{bytes_eq}
use Rattle.text.specs.Texts.{part_bytes}
use Rattle.text.specs.declared.part.Part.{Part}
use Rattle.record.specs.declared.command.Container.{Container}
use Rattle.record.specs.declared.command.Container.TheVariants.{Block, Component}

abbrev pub same_container : Container → Container → Bool
same_container Block Block = true
same_container Block Component = false
same_container Component Block = false
same_container Component Component = true

-- does the command open a container of that kind and name?
abbrev pub opens_named : List ℕ → Container → List ℕ → Option (Container × Part) → Bool
opens_named source kind name None = false
opens_named source kind name (Some q) = same_container kind q.0 && bytes_eq (part_bytes source q.1) name
