-- The chunks of a template. Assumes nothing.
use Rattle.std.specs.Prelude.{ℕ, Bool, cond, List, [], ◌∷◌}
use Rattle.std.specs.List.{list_any}
use Rattle.record.specs.declared.command.Command.{Command}
use Rattle.record.specs.declared.command.Owner.{Owner}
use Rattle.reader.specs.Places.{innermost, same_owner}
use Rattle.chunks.specs.References.{is_super}

-- the commands of which `owner` is the innermost container, in record order; `before` are the commands before them, the nearest first
abbrev pub chunk_of : Owner → List Command → List Command → List Command
chunk_of owner before [] = []
chunk_of owner before (c ∷ cs) = cond (same_owner owner (innermost 0 before)) (c ∷ chunk_of owner (c ∷ before) cs) (chunk_of owner (c ∷ before) cs)

-- one of the commands is a call of super
abbrev pub calls_super : List ℕ → List Command → Bool
calls_super source commands = list_any (is_super source) commands
