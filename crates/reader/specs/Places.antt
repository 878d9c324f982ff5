-- The container that a command stands directly in, said without a reader. Assumes nothing.
use Rattle.std.specs.Prelude.{ℕ, zero, suc, ◌+◌, Bool, true, false, cond, ◌&&◌, List, [], ◌∷◌, map, length, ◌==◌}
use Rattle.record.specs.declared.command.Command.{Command}
use Rattle.record.specs.declared.command.Command.TheVariants.{Extends, Open, Refer, Variable, Text, Close, End}
use Rattle.record.specs.declared.command.Entry.{Entry}
use Rattle.record.specs.declared.command.Owner.{Owner}
use Rattle.record.specs.declared.command.Owner.TheVariants.{Body, Container}

-- Looking back over the commands before, the nearest first: the nearest container that is not closed again. Each close that is passed takes an opener further back with it.
abbrev pub innermost : ℕ → List Command → Owner
innermost closed [] = Body
innermost closed (Extends p ∷ before) = innermost closed before
innermost zero (Open o p ∷ before) = Container (length before)
innermost (suc closed) (Open o p ∷ before) = innermost closed before
innermost closed (Refer k p s ∷ before) = innermost closed before
innermost closed (Variable p ∷ before) = innermost closed before
innermost closed (Text p ∷ before) = innermost closed before
innermost closed (Close ∷ before) = innermost (suc closed) before
innermost closed (End ∷ before) = innermost closed before

abbrev pub same_owner : Owner → Owner → Bool
same_owner Body Body = true
same_owner Body (Container j) = false
same_owner (Container i) Body = false
same_owner (Container i) (Container j) = i == j

abbrev pub commands_of : List Entry → List Command
commands_of entries = map (λ (e : Entry). e.command) entries

-- how many of the commands stand directly there
abbrev pub count_in : Owner → List Entry → ℕ
count_in o [] = 0
count_in o (e ∷ entries) = cond (same_owner o e.owner) 1 0 + count_in o entries

-- the command stands in the innermost container there is, behind those that stand there already; `before` are the entries before it, the nearest first
abbrev pub stands_in : List Entry → Entry → Bool
stands_in before e = same_owner e.owner (innermost 0 (commands_of before)) && e.place == count_in e.owner before

-- each of the entries does
abbrev pub placed : List Entry → List Entry → Bool
placed before [] = true
placed before (e ∷ entries) = stands_in before e && placed (e ∷ before) entries
