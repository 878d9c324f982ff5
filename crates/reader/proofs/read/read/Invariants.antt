use Rattle.std.proofs.Common.{length, vec_items}
use Rattle.reader.proofs.Underway.{Underway}
use Rattle.reader.proofs.read.read.Given as goal

abbrev pub invariant-loop-entries : goal.invariant-loop-entries
invariant-loop-entries l = Underway l.source l.«record» (vec_items l.entries) l.reader

abbrev pub decreases-loop-entries : goal.decreases-loop-entries
decreases-loop-entries l = length l.reader.rest.now
