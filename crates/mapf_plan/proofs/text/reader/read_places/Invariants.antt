use Rattle.std.proofs.Common.{length}
use Rattle.mapf_plan.proofs.text.Places.{ReadsTo}
use Rattle.mapf_plan.proofs.text.reader.read_places.Given as goal

abbrev pub invariant-loop-word : goal.invariant-loop-word
invariant-loop-word l = ReadsTo l.line l.rest l.places.items

abbrev pub decreases-loop-word : goal.decreases-loop-word
decreases-loop-word l = length l.rest
