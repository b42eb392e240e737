use Rattle.std.proofs.Common.{take}
use Rattle.mapf_optimum.specs.PlaceNumbers.{AreKnownOf}
use Rattle.mapf_optimum.proofs.together.start.first_places.Given as goal

abbrev pub invariant-loop-agent : goal.invariant-loop-agent
invariant-loop-agent l = AreKnownOf (take l.agent-index l.agents) l.bound l.places.items
