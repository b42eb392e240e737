use Rattle.std.proofs.Common.{take}
use Rattle.mapf_optimum.specs.PlaceNumbers.{AreAdded}
use Rattle.mapf_optimum.proofs.together.agent_places.AgentPlaces.add_moves.Given as goal

abbrev pub invariant-loop-place : goal.invariant-loop-place
invariant-loop-place l = AreAdded l.fn.self l.self (take l.place-index l.places) l.time
