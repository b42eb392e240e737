use Rattle.std.proofs.Common.{take, Contains}
use Rattle.mapf_optimum.specs.declared.together.place.Place.{Place}
use Rattle.mapf_optimum.proofs.AgentPlaces.{AreReached}
use Rattle.mapf_optimum.proofs.together.agent.Agent.add_moves.Given as goal

abbrev pub invariant-loop-to : goal.invariant-loop-to
invariant-loop-to l = record {
  keeps : (x : Place) → Contains l.fn.places.items x → Contains l.places.items x;
  reached : AreReached l.self l.time l.most l.from (take l.to-index l.to-items) l.places.items;
}
