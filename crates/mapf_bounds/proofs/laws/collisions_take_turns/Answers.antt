use Rattle.mapf_bounds.proofs.DisjointPairs.{collisions_take_turns}
use Rattle.mapf_bounds.proofs.laws.collisions_take_turns.Goals as goal

pub returns : goal.returns
returns c = collisions_take_turns
