use Rattle.std.proofs.Common.{◌≡◌, map, take, get_or}
use Rattle.mapf_optimum.proofs.part.members_of.Given as goal

abbrev pub invariant-loop-place : goal.invariant-loop-place
invariant-loop-place l = l.members.items ≡ map (λ k. get_or l.all k 0) (take l.place-index l.places)
