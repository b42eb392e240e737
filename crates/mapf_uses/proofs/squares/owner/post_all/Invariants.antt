use Rattle.mapf_board.specs.Owners.{IsOwnerOf, currents}
use Rattle.mapf_uses.specs.Posted.{AreAmong}
use Rattle.mapf_uses.proofs.squares.owner.post_all.Given as goal

abbrev pub invariant-loop-slot : goal.invariant-loop-slot
invariant-loop-slot l = record {
  owner : IsOwnerOf l.live l.owner;
  jobs : AreAmong (currents l.owner) l.numbers;
}
