use Rattle.std.proofs.Common.{◌≡◌, ◌*◌, ◌≤◌, length, map, take}
use Rattle.std.specs.Vec.{vec_capacity}
use Rattle.mapf_board.specs.Owners.{IsOwnerOf, currents}
use Rattle.mapf_uses.specs.Posted.{AreAmong}
use Rattle.mapf_uses.proofs.squares.owner.square_all.Given as goal

abbrev pub invariant-loop-slot : goal.invariant-loop-slot
invariant-loop-slot l = record {
  owner : IsOwnerOf l.live l.owner;
  jobs : AreAmong (currents l.owner) l.numbers;
  squares : l.squares.items ≡ map (λ n. n * n) (take l.slot l.numbers);
  room : length l.numbers ≤ vec_capacity l.squares;
}
