use Rattle.std.proofs.Common.{◌≡◌, ◌≤◌, All, None, length}
use Rattle.std.specs.Vec.{vec_capacity}
use Rattle.mapf_board.proofs.round.empty_places.Given as goal

abbrev pub invariant-loop-i : goal.invariant-loop-i
invariant-loop-i g l = record {
  long : length l.places.items ≡ l.i;
  room : l.count ≤ vec_capacity l.places;
  empty : All (λ place. place ≡ None) l.places.items;
}
