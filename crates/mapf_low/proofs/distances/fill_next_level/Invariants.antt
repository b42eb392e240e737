use Rattle.std.proofs.Common.{take}
use Rattle.mapf_low.specs.Distances.Levels.{Marks, IsFreeNeighbourOfSome, TellUnseen, distances_of}
use Rattle.mapf_low.proofs.distances.fill_next_level.Given as goal

abbrev pub invariant-loop-cell : goal.invariant-loop-cell
invariant-loop-cell l = record {
  marks : Marks (IsFreeNeighbourOfSome l.map (take l.cell-index l.level)) l.distance (distances_of l.fn.marks) (distances_of l.marks) l.fn.next.items l.next.items;
  unseen : TellUnseen l.map l.marks;
}
