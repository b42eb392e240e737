use Rattle.std.proofs.Common.{slice_index}
use Rattle.mapf_low.specs.Reached.{IsReconstructed}
use Rattle.mapf_low.proofs.reconstruction.reconstruct_path.Given as goal

abbrev pub invariant-loop-time : goal.invariant-loop-time
invariant-loop-time g l =
    IsReconstructed l.query (g.R.Reached.has l.reached) l.cells.items l.time l.end
    × g.R.Reached.has l.reached l.time (slice_index l.cells.items l.time)
