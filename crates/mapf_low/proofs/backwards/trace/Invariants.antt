use Rattle.std.proofs.Common.{◌≤◌, ◌+◌, ◌*◌}
use Rattle.mapf_low.specs.Backwards.Tracing.{AreDead}
use Rattle.mapf_low.proofs.backwards.Placing.{IsPlaced}
use Rattle.mapf_low.proofs.backwards.trace.Given as goal

abbrev pub invariant-loop-time : goal.invariant-loop-time
invariant-loop-time l =
    record {
      inside : l.time ≤ l.end;
      placed : IsPlaced l.query l.dead.states l.cells.items l.time l.end;
      dead : AreDead l.query l.dead.states;
    }

abbrev pub decreases-loop-time : goal.decreases-loop-time
decreases-loop-time l = l.dead.room * (l.end + 2) + l.time
