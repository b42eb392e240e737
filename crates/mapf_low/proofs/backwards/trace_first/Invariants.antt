use Rattle.mapf_low.specs.Backwards.Tracing.{AreDead, HasNoneBefore}
use Rattle.mapf_low.proofs.backwards.trace_first.Given as goal

abbrev pub invariant-loop-end : goal.invariant-loop-end
invariant-loop-end l =
    record {
      dead : AreDead l.query l.dead.states;
      before : HasNoneBefore l.query l.end;
    }
