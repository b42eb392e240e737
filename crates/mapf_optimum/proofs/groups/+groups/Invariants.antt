use Rattle.std.proofs.Common.{◌+◌, ◌*◌, length}
use Rattle.mapf_optimum.specs.FreeSearch.{IsSame, IsUnderWayFrom}
use Rattle.mapf_optimum.specs.Groups.{AreKnown, alone}
use Rattle.mapf_optimum.proofs.groups.+groups.Given as goal

abbrev pub decreases-ask : goal.decreases-ask
decreases-ask l = 4 * length l.part.now.agents + 3

abbrev pub decreases-look_for : goal.decreases-look_for
decreases-look_for l = 4 * length l.part.now.agents + 2

abbrev pub decreases-bounded : goal.decreases-bounded
decreases-bounded l = 4 * length l.part.now.agents + 1

abbrev pub decreases-grouped : goal.decreases-grouped
decreases-grouped l = 4 * length l.part.now.agents

abbrev pub invariant-look_for-loop-step : goal.invariant-look_for-loop-step
invariant-look_for-loop-step l = record {
  way : IsUnderWayFrom (alone l.part) l.fn.node.sets l.waiting;
  known : AreKnown l.part.problem l.known;
}

abbrev pub invariant-grouped-loop-asked : goal.invariant-grouped-loop-asked
invariant-grouped-loop-asked l = record {
  same : IsSame (alone l.part) l.fn.node l.now;
  known : AreKnown l.part.problem l.known;
}
