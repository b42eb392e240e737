use Rattle.std.proofs.Common.{take, ◌+◌}
use Rattle.mapf_low.specs.Backwards.Earliest.{Advances}
use Rattle.mapf_low.proofs.backwards.Advancing.{AreTried}
use Rattle.mapf_low.proofs.backwards.earliest.advance_from.Given as goal

abbrev pub invariant-loop-to : goal.invariant-loop-to
invariant-loop-to l =
    record {
      advances : Advances l.query.grid (l.time + 1) l.fn.table l.table l.fn.next.items l.next.items;
      tried : AreTried l.query l.time l.from l.table (take l.to-index l.to-items) l.all_entered;
    }
