use Rattle.std.proofs.Common.{take}
use Rattle.mapf_low.specs.Forwards.FLevels.{Grows, SomeLeads}
use Rattle.mapf_low.proofs.forwards.expansion.fill_later_levels.Given as goal

abbrev pub invariant-loop-from : goal.invariant-loop-from
invariant-loop-from l =
    record {
      next : Grows (SomeLeads l.query l.sum 1 (take l.from-index l.from-items)) l.fn.next l.next;
      after : Grows (SomeLeads l.query l.sum 2 (take l.from-index l.from-items)) l.fn.after l.after;
    }
