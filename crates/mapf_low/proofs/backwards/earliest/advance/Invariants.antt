use Rattle.std.proofs.Common.{ℕ, take, ◌+◌, Contains}
use Rattle.mapf_low.specs.Backwards.Earliest.{Advances, IsLookedAt}
use Rattle.mapf_low.proofs.backwards.earliest.advance.Given as goal

abbrev pub invariant-loop-from : goal.invariant-loop-from
invariant-loop-from l =
    record {
      advances : Advances l.query.grid (l.time + 1) l.fn.table l.table l.fn.next.items l.next.items;
      looked_at : (u : ℕ) → Contains (take l.from-index l.frontier) u → IsLookedAt l.query l.time l.table l.next.items u;
    }
