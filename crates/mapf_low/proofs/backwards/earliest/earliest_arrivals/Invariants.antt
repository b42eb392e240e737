use Rattle.std.proofs.Common.{◌≡◌, []}
use Rattle.mapf_low.specs.Backwards.Earliest.{IsAdvanced}
use Rattle.mapf_low.proofs.backwards.earliest.earliest_arrivals.Given as goal

abbrev pub invariant-loop-time : goal.invariant-loop-time
invariant-loop-time l = IsAdvanced l.query l.time l.table l.frontier.items × (l.next.items ≡ [])
