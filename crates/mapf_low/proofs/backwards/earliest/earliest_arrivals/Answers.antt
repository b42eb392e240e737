use Rattle.std.proofs.Common.{◌≡◌, length, arith}
use Rattle.std.proofs.lemmas.Bool.Decides.{nat_tests}
use Rattle.mapf_low.proofs.backwards.Advancing.{advanced_next, earliest_early}
use Rattle.mapf_low.proofs.backwards.earliest.earliest_arrivals.Goals as goal

pub returns-then-is_empty : goal.returns-then-is_empty
returns-then-is_empty c =
    let none : length c.loop-time.frontier.items ≡ 0 = grind (arith, nat_tests, c.is_empty.ensures) in
    earliest_early c.args.query.now c.loop-time.time c.loop-time.table c.loop-time.frontier.items c.loop-time.invariant.0 none

pub advance-requires-clause-early : goal.advance-requires-clause-early
advance-requires-clause-early c = omega (arith, c.bound-time-end.ensures.posed.bound, c.bound-time-end.ensures.bound)

pub loop-time-preserved : goal.loop-time-preserved
loop-time-preserved c =
    let query = c.args.query.now in
    let advances = rw c.loop-time.invariant.1 at c.in_ok-advance.ensures.advances in
    let looked_at = rw c.deref.ensures.value at c.in_ok-advance.ensures.looked_at in (
      rw c.swap.ensures.x_after (advanced_next query c.loop-time.time c.loop-time.table c.advance.new.table
          c.loop-time.frontier.items c.advance.new.next.items c.loop-time.invariant.0 advances looked_at),
      c.clear.ensures.items,
    )
