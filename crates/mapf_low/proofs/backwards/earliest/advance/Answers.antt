use Rattle.std.proofs.Common.{◌≡◌, ◌+◌, length, arith}
use Rattle.mapf_low.proofs.backwards.Advancing.{advances_both, looked_more}
use Rattle.mapf_low.proofs.Growing.{all_in_front}
use Rattle.mapf_low.proofs.backwards.earliest.advance.Goals as goal

pub loop-from-preserved : goal.loop-from-preserved
loop-from-preserved c =
    record {
      advances = advances_both c.args.query.now.grid (c.args.time + 1) c.args.table.now c.loop-from.table c.advance_from.new.table c.args.next.now.items c.loop-from.next.items c.advance_from.new.next.items
          c.loop-from.invariant.advances c.in_ok-advance_from.ensures.advances;
      looked_at = looked_more c.args.query.now c.args.time (c.args.time + 1) c.loop-from.table c.advance_from.new.table c.loop-from.next.items c.advance_from.new.next.items
          c.args.frontier.now c.loop-from.from-index c.from-item.result c.loop-from-test.true c.from-item.is
          c.loop-from.invariant.looked_at c.in_ok-advance_from.ensures.advances c.in_ok-advance_from.ensures.looked_at;
    }

pub returns-clause-looked_at : goal.returns-clause-looked_at
returns-clause-looked_at c =
    let whole : c.loop-from.from-index ≡ length c.args.frontier.now = omega arith in
    λ u i. c.loop-from.invariant.looked_at u ((all_in_front c.args.frontier.now c.loop-from.from-index u whole).1 i)
