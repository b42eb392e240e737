use Rattle.std.proofs.Common.{true}
use Rattle.std.proofs.lemmas.Option.{slice_get_within}
use Rattle.mapf_low.proofs.backwards.Advancing.{advanced_first, advanced_none}
use Rattle.mapf_low.proofs.Rising.{not_true}
use Rattle.mapf_low.proofs.backwards.earliest.begin.Goals as goal

pub returns-in_ok-push : goal.returns-in_ok-push
returns-in_ok-push c =
    let query = c.args.query.now in
    let posed = c.start-start.ensures.posed in
    rw (c.in_ok-push.ensures.items, c.set.ensures, c.requires.frontier, c.start-start.ensures.start)
    (advanced_first query c.args.table.now c.requires.table posed.start (slice_get_within query.grid.free query.start true posed.start))

pub returns-else-allows_at : goal.returns-else-allows_at
returns-else-allows_at c =
    rw c.requires.frontier (advanced_none c.args.query.now c.args.table.now c.requires.table
    (λ free. not_true c.allows_at.result _ c.allows_at.ensures c.if-allows_at.false (rw c.start-start.ensures.start free)))
