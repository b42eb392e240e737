use Rattle.std.proofs.Common.{sym, ap, ◌∙◌}
use Rattle.mapf_low.specs.Query.{Query}
use Rattle.mapf_low.proofs.backwards.AscendingNeighbours.{second_smallest, third_smallest, fourth_smallest, last_smallest}
use Rattle.mapf_low.proofs.query.Query.smallest_before.Goals as goal

pub returns-then-is_some-2 : goal.returns-then-is_some-2
returns-then-is_some-2 c =
    second_smallest c.args.self.now c.args.dead.now.states c.args.time c.args.to c.self.inside.map.now (ap (λ (q : Query). q.grid) c.self.view_is) c.self.invariant.posed.sizes c.requires.free
    c.free_above.result c.if_left-above.result c.free_at_left.result c.if_left-at_left.result
    c.free_above.ensures c.if_left-above.ensures (sym c.is_some.ensures ∙ c.if-is_some.false) c.free_at_left.ensures c.if_left-at_left.ensures
    (sym c.is_some-2.ensures ∙ c.if-is_some-2.true)

pub returns-then-is_some-3 : goal.returns-then-is_some-3
returns-then-is_some-3 c =
    third_smallest c.args.self.now c.args.dead.now.states c.args.time c.args.to c.self.inside.map.now (ap (λ (q : Query). q.grid) c.self.view_is) c.self.invariant.posed.sizes c.requires.free
    c.free_above.result c.if_left-above.result c.free_at_left.result c.if_left-at_left.result
    c.free_above.ensures c.if_left-above.ensures (sym c.is_some.ensures ∙ c.if-is_some.false) c.free_at_left.ensures c.if_left-at_left.ensures
    (sym c.is_some-2.ensures ∙ c.if-is_some-2.false) c.if_left-stays.result c.if_left-stays.ensures
    (sym c.is_some-3.ensures ∙ c.if-is_some-3.true)

pub returns-then-is_some-4 : goal.returns-then-is_some-4
returns-then-is_some-4 c =
    fourth_smallest c.args.self.now c.args.dead.now.states c.args.time c.args.to c.self.inside.map.now (ap (λ (q : Query). q.grid) c.self.view_is) c.self.invariant.posed.sizes c.requires.free
    c.free_above.result c.if_left-above.result c.free_at_left.result c.if_left-at_left.result
    c.free_above.ensures c.if_left-above.ensures (sym c.is_some.ensures ∙ c.if-is_some.false) c.free_at_left.ensures c.if_left-at_left.ensures
    (sym c.is_some-2.ensures ∙ c.if-is_some-2.false) c.if_left-stays.result c.if_left-stays.ensures
    (sym c.is_some-3.ensures ∙ c.if-is_some-3.false) c.free_at_right.result c.if_left-at_right.result c.free_at_right.ensures c.if_left-at_right.ensures
    (sym c.is_some-4.ensures ∙ c.if-is_some-4.true)

pub returns : goal.returns
returns c =
    last_smallest c.args.self.now c.args.dead.now.states c.args.time c.args.to c.self.inside.map.now (ap (λ (q : Query). q.grid) c.self.view_is) c.self.invariant.posed.sizes c.requires.free
    c.free_above.result c.if_left-above.result c.free_at_left.result c.if_left-at_left.result
    c.free_above.ensures c.if_left-above.ensures (sym c.is_some.ensures ∙ c.if-is_some.false) c.free_at_left.ensures c.if_left-at_left.ensures
    (sym c.is_some-2.ensures ∙ c.if-is_some-2.false) c.if_left-stays.result c.if_left-stays.ensures
    (sym c.is_some-3.ensures ∙ c.if-is_some-3.false) c.free_at_right.result c.if_left-at_right.result c.free_at_right.ensures c.if_left-at_right.ensures
    (sym c.is_some-4.ensures ∙ c.if-is_some-4.false) c.free_below.result c.if_left.result c.free_below.ensures c.if_left.ensures
