use Rattle.std.proofs.Common.{◌+◌, None, Some, get_or-set_same, sym, ◌∙◌}
use Rattle.mapf_low.proofs.backwards.Advancing.{advances_enters}
use Rattle.mapf_low.proofs.distances.Marking.{none_from_test, some_from_test}
use Rattle.mapf_low.proofs.backwards.earliest.enter.Goals as goal

pub returns-then-is_some-clause-entered : goal.returns-then-is_some-clause-entered
returns-then-is_some-clause-entered c =
    let some = some_from_test c.get.result (sym c.is_some.ensures ∙ c.if-is_some.true) in
    λ m. (some.0, sym c.get.ensures ∙ some.1)

pub returns-then-is_some-clause-tells : goal.returns-then-is_some-clause-tells
returns-then-is_some-clause-tells c =
    let some = some_from_test c.get.result (sym c.is_some.ensures ∙ c.if-is_some.true) in
    λ t. (some.0, sym c.get.ensures ∙ some.1)

pub returns-clause-advances : goal.returns-clause-advances
returns-clause-advances c =
    rw (c.in_ok-push.ensures.items, c.set.ensures)
    (advances_enters c.args.query.now.grid (c.args.time + 1) c.args.table.now c.args.next.now.items c.args.to c.requires.free c.requires.inside (sym c.get.ensures ∙ none_from_test c.get.result (sym c.is_some.ensures ∙ c.if-is_some.false)))

pub returns-clause-entered : goal.returns-clause-entered
returns-clause-entered c =
    rw c.set.ensures (λ m. (c.args.time + 1, get_or-set_same c.args.table.now c.args.to (Some (c.args.time + 1)) None c.requires.inside))

pub returns-clause-tells : goal.returns-clause-tells
returns-clause-tells c =
    rw c.set.ensures (λ m. (c.args.time + 1, get_or-set_same c.args.table.now c.args.to (Some (c.args.time + 1)) None c.requires.inside))
