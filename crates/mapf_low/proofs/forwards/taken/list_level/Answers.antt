use Rattle.mapf_low.specs.Walk.{distance_at}
use Rattle.std.proofs.Common.{◌≡◌, ◌≤◌, eqb, Some, Contains, subst, sym, ◌∙◌}
use Rattle.std.specs.List.{IsDistinct}
use Rattle.mapf_low.proofs.forwards.FLevelStates.{match_at}
use Rattle.mapf_low.proofs.forwards.Taking.{lists_more}
use Rattle.mapf_low.proofs.forwards.taken.list_level.Goals as goal

pub loop-cell-preserved : goal.loop-cell-preserved
loop-cell-preserved c =
    let near : distance_at c.args.query.now.table c.cell-item.result ≡ Some c.unwrap-distance.result = sym c.entry.ensures ∙ c.unwrap-distance.ensures in
    let here : Contains c.args.level.now c.cell-item.result = subst (λ xs. Contains xs c.cell-item.result) c.cells-cell-items.ensures.cells (c.loop-cell.cell-index, c.loop-cell-test.true, sym c.cell-item.is) in
    let within : c.unwrap-distance.result ≤ c.args.sum = match_at (distance_at c.args.query.now.table c.cell-item.result) c.unwrap-distance.result (λ n. n ≤ c.args.sum) near (c.requires.within c.cell-item.result here) in
    lists_more c.args.query.now.table c.args.sum c.cells-cell-items.result.now c.args.states.now.items c.loop-cell.states.items c.push.new.self.items c.loop-cell.cell-index c.cell-item.result c.unwrap-distance.result
    c.loop-cell-test.true c.cell-item.is (subst (λ xs. IsDistinct eqb xs) (sym c.cells-cell-items.ensures.cells) c.cells-cell-items.ensures.once) near within c.requires.lower c.loop-cell.invariant c.in_ok-push.ensures.items
