use Rattle.std.proofs.Common.{IsTrue, inl, inr}
use Rattle.mapf_grid.specs.Grid.{IsRightOrBelow}
use Rattle.mapf_grid.proofs.map.Map.is_right_or_below.Goals as goal

pub returns-then-is_cell : goal.returns-then-is_cell
returns-then-is_cell c = (λ t. inr ((c.cell_above.ensures c.args.first).0 (c.is_cell.ensures.0 t)), λ h. c.if-is_cell.true)

pub returns-else-is_cell : goal.returns-else-is_cell
returns-else-is_cell c = (λ t. inl ((c.cell_at_left.ensures c.args.first).0 (c.is_cell-else-is_cell.ensures.0 t)), from)
  where
    from : IsRightOrBelow c.args.self.now c.args.first c.args.second → IsTrue c.is_cell-else-is_cell.result
    from (inl h) = c.is_cell-else-is_cell.ensures.1 ((c.cell_at_left.ensures c.args.first).1 h)
    from (inr h) =
        let above : IsTrue c.is_cell.result = c.is_cell.ensures.1 ((c.cell_above.ensures c.args.first).1 h) in
        absurd (cc (above, c.if-is_cell.false))
