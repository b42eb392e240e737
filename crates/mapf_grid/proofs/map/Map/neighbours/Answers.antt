use Rattle.std.proofs.Common.{ℕ, ◌<◌, List, subst}
use Rattle.mapf_grid.specs.Grid.{Grid, IsFree, IsBeside}
use Rattle.mapf_grid.specs.FreeNeighbours.{PushesFree}
use Rattle.mapf_grid.proofs.map.Neighbours.{Holds, neighbours_of_cell, neighbours_are_steps}
use Rattle.mapf_grid.proofs.map.Map.neighbours.Goals as goal

wide : (c : goal.After-push_free-4) → 0 < c.args.self.now.width
wide c = subst (λ (g : Grid). 0 < g.width) c.self.view_is c.self.invariant.0.some_width

held : (c : goal.After-push_free-4) → Holds (λ v. IsFree c.args.self.now v × IsBeside c.args.self.now c.args.cell v) c.push_free-4.new.neighbours.items
held c = neighbours_of_cell c.args.self.now c.args.cell c.cell_above.result c.cell_at_left.result c.cell_at_right.result c.cell_below.result
    c.push_free.new.neighbours.items c.push_free-2.new.neighbours.items c.push_free-3.new.neighbours.items c.push_free-4.new.neighbours.items (record {
      width = wide c;
      is_above = c.cell_above.ensures;
      is_left = c.cell_at_left.ensures;
      is_right = c.cell_at_right.ensures;
      is_below = c.cell_below.ensures;
      one = subst (λ (items : List ℕ). PushesFree c.args.self.now c.cell_above.result items c.push_free.new.neighbours.items) c.new-neighbours.ensures.items c.push_free.ensures.pushes;
      two = c.push_free-2.ensures.pushes;
      three = c.push_free-3.ensures.pushes;
      four = c.push_free-4.ensures.pushes;
    })

pub returns-clause-neighbours : goal.returns-clause-neighbours
returns-clause-neighbours c = (held c).cells

pub returns-clause-steps : goal.returns-clause-steps
returns-clause-steps c = λ free. neighbours_are_steps c.args.self.now c.args.cell c.push_free-4.new.neighbours.items (wide c) free (held c)

pub returns-clause-rising : goal.returns-clause-rising
returns-clause-rising c = (held c).rising
