use Rattle.std.proofs.Common.{◌≡◌, ◌+◌, ◌/◌}
use Rattle.mapf_grid.specs.Grid.{IsFree}
use Rattle.mapf_grid.proofs.map.Neighbours.{free_neighbour}
use Rattle.mapf_grid.proofs.map.Map.free_at_right.Goals as goal

pub returns : goal.returns
returns c = free_neighbour c.cell_at_right.result c.if_free.result (λ v. (v ≡ c.args.cell + 1) × (v / c.args.self.now.width ≡ c.args.cell / c.args.self.now.width)) (IsFree c.args.self.now) c.cell_at_right.ensures c.if_free.ensures
