use Rattle.std.proofs.Common.{◌≡◌, ◌+◌}
use Rattle.mapf_grid.specs.Grid.{IsFree}
use Rattle.mapf_grid.proofs.map.Neighbours.{free_neighbour}
use Rattle.mapf_grid.proofs.map.Map.free_above.Goals as goal

pub returns : goal.returns
returns c = free_neighbour c.cell_above.result c.if_free.result (λ v. c.args.cell ≡ v + c.args.self.now.width) (IsFree c.args.self.now) c.cell_above.ensures c.if_free.ensures
