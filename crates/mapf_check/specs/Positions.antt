-- Where the positions of a verdict lie, which its line prints as column and row.
use Rattle.std.specs.Prelude.{◌<◌}
use Rattle.mapf_grid.specs.Grid.{Grid, cells}
use Rattle.mapf_plan.specs.declared.conflict.Conflict.{Conflict}
use Rattle.mapf_plan.specs.declared.conflict.Conflict.TheVariants.{Vertex, Swapping, Following}
use Rattle.mapf_check.specs.declared.verdict.Verdict.{Verdict}
use Rattle.mapf_check.specs.declared.verdict.Verdict.TheVariants as verdict

-- the cells of a conflict are cells of the map
abbrev pub IsOnMap : Grid → Conflict → Type 0
IsOnMap g (Vertex t i j v) = v < cells g
IsOnMap g (Swapping t i j u v) = (u < cells g) × (v < cells g)
IsOnMap g (Following t i j v) = v < cells g

-- a verdict on a conflict names cells of the map
abbrev pub HasPositions : Grid → Verdict → Type 0
HasPositions g (verdict.Valid c) = Unit {0}
HasPositions g verdict.NoPlanGiven = Unit {0}
HasPositions g (verdict.AgentCount paths) = Unit {0}
HasPositions g (verdict.WrongStart i) = Unit {0}
HasPositions g (verdict.BadStep i t) = Unit {0}
HasPositions g (verdict.WrongEnd i) = Unit {0}
HasPositions g (verdict.EndsLate i) = Unit {0}
HasPositions g (verdict.Conflict c) = IsOnMap g c
HasPositions g (verdict.WrongCost s found) = Unit {0}
