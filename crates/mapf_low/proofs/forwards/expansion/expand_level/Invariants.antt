use Rattle.std.proofs.Common.{◌-◌}
use Rattle.mapf_grid.specs.Grid.{cells}
use Rattle.mapf_low.proofs.forwards.Closing.{IsClosing}
use Rattle.mapf_low.proofs.forwards.expansion.expand_level.Given as goal

abbrev pub invariant-loop-place : goal.invariant-loop-place
invariant-loop-place l = IsClosing l.query l.sum l.place l.fn.level l.level

abbrev pub decreases-loop-place : goal.decreases-loop-place
decreases-loop-place l = cells l.query.grid - l.place
