-- What always holds of an instance.
use Rattle.std.specs.Prelude.{◌≡◌, ℕ, ◌<◌, ◌≤◌, length, slice_index}
use Rattle.mapf_grid.specs.Grid.{IsFree, HasSizes}
use Rattle.mapf_grid.specs.Instance.{Instance, IsDistinct}
use Rattle.mapf_grid.specs.declared.instance.TheConstants.{MOST_AGENTS}

-- 1 to 1,000 agents, whose starts are free and distinct, and whose goals are
pub record IsSound (inst : Instance) : Type 0 where
  pub sizes : HasSizes inst.grid
  pub some : 0 < length inst.starts
  pub few : length inst.starts ≤ MOST_AGENTS
  pub goals : length inst.goals ≡ length inst.starts
  pub starts_free : (i : ℕ) → i < length inst.starts → IsFree inst.grid (slice_index inst.starts i)
  pub goals_free : (i : ℕ) → i < length inst.goals → IsFree inst.grid (slice_index inst.goals i)
  pub starts_differ : IsDistinct inst.starts
  pub goals_differ : IsDistinct inst.goals
