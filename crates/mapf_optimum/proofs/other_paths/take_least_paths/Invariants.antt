use Rattle.std.proofs.Common.{ℕ, ◌<◌, ◌≤◌, get_or}
use Rattle.mapf_plan.specs.Path.{cost}
use Rattle.mapf_plan.specs.Plan.{path_of}
use Rattle.mapf_optimum.specs.FreeTree.{HaveAllowedPaths}
use Rattle.mapf_optimum.specs.Groups.{alone}
use Rattle.mapf_optimum.proofs.other_paths.take_least_paths.Given as goal

abbrev pub invariant-loop-agent : goal.invariant-loop-agent
invariant-loop-agent l = record {
  paths : HaveAllowedPaths (alone l.part) l.sets l.paths.items;
  least : (i : ℕ) → i < l.agent → cost (path_of l.paths.items i) ≤ get_or l.costs i 0;
}
