use Rattle.std.proofs.Common.{◌≡◌, map, take}
use Rattle.mapf_plan.specs.Path.{cost}
use Rattle.mapf_optimum.proofs.agents.costs_of.Given as goal

abbrev pub invariant-loop-path : goal.invariant-loop-path
invariant-loop-path l = l.costs.items ≡ map cost (take l.path-index l.paths)
