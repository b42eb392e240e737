use Rattle.mapf_optimum.specs.FreeTree.{HaveAllowedPaths}
use Rattle.mapf_optimum.specs.Groups.{alone}
use Rattle.mapf_optimum.proofs.settling.settle_each.Given as goal

abbrev pub invariant-loop-agent : goal.invariant-loop-agent
invariant-loop-agent l = HaveAllowedPaths (alone l.part) l.sets l.paths.items
