use Rattle.mapf_optimum.specs.FreeTree.{HaveAllowedPaths}
use Rattle.mapf_optimum.specs.Groups.{alone}
use Rattle.mapf_optimum.proofs.settling.settle_partners.Given as goal

abbrev pub invariant-loop-round : goal.invariant-loop-round
invariant-loop-round l = HaveAllowedPaths (alone l.part) l.sets l.paths.items
