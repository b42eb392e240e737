use Rattle.mapf_optimum.specs.Groups.{alone}
use Rattle.mapf_optimum.proofs.TogetherAgents.{AreFirst}
use Rattle.mapf_optimum.proofs.node.FreeNode.cost_together.Given as goal

abbrev pub invariant-loop-agent : goal.invariant-loop-agent
invariant-loop-agent l = AreFirst (alone l.part) l.self.sets l.self.costs l.agent l.agents.items
