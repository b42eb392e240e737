use Rattle.std.proofs.Common.{ap, arith, length}
use Rattle.std.proofs.lemmas.List.{length-map}
use Rattle.mapf_plan.specs.Plan.{path_of}
use Rattle.mapf_optimum.specs.FreeTree.{FreeNode}
use Rattle.mapf_optimum.proofs.node.FreeNode.part.Goals as goal

pub of-requires-clause-few : goal.of-requires-clause-few
of-requires-clause-few c =
    omega (arith, ap length c.in_ok-paths.ensures, length-map c.args.agents.now (λ i. path_of c.paths.result.now i), c.requires.few, c.paths.ensures.few, ap length c.paths.ensures.paths, ap (λ (n : FreeNode). length n.plan) c.self.view_is, c.requires.node.paths.agents)
