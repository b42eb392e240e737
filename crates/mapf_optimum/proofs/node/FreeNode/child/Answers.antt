use Rattle.std.proofs.Common.{ap, subst, ◌∙◌, List, length, length-set, arith}
use Rattle.mapf_optimum.specs.declared.group_bound.GroupBound.{GroupBound}
use Rattle.mapf_optimum.specs.FreeTree.{FreeNode}
use Rattle.mapf_optimum.specs.Groups.{AreOf}
use Rattle.mapf_optimum.proofs.node.FreeNode.child.Goals as goal

pub sum_of-requires : goal.sum_of-requires
sum_of-requires c =
    omega (
      arith,
      ap length c.deref-3.ensures.value,
      ap length c.in_ok-costs.ensures,
      length-set c.deref.result.now c.args.agent c.cost.result,
      ap length c.deref.ensures.value,
      ap (λ (n : FreeNode). length n.costs) c.self.view_is,
      ap (λ (n : FreeNode). length n.plan) c.self.view_is,
      c.requires.agents,
      ap length c.paths.ensures.paths,
      c.paths.ensures.few,
    )

pub returns-clause-groups : goal.returns-clause-groups
returns-clause-groups c =
    subst (λ (old : List GroupBound). AreOf old c.in_ok-unsolved_with.field-0.items) (c.deref-4.ensures.value ∙ ap (λ (n : FreeNode). n.groups) c.self.view_is) c.in_ok-unsolved_with.ensures
