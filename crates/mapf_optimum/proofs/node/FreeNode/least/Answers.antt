use Rattle.std.proofs.Common.{ℕ, List, length, subst₂, sym, ap, ◌∙◌}
use Rattle.mapf_optimum.specs.declared.group_bound.GroupBound.{GroupBound}
use Rattle.mapf_optimum.specs.FreeTree.{FreeNode}
use Rattle.mapf_optimum.specs.Groups.{AreGroups}
use Rattle.mapf_optimum.proofs.node.FreeNode.least.Goals as goal

pub least_of_groups-requires : goal.least_of_groups-requires
least_of_groups-requires c =
    subst₂ (λ (l : List ℕ) (k : List GroupBound). AreGroups (length l) k) (sym (c.deref.ensures.value ∙ ap (λ (n : FreeNode). n.costs) c.self.view_is))
    (sym (c.deref-2.ensures.value ∙ ap (λ (n : FreeNode). n.groups) c.self.view_is)) c.requires
