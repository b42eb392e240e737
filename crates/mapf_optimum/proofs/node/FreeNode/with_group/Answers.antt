use Rattle.std.proofs.Common.{ℕ, List, Vec, Global, ◌∙◌, ap, subst, subst₂, sym}
use Rattle.mapf_optimum.specs.FreeTree.{FreeNode, HaveAllowedPaths, IsGroupBound}
use Rattle.mapf_optimum.specs.FreeSearch.{IsSame}
use Rattle.mapf_optimum.specs.Groups.{AreOf, alone}
use Rattle.mapf_optimum.proofs.Grouped.{bounds_with, grouped_is}
use Rattle.mapf_optimum.proofs.node.FreeNode.with_group.Goals as goal
use Rattle.mapf_optimum.proofs.node.FreeNode.with_group.Goals.{then-is_solved+in_ok-from_slice+in_ok-settle_partners, else-is_solved}

pub showing-node-requires-clause-paths : goal.showing-node-requires-clause-paths
showing-node-requires-clause-paths c =
    let problem = alone c.args.part.now in
    let there = λ (v : Vec (List ℕ) Global). HaveAllowedPaths problem c.args.self.sets v.items in
    elim c.if-is_solved.branch [
      | then-is_solved+in_ok-from_slice+in_ok-settle_partners w ↦
          subst there (sym w.paths-is)
          (subst (λ l. HaveAllowedPaths problem l w.settle_partners.new.paths.items) (w.deref-then-is_solved.ensures.value ∙ ap (λ (n : FreeNode). n.sets) c.self.view_is) w.in_ok-settle_partners.ensures)
      | else-is_solved w ↦
          subst there (sym w.paths-is)
          (subst (λ l. HaveAllowedPaths problem l c.adopt-is_solved.new.paths.items) (c.deref.ensures.value ∙ ap (λ (n : FreeNode). n.sets) c.self.view_is) c.adopt-is_solved.ensures)
    ]

pub returns : goal.returns
returns c =
    let problem = alone c.args.part.now in
    grouped_is problem c.args.self _ c.push.new.self.items (subst (IsSame problem c.args.self) (sym c.node.view_is) c.showing-node.ensures.same)
    (bounds_with problem c.args.self.sets c.args.self.groups c.in_ok-groups.groups.items c.push.new.self.items _ c.requires.node.groups
    (subst (λ l. AreOf l c.in_ok-groups.groups.items) (c.deref-2.ensures.value ∙ ap (λ (n : FreeNode). n.groups) c.self.view_is) c.in_ok-groups.ensures) c.in_ok-push.ensures.items
    (subst₂ (IsGroupBound problem c.args.self.sets) (sym c.in_ok-of.ensures.agents) (sym c.in_ok-of.ensures.least) c.requires.group))
