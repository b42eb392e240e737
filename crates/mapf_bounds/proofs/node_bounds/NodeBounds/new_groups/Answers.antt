use Rattle.std.proofs.Common.{Vec, List, Contains, MatchOption, length, refl, subst, sym, ap, ◌<◌, ◌∙◌}
use Rattle.std.specs.Bool.{⊤}
use Rattle.std.specs.declared.alloc.Global.{Global}
use Rattle.mapf_tree.specs.Family.{IsBranching}
use Rattle.mapf_optimum.specs.declared.group_bound.GroupBound.{GroupBound}
use Rattle.mapf_optimum.specs.FreeTree.{IsGroup, IsGroupBound}
use Rattle.mapf_bounds.specs.Bounds.{Bounding}
use Rattle.mapf_bounds.specs.Groups.{AreKnownAt}
use Rattle.mapf_grid.proofs.Members.{nowhere}
use Rattle.mapf_bounds.proofs.Groups.{with_last}
use Rattle.mapf_bounds.proofs.node_bounds.NodeBounds.new_groups.Goals.{in-Some+in_ok-group+then-surplus-gt0+in_ok-push, in-Some+in_ok-group+else-surplus-gt0, in_default-2}
use Rattle.mapf_bounds.proofs.node_bounds.NodeBounds.new_groups.Goals as goal

pub loop-conflict-init : goal.loop-conflict-init
loop-conflict-init c = ((λ g has. absurd (nowhere (subst (λ (xs : List GroupBound). Contains xs g) c.new-groups.ensures.items has))), refl)

pub group_bound-requires-clause-node : goal.group_bound-requires-clause-node
group_bound-requires-clause-node c = subst (λ (b : Bounding). IsBranching b.problem c.args.node.now) (sym c.loop-conflict.invariant.1) c.requires.node

pub group_bound-requires-clause-group : goal.group_bound-requires-clause-group
group_bound-requires-clause-group c =
    let two = subst (λ found. MatchOption found ⊤ (λ agents. IsGroup (length c.args.current.now) agents.items × (0 < length agents.items))) c.in-Some.is c.in_ok-agents.ensures in
    subst (λ plan. IsGroup (length plan) c.in-Some.agents.items) c.requires.current two.0

pub loop-conflict-preserved : goal.loop-conflict-preserved
loop-conflict-preserved c =
    let problem = c.args.self.now.problem in
    let node = c.args.node.now in
    let inv = c.loop-conflict.invariant in
    elim c.match-branch-2.branch [
      | in-Some+in_ok-group+then-surplus-gt0+in_ok-push w ↦
          let group = w.in_ok-group.group in
          let bound = subst (λ (b : Bounding). IsGroupBound b.problem node.constraints group.agents.items group.least) inv.1 w.in_ok-group.ensures.group in (
            subst (λ (l : List GroupBound). AreKnownAt problem node l) (sym (ap (λ (t : Vec GroupBound Global). t.items) w.groups-is ∙ w.in_ok-push.ensures.items))
                (with_last problem node.constraints c.loop-conflict.groups.items group bound inv.0),
            w.self-is ∙ w.in_ok-group.ensures.same ∙ inv.1,
          )
      | in-Some+in_ok-group+else-surplus-gt0 w ↦ (
        subst (λ (t : Vec GroupBound Global). AreKnownAt problem node t.items) (sym w.groups-is) inv.0,
        w.self-is ∙ w.in_ok-group.ensures.same ∙ inv.1,
      )
      | in_default-2 w ↦ (subst (λ (t : Vec GroupBound Global). AreKnownAt problem node t.items) (sym w.groups-is) inv.0, w.self-is ∙ inv.1)
    ]
