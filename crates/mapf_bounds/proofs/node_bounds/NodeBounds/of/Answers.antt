use Rattle.std.proofs.Common.{List, Vec, ℕ, length, map, Contains, subst, subst₂, sym, ap, ◌∙◌, arith}
use Rattle.std.specs.declared.alloc.Global.{Global}
use Rattle.mapf_plan.specs.Path.{cost}
use Rattle.mapf_tree.specs.Problem.{Problem}
use Rattle.mapf_optimum.specs.declared.group_bound.GroupBound.{GroupBound}
use Rattle.mapf_optimum.specs.FreeTree.{IsGroup}
use Rattle.mapf_optimum.specs.Groups.{IsBoundBy}
use Rattle.mapf_bounds.specs.declared.lower_bound.LowerBound.{LowerBound}
use Rattle.mapf_bounds.specs.Pairs.{HaveCollisions}
use Rattle.mapf_bounds.proofs.Groups.{groups_bound, stands_costs}
use Rattle.mapf_bounds.proofs.DisjointPairs.{collisions_take_turns}
use Rattle.mapf_bounds.proofs.node_bounds.NodeBounds.of.Goals as goal

pub least_of_groups-requires : goal.least_of_groups-requires
least_of_groups-requires c g has =
    let costs = c.in_ok-costs.ensures ∙ ap (map cost) c.in_ok-current.ensures in
    let are = stands_costs c.args.self.now.problem c.args.node.now c.requires.node.of c.requires.node.stands c.in_ok-costs.costs.items costs in
    let known = c.in_ok-groups.ensures c.args.self.now.problem c.args.node.now.constraints c.requires.groups c.in_ok-new.ensures.groups in
    let one = known g (subst (λ (l : List GroupBound). Contains l g) (c.deref-7.ensures.value ∙ ap (λ (v : Vec GroupBound Global). v.items) c.deref-6.ensures) has) in
    subst (λ n. IsGroup n g.agents.items) (sym (ap length c.deref-5.ensures.value ∙ are.agents)) one.group

pub returns-clause-bound : goal.returns-clause-bound
returns-clause-bound c m stands =
    let problem = c.args.self.now.problem in
    let known = c.in_ok-groups.ensures c.args.self.now.problem c.args.node.now.constraints c.requires.groups c.in_ok-new.ensures.groups in
    let plan = c.in_ok-current.ensures in
    let costs = c.in_ok-costs.ensures ∙ ap (map cost) plan in
    let bound = subst₂ (λ (k : List ℕ) (l : List GroupBound). IsBoundBy k l c.in_ok-least.least) c.deref-5.ensures.value (c.deref-7.ensures.value ∙ ap (λ (v : Vec GroupBound Global). v.items) c.deref-6.ensures) c.in_ok-least.ensures in
    let rule = c.rule.ensures ∙ ap (λ (p : Problem). p.rule) c.problem.ensures in
    let turns = subst₂ (λ r q. HaveCollisions r q c.in_ok-turns.turns) rule (plan ∙ stands.plan) c.in_ok-turns.ensures in
    let depth = ap (λ (b : LowerBound). b.depth) c.own.ensures in record {
      cost = λ s solution below.
          omega (
            arith,
            c.max.ensures,
            (c.requires.known m stands).cost s solution below,
            groups_bound problem c.args.node.now m stands c.in_ok-costs.costs.items c.in_ok-groups.groups.value.items c.in_ok-least.least costs known bound s solution below,
          );
      depth = λ s solution below same.
          omega (arith, c.saturating_add.ensures, depth, ap length stands.name, collisions_take_turns problem m s c.in_ok-turns.turns stands.member turns solution below);
    }

pub returns-clause-groups : goal.returns-clause-groups
returns-clause-groups c =
    c.in_ok-groups.ensures c.args.self.now.problem c.args.node.now.constraints c.requires.groups c.in_ok-new.ensures.groups
