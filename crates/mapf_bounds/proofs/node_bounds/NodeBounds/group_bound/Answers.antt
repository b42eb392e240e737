use Rattle.std.proofs.Common.{List, ◌≡◌, ℕ, length, subst, subst₂, sym, ap, ◌∙◌}
use Rattle.mapf_tree.specs.Problem.{Problem}
use Rattle.mapf_optimum.specs.FreeTree.{HaveLeastPaths, IsGroup, IsLowerBoundOf, paths_in}
use Rattle.mapf_optimum.specs.Groups.{part_of}
use Rattle.mapf_bounds.specs.Bounds.{Bounding}
use Rattle.mapf_bounds.specs.Groups.{AreSetsOf}
use Rattle.mapf_bounds.proofs.Groups.{group_is_known, group_least, stands_least}
use Rattle.mapf_bounds.proofs.node_bounds.NodeBounds.group_bound.Goals as goal

pub least_of-requires-clause-paths : goal.least_of-requires-clause-paths
least_of-requires-clause-paths c =
    let problem : c.self.inside.groups ≡ c.args.self.now.problem = ap (λ (b : Bounding). b.problem) c.self.view_is in
    let stands = c.requires.node.stands in
    let group = subst (λ n. IsGroup n c.args.agents.items) (ap length stands.plan ∙ stands.member.plan.agents) c.requires.group in
    let copies = subst (λ (l : List ℕ). AreSetsOf c.args.node.now l c.in_ok-sets.sets.items) c.deref.ensures.value c.in_ok-sets.ensures in
    subst₂ (λ (p : Problem) (a : List ℕ). HaveLeastPaths (part_of p a) c.in_ok-sets.sets.items (paths_in c.args.current.now a)) (sym problem) (sym c.deref-2.ensures.value)
    (subst (λ q. HaveLeastPaths (part_of c.args.self.now.problem c.args.agents.items) c.in_ok-sets.sets.items (paths_in q c.args.agents.items)) (sym c.requires.current)
    (group_least c.args.self.now.problem c.args.node.now c.args.agents.items c.in_ok-sets.sets.items group copies (stands_least c.args.self.now.problem c.args.node.now c.requires.node.of stands)))

pub returns-clause-group : goal.returns-clause-group
returns-clause-group c =
    let problem : c.self.inside.groups ≡ c.args.self.now.problem = ap (λ (b : Bounding). b.problem) c.self.view_is in
    let stands = c.requires.node.stands in
    let group = subst (λ n. IsGroup n c.args.agents.items) (ap length stands.plan ∙ stands.member.plan.agents) c.requires.group in
    let copies = subst (λ (l : List ℕ). AreSetsOf c.args.node.now l c.in_ok-sets.sets.items) c.deref.ensures.value c.in_ok-sets.ensures in
    group_is_known c.args.self.now.problem c.args.node.now c.args.agents.items c.in_ok-sets.sets.items group copies c.in_ok-least.least
    (subst₂ (λ (p : Problem) (a : List ℕ). IsLowerBoundOf (part_of p a) c.in_ok-sets.sets.items c.in_ok-least.least) problem c.deref-2.ensures.value c.in_ok-least.ensures.least)
