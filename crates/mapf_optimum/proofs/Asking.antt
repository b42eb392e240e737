-- Some agents of a node by themselves, of which it is asked what they cost.
use Rattle.std.proofs.Common.{◌≡◌, ℕ, List, [], length, get_or, subst, subst₂, sym, ◌∙◌, arith}
use Rattle.std.proofs.lemmas.List.{length-map}
use Rattle.mapf_low.specs.declared.constraint.Constraint.{Constraint}
use Rattle.mapf_tree.specs.Problem.{Problem}
use Rattle.mapf_optimum.specs.FreeTree.{FreeNode, IsFreeNode, IsGroup, IsGroupBound, IsLowerBoundOf, paths_in}
use Rattle.mapf_optimum.specs.FreeSearch.{IsFreshNode}
use Rattle.mapf_optimum.specs.Groups.{costs_in, part_of, sets_in}
use Rattle.mapf_optimum.proofs.Fresh.{fresh_is}
use Rattle.mapf_optimum.proofs.GroupLaws.{costs_in_few, group_bound_of, part_has_costs, part_has_paths}

module _ (problem : Problem) (node : FreeNode) (agents : List ℕ) (group : FreeNode) (inner : Problem) (some : IsGroup (length problem.inst.starts) agents)
    (fresh : IsFreshNode (sets_in node.sets agents) (costs_in node.costs agents) (paths_in node.plan agents) group) (same : inner ≡ part_of problem agents) where
  -- they are a node of their own problem
  pub asked_is : IsFreeNode problem node → IsFreeNode inner group
  asked_is is =
      subst (λ (p : Problem). IsFreeNode p group) (sym same)
      (fresh_is (part_of problem agents) group (sets_in node.sets agents) (costs_in node.costs agents) (paths_in node.plan agents) fresh
      (length-map agents (λ i. get_or node.sets i []) ∙ sym (length-map agents (λ i. get_or problem.inst.starts i 0))) (part_has_costs problem node.sets node.costs agents some is.costs) (part_has_paths problem node.sets node.plan agents some is.paths)
      (omega (arith, costs_in_few problem node.costs agents some is.costs.agents, is.alone, is.within)))

  -- and what no candidate of theirs costs less than is a bound of the group
  pub answer_bounds : (least : ℕ) → IsLowerBoundOf inner group.sets least → IsGroupBound problem node.sets agents least
  answer_bounds least below = group_bound_of problem node.sets agents least some (subst₂ (λ (p : Problem) (l : List (List Constraint)). IsLowerBoundOf p l least) same fresh.same_sets below)
