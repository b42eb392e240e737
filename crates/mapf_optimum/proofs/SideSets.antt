-- The sets of a side are those of that side in the constraint tree, in whatever order.
use Rattle.std.proofs.Common.{◌≡◌, ◌≢◌, ℕ, ◌<◌, List, [], ◌∷◌, length, get_or, set, inr, subst, sym, refl, ap, ◌∙◌, arith, Contains, length-set, get_or-set_same, get_or-set_other}
use Rattle.mapf_grid.proofs.Lists.{set_cases}
use Rattle.mapf_plan.specs.declared.conflict.Conflict.{Conflict}
use Rattle.mapf_plan.specs.Plan.{path_of}
use Rattle.mapf_low.specs.declared.constraint.Constraint.{Constraint}
use Rattle.mapf_low.specs.Constraints.{Breaks}
use Rattle.mapf_low.proofs.Sets.{AllByRecursion-fewer, obeys_set}
use Rattle.mapf_tree.specs.declared.tree.side.Side.{Side}
use Rattle.mapf_tree.specs.Problem.{Problem}
use Rattle.mapf_tree.specs.Tree.{TreeNode, agent_on, constraint_on, constraints_of, side_of}
use Rattle.mapf_tree.specs.Nodes.{IsSameSet}
use Rattle.mapf_tree.specs.Laws.{ObeysNode}
use Rattle.mapf_tree.proofs.ConstraintSets.{with_front, IsWith-cons}
use Rattle.mapf_optimum.specs.FreeTree.{unnamed}
use Rattle.mapf_optimum.specs.FreeSearch.{AreSideSets}

-- a set is the same as itself
same_itself : (cs : List Constraint) → IsSameSet cs cs
same_itself cs x = ((λ h. h), (λ h. h))

-- each side has sets
pub side_sets : (sets : List (List Constraint)) (c : Conflict) (s : Side) → (new : List (List Constraint)) × AreSideSets sets c s new
side_sets sets c s =
    let more : List Constraint = constraint_on c s ∷ get_or sets (agent_on c s) [] in
    (set sets (agent_on c s) more, (more, refl, with_front (constraint_on c s) (get_or sets (agent_on c s) [])))

module _ (problem : Problem) (sets new : List (List Constraint)) (c : Conflict) (s : Side) (are : AreSideSets sets c s new) (inside : agent_on c s < length sets) where
  -- that side in the constraint tree
  abbrev there : TreeNode
  there = side_of (unnamed sets) c s

  -- there are as many sets
  pub side_agents : length new ≡ length sets
  side_agents = ap length are.1 ∙ length-set sets (agent_on c s) are.0

  -- the agent's set is the one with a constraint more
  pub side_own : get_or new (agent_on c s) [] ≡ are.0
  side_own = ap (λ l. get_or l (agent_on c s) []) are.1 ∙ get_or-set_same sets (agent_on c s) are.0 [] inside

  -- and the others' sets are as they were
  pub side_other : (i : ℕ) → agent_on c s ≢ i → get_or new i [] ≡ get_or sets i []
  side_other i ne = ap (λ l. get_or l i []) are.1 ∙ get_or-set_other sets (agent_on c s) i are.0 [] (λ e. ne (sym e))

  -- no set has fewer constraints
  pub side_more : (i : ℕ) → i < length sets → (x : Constraint) → Contains (get_or sets i []) x → Contains (get_or new i []) x
  side_more i lt =
      subst (λ l. (x : Constraint) → Contains (get_or sets i []) x → Contains (get_or l i []) x) (sym are.1)
      (set_cases (λ l. (x : Constraint) → Contains (get_or sets i []) x → Contains l x) sets (agent_on c s) i are.0 [] lt
      (λ e x h. (are.2 x).1 (inr (subst (λ j. Contains (get_or sets j []) x) (sym e) h))) (λ ne x h. h))

  -- the agent's set is that of the constraint tree
  own_there : IsSameSet are.0 (constraints_of there (agent_on c s))
  own_there =
      subst (IsSameSet are.0) (sym (get_or-set_same sets (agent_on c s) (constraint_on c s ∷ get_or sets (agent_on c s) []) [] inside))
      (IsWith-cons (constraint_on c s) (get_or sets (agent_on c s) []) (get_or sets (agent_on c s) []) are.0 (same_itself (get_or sets (agent_on c s) [])) are.2)

  -- and so are all
  same_there : (i : ℕ) → i < length sets → IsSameSet (constraints_of there i) (get_or new i [])
  same_there i lt =
      subst (λ l. IsSameSet (constraints_of there i) (get_or l i [])) (sym are.1)
      (set_cases (λ l. IsSameSet (constraints_of there i) l) sets (agent_on c s) i are.0 [] lt
      (λ e. subst (λ j. IsSameSet (constraints_of there j) are.0) e (λ x. ((own_there x).1, (own_there x).0)))
      (λ ne. subst (λ l. IsSameSet l (get_or sets i [])) (sym (get_or-set_other sets (agent_on c s) i (constraint_on c s ∷ get_or sets (agent_on c s) []) [] (λ e. ne (sym e)))) (same_itself (get_or sets i []))))

  -- what obeys that side of the constraint tree obeys these sets
  pub obeys_new : (plan : List (List ℕ)) → length sets ≡ length problem.inst.starts → ObeysNode problem there plan → ObeysNode problem (unnamed new) plan
  obeys_new plan n obeys i lt = obeys_set (constraints_of there i) (get_or new i []) (path_of plan i) (same_there i (omega (arith, n, lt))) (obeys i lt)

  -- what obeys these sets obeys the node
  pub obeys_old : (plan : List (List ℕ)) → length sets ≡ length problem.inst.starts → ObeysNode problem (unnamed new) plan → ObeysNode problem (unnamed sets) plan
  obeys_old plan n obeys i lt =
      AllByRecursion-fewer (λ k. ¬ Breaks (path_of plan i) k) (get_or new i []) (get_or sets i []) (side_more i (omega (arith, n, lt))) (obeys i lt)
