-- From a valid plan down the tree to a solution that costs no more: so the answer is an optimum.
use Rattle.mapf_tree.proofs.Prelude.{◌⊎◌, ℕ, zero, suc, ◌<◌, ◌≤◌, ◌+◌, List, [], ◌∷◌, map, length, inl, inr, subst, sym, ◌∙◌, ⊎_elim, arith, length-append, get_or-replicate, get_or-le-sum_by, cases_lt, first_le, first_conflict, own_path_costs}
use Rattle.mapf_grid.proofs.Lists.{build, sum_by-le}
use Rattle.mapf_tree.specs.Prelude.{cost, Conflict, IsFirstConflict, HasNoConflict, IsValid, path_of, plan_cost, Obeys, Problem, Side, Left, Right, turn, TreeNode, HasPlan, InTree, root, side, side_of, root_of, IsSolution, PlannedNode, ObeyedIsInCost, ObeysNode, DepthIsBounded, AnswerIsOptimum, NoneIsNone}
use Rattle.mapf_tree.proofs.sides.Branch.{obeys_one_side}
use Rattle.mapf_tree.proofs.finite.Measure.{grown_all, most, depth_le, depth_most}
use Rattle.mapf_tree.proofs.Plans.{AllowedAt, OwnAt, own_at}

-- a valid plan within the bound that obeys a node puts it in cost, since each of its paths is allowed
pub obeyed_is_in_cost : ObeyedIsInCost
obeyed_is_in_cost problem node other valid within obeys =
    let w = build [] (length problem.inst.starts) (OwnAt problem node) own in
    let costs : plan_cost w.0 ≤ plan_cost other = sum_by-le cost [] w.0 other (w.1 ∙ sym valid.agents)
    (λ i h. let k = subst (λ n. i < n) w.1 h in own_path_costs _ _ _ _ _ _ _ (w.2 i k) (allowed i k)) in
    (w.0, record { agents = w.1; own = w.2; within = omega (arith, costs, within) }, costs)
  where
    allowed : (i : ℕ) → i < length problem.inst.starts → AllowedAt problem node i (path_of other i)
    allowed i h =
        let l = get_or-le-sum_by cost other i [] (subst (λ k. i < k) (sym valid.agents) h) in
        record { path = valid.paths i h; within = omega (arith, l, within); obeys = obeys i h }

    own : (i : ℕ) → i < length problem.inst.starts → (p : List ℕ) × OwnAt problem node i p
    own i h = ⊎_elim (λ w. w) (λ n. absurd (n (path_of other i) (allowed i h))) (own_at problem node i)

module _ (problem : Problem) (other : List (List ℕ)) (valid : IsValid problem.rule problem.inst other) (within : plan_cost other ≤ problem.bound) where
  -- a solution that costs no more than the valid plan
  abbrev Cheaper : Type 0
  Cheaper = (found : PlannedNode) × IsSolution problem found × (plan_cost found.1 ≤ plan_cost other)

  -- down from a node that the plan obeys, as long as names can grow
  descend : (fuel : ℕ) (node : TreeNode) (plan : List (List ℕ)) → InTree problem node → HasPlan problem node plan → plan_cost plan ≤ plan_cost other → ObeysNode problem node other → most problem < length node.name + fuel → Cheaper
  descend zero node plan inside has costs obeys deep = absurd (omega (arith, deep, depth_most problem node (grown_all problem node inside)))
  descend (suc fuel) node plan inside has costs obeys deep =
      found (λ node plan inside has costs obeys deep. descend fuel node plan inside has costs obeys deep) (first_conflict problem.rule plan)
    where
      Below : Type 0
      Below = (p : TreeNode) (q : List (List ℕ)) → InTree problem p → HasPlan problem p q → plan_cost q ≤ plan_cost other → ObeysNode problem p other → most problem < length p.name + fuel → Cheaper

      on_side : Below → (c : Conflict) → IsFirstConflict problem.rule plan c → (s : Side) → ObeysNode problem (side_of node c s) other → Cheaper
      on_side below c first s o =
          let w = obeyed_is_in_cost problem (side_of node c s) other valid within o in
          below (side_of node c s) w.0 (side s inside has first w.1) w.1 w.2 o (omega (arith, deep, length-append node.name (s ∷ [])))

      found : Below → ((c : Conflict) × IsFirstConflict problem.rule plan c) ⊎ HasNoConflict problem.rule plan → Cheaper
      found below (inr none) = ((node, plan), record { planned = record { inside = inside; plan = has }; no_conflict = none }, costs)
      found below (inl w) =
          ⊎_elim (on_side below w.0 w.1 Left) (on_side below w.0 w.1 Right)
          (obeys_one_side problem node plan other w.0 (grown_all problem node inside).agents has.agents w.1.member valid obeys)

  -- a valid plan within the bound has a solution that costs no more, since every plan obeys the root
  pub cheaper_solution : (found : PlannedNode) × IsSolution problem found × (plan_cost found.1 ≤ plan_cost other)
  cheaper_solution =
      let w = obeyed_is_in_cost problem (root_of problem) other valid within free in
      descend (most problem + 1) (root_of problem) w.0 (root w.1) w.1 w.2 free (omega arith)
    where
      free : ObeysNode problem (root_of problem) other
      free i h = subst (λ cs. Obeys cs (path_of other i)) (sym (get_or-replicate (length problem.inst.starts) i [] [] h)) tt

-- a solution's plan is valid
solution_valid : (problem : Problem) (found : PlannedNode) → IsSolution problem found → IsValid problem.rule problem.inst found.1
solution_valid problem found s = record { agents = s.planned.plan.agents; paths = λ i h. (s.planned.plan.own i h).member.path; no_conflict = s.no_conflict }

-- the first solution costs no more than that solution
pub answer_is_optimum : AnswerIsOptimum
answer_is_optimum problem plan answer =
    record {
      valid = solution_valid problem (answer.0, plan) answer.1.member;
      within = answer.1.member.planned.plan.within;
      least = λ other valid.
          ⊎_elim (λ h. omega (arith, h, answer.1.member.planned.plan.within)) (λ h. omega (arith, cheaper other valid h)) (cases_lt problem.bound (plan_cost other));
    }
  where
    cheaper : (other : List (List ℕ)) → IsValid problem.rule problem.inst other → plan_cost other ≤ problem.bound → plan_cost plan ≤ plan_cost other
    cheaper other valid h =
        let w = cheaper_solution problem other valid h in
        let l : plan_cost plan ≤ plan_cost w.0.1 = first_le (plan_cost plan) (plan_cost w.0.1) (length answer.0.name ∷ map turn answer.0.name) (length w.0.0.name ∷ map turn w.0.0.name) (answer.1.least w.0 w.1) in
        omega (arith, l, w.2)

-- a valid plan has a solution, and a solution's plan is valid
pub none_is_none : NoneIsNone
none_is_none problem = (
  (λ none plan valid within. let w = cheaper_solution problem plan valid within in none w.0 w.1),
  (λ none found s. none found.1 (solution_valid problem found s) s.planned.plan.within),
)

-- said of the nodes of the tree
pub depth_is_bounded : DepthIsBounded
depth_is_bounded problem cells edges holds node inside = depth_le problem cells edges holds node (grown_all problem node inside)
