-- Groups of agents, each by itself.
use Rattle.std.proofs.Common.{◌≡◌, ◌≢◌, ℕ, ◌<◌, ◌≤◌, List, [], ◌∷◌, map, length, get_or, subst, subst₂, sym, refl, ap, ◌∙◌, ⊎_elim, arith}
use Rattle.std.specs.List.{AllByRecursion, sum_by}
use Rattle.std.proofs.lemmas.Bool.{cases_lt}
use Rattle.std.proofs.lemmas.List.{length-map, get_or-map}
use Rattle.std.proofs.lemmas.List.Sums.{sum_by-cons, sum_by-append}
use Rattle.mapf_plan.specs.Path.{cost, at, IsPath}
use Rattle.mapf_plan.specs.declared.conflict.Conflict.TheVariants.{Vertex, Swapping, Following}
use Rattle.mapf_plan.specs.declared.rule.Rule.{Rule}
use Rattle.mapf_plan.specs.Plan.{HasNoConflict, path_of, place, plan_cost}
use Rattle.mapf_low.specs.declared.constraint.Constraint.{Constraint}
use Rattle.mapf_low.specs.Constraints.{IsAllowed, Obeys}
use Rattle.mapf_tree.specs.Problem.{Problem}
use Rattle.mapf_optimum.specs.FreeTree.{IsCandidate, IsLowerBoundOf, IsLeastCostOf, AreLeastCosts, HaveAllowedPaths, IsGroup, IsGroupBound, paths_in}
use Rattle.mapf_optimum.specs.Groups.{part_of, sets_in, costs_in, Group, all_agents, GroupsRestrict, GroupsAdd}
use Rattle.mapf_optimum.proofs.GroupSums.{some_at_most}

-- of two agents one is before the other
in_order : (P : Type 0) (i j : ℕ) → i ≢ j → (i < j → P) → (j < i → P) → P
in_order P i j ne f g = ⊎_elim f (λ h. ⊎_elim g (λ k. absurd (ne (omega (arith, h, k)))) (cases_lt j i)) (cases_lt i j)

-- a group's paths in a plan without conflict have none
module _ (rule : Rule) (plan : List (List ℕ)) (agents : List ℕ) (is : IsGroup (length plan) agents) (none : HasNoConflict rule plan) where
  size : length (paths_in plan agents) ≡ length agents
  size = length-map agents (λ i. path_of plan i)

  who : ℕ → ℕ
  who a = get_or agents a 0

  there : (a t v : ℕ) → a < length (paths_in plan agents) → place (paths_in plan agents) a t ≡ v → place plan (get_or agents a 0) t ≡ v
  there a t v h e = ap (λ p. at p t) (sym (get_or-map (λ i. path_of plan i) agents a 0 [] (omega (arith, h, size)))) ∙ e

  inside : (a : ℕ) → a < length (paths_in plan agents) → get_or agents a 0 < length plan
  inside a h = is.inside a (omega (arith, h, size))

  differ : (a b : ℕ) → a < b → b < length (paths_in plan agents) → get_or agents a 0 ≢ get_or agents b 0
  differ a b l h = is.once a b l (omega (arith, h, size))

  pub none_of_group : HasNoConflict rule (paths_in plan agents)
  none_of_group (Vertex t a b v) h =
      let k : a < length (paths_in plan agents) = omega (arith, h.0, h.1) in
      in_order ⊥ (get_or agents a 0) (get_or agents b 0) (differ a b h.0 h.1)
      (λ l. none (Vertex t (get_or agents a 0) (get_or agents b 0) v) (l, inside b h.1, there a t v k h.2, there b t v h.1 h.3))
      (λ l. none (Vertex t (get_or agents b 0) (get_or agents a 0) v) (l, inside a k, there b t v h.1 h.3, there a t v k h.2))
  none_of_group (Swapping t a b u v) h =
      let k : a < length (paths_in plan agents) = omega (arith, h.0, h.1) in
      in_order ⊥ (get_or agents a 0) (get_or agents b 0) (differ a b h.0 h.1)
      (λ l. none (Swapping t (get_or agents a 0) (get_or agents b 0) u v) (l, inside b h.1, h.2, h.3, there a _ u k h.4, there a t v k h.5, there b _ v h.1 h.6, there b t u h.1 h.7))
      (λ l. none (Swapping t (get_or agents b 0) (get_or agents a 0) v u) (l, inside a k, h.2, (λ e. h.3 (sym e)), there b _ v h.1 h.6, there b t u h.1 h.7, there a _ u k h.4, there a t v k h.5))
  none_of_group (Following t a b v) h =
      let ne : get_or agents a 0 ≢ get_or agents b 0 = λ e. in_order ⊥ a b h.1 (λ l. differ a b l h.3 e) (λ l. differ b a l h.2 (sym e)) in
      none (Following t (get_or agents a 0) (get_or agents b 0) v) (h.0, ne, inside a h.2, inside b h.3, h.4, there a t v h.2 h.5, there b _ v h.3 h.6)

-- what a group costs in a plan
pub group_costs : (plan : List (List ℕ)) (agents : List ℕ) → plan_cost (paths_in plan agents) ≡ sum_by (λ i. cost (path_of plan i)) agents
group_costs plan [] = refl
group_costs plan (i ∷ is) = omega (arith, sum_by-cons cost (path_of plan i) (paths_in plan is), sum_by-cons (λ k. cost (path_of plan k)) i is, group_costs plan is)

module _ (problem : Problem) (sets : List (List Constraint)) (agents : List ℕ) (is : IsGroup (length problem.inst.starts) agents) where
  start_at : (k : ℕ) → k < length agents → get_or (map (λ i. get_or problem.inst.starts i 0) agents) k 0 ≡ get_or problem.inst.starts (get_or agents k 0) 0
  start_at k h = get_or-map (λ i. get_or problem.inst.starts i 0) agents k 0 0 h

  goal_at : (k : ℕ) → k < length agents → get_or (map (λ i. get_or problem.inst.goals i 0) agents) k 0 ≡ get_or problem.inst.goals (get_or agents k 0) 0
  goal_at k h = get_or-map (λ i. get_or problem.inst.goals i 0) agents k 0 0 h

  set_at : (k : ℕ) → k < length agents → get_or (sets_in sets agents) k [] ≡ get_or sets (get_or agents k 0) []
  set_at k h = get_or-map (λ i. get_or sets i []) agents k 0 [] h

  path_at : (plan : List (List ℕ)) (k : ℕ) → k < length agents → path_of (paths_in plan agents) k ≡ path_of plan (get_or agents k 0)
  path_at plan k h = get_or-map (λ i. path_of plan i) agents k 0 [] h

  cost_at : (costs : List ℕ) (k : ℕ) → k < length agents → get_or (costs_in costs agents) k 0 ≡ get_or costs (get_or agents k 0) 0
  cost_at costs k h = get_or-map (λ i. get_or costs i 0) agents k 0 0 h

  -- as many agents
  few : length (map (λ i. get_or problem.inst.starts i 0) agents) ≡ length agents
  few = length-map agents (λ i. get_or problem.inst.starts i 0)

  -- what a group costs in a plan is no more than all
  pub costs_less : (plan : List (List ℕ)) → length plan ≡ length problem.inst.starts → plan_cost (paths_in plan agents) ≤ plan_cost plan
  costs_less plan size = omega (arith, group_costs plan agents, some_at_most cost [] refl agents plan is.once (λ k h. omega (arith, is.inside k h, size)))

  pub restricts : (plan : List (List ℕ)) → IsCandidate problem sets plan → IsCandidate (part_of problem agents) (sets_in sets agents) (paths_in plan agents)
  restricts plan candidate = record {
    valid = record {
      agents = length-map agents (λ i. path_of plan i) ∙ sym few;
      paths = λ k h.
          let l : k < length agents = omega (arith, h, few) in
          subst (λ p. IsPath problem.inst.grid (get_or (map (λ i. get_or problem.inst.starts i 0) agents) k 0) (get_or (map (λ i. get_or problem.inst.goals i 0) agents) k 0) p) (sym (path_at plan k l))
          (subst₂ (λ s g. IsPath problem.inst.grid s g (path_of plan (get_or agents k 0))) (sym (start_at k l)) (sym (goal_at k l)) (candidate.valid.paths (get_or agents k 0) (is.inside k l)));
      no_conflict = none_of_group problem.rule plan agents (subst (λ n. IsGroup n agents) (sym candidate.valid.agents) is) candidate.valid.no_conflict;
    };
    within = omega (arith, costs_less plan candidate.valid.agents, candidate.within);
    obeys = λ k h.
        let l : k < length agents = omega (arith, h, few) in
        subst₂ Obeys (sym (set_at k l)) (sym (path_at plan k l)) (candidate.obeys (get_or agents k 0) (is.inside k l));
  }

  -- a path that the agent may take is one of the part's agent
  pub allowed_in_part : (k : ℕ) → k < length agents → (cs : List Constraint) (bound : ℕ) (path : List ℕ) →
      IsAllowed problem.inst.grid (get_or problem.inst.starts (get_or agents k 0) 0) (get_or problem.inst.goals (get_or agents k 0) 0) bound cs path →
      IsAllowed problem.inst.grid (get_or (map (λ i. get_or problem.inst.starts i 0) agents) k 0) (get_or (map (λ i. get_or problem.inst.goals i 0) agents) k 0) bound cs path
  allowed_in_part k l cs bound path may = subst₂ (λ s g. IsAllowed problem.inst.grid s g bound cs path) (sym (start_at k l)) (sym (goal_at k l)) may

  -- and the other way round
  pub allowed_in_all : (k : ℕ) → k < length agents → (cs : List Constraint) (bound : ℕ) (path : List ℕ) →
      IsAllowed problem.inst.grid (get_or (map (λ i. get_or problem.inst.starts i 0) agents) k 0) (get_or (map (λ i. get_or problem.inst.goals i 0) agents) k 0) bound cs path →
      IsAllowed problem.inst.grid (get_or problem.inst.starts (get_or agents k 0) 0) (get_or problem.inst.goals (get_or agents k 0) 0) bound cs path
  allowed_in_all k l cs bound path may = subst₂ (λ s g. IsAllowed problem.inst.grid s g bound cs path) (start_at k l) (goal_at k l) may

  has_costs : (costs : List ℕ) → AreLeastCosts problem sets costs → AreLeastCosts (part_of problem agents) (sets_in sets agents) (costs_in costs agents)
  has_costs costs are = record {
    agents = length-map agents (λ i. get_or costs i 0) ∙ sym few;
    each = λ k h.
        let l : k < length agents = omega (arith, h, few) in
        let w : IsLeastCostOf problem (get_or agents k 0) (get_or sets (get_or agents k 0) []) (get_or costs (get_or agents k 0) 0) = are.each (get_or agents k 0) (is.inside k l) in
        subst₂ (λ cs n. IsLeastCostOf (part_of problem agents) k cs n) (sym (set_at k l)) (sym (cost_at costs k l)) (
          w.0,
          record {
            allowed = allowed_in_part k l (get_or sets (get_or agents k 0) []) problem.bound w.0 w.1.allowed;
            least = λ other may. w.1.least other (allowed_in_all k l (get_or sets (get_or agents k 0) []) problem.bound other may);
          },
          w.2,
        );
  }

  has_paths : (plan : List (List ℕ)) → HaveAllowedPaths problem sets plan → HaveAllowedPaths (part_of problem agents) (sets_in sets agents) (paths_in plan agents)
  has_paths plan have = record {
    agents = length-map agents (λ i. path_of plan i) ∙ sym few;
    each = λ k h.
        let l : k < length agents = omega (arith, h, few) in
        subst₂ (λ cs p. IsAllowed problem.inst.grid (get_or (map (λ i. get_or problem.inst.starts i 0) agents) k 0) (get_or (map (λ i. get_or problem.inst.goals i 0) agents) k 0) problem.bound cs p)
        (sym (set_at k l)) (sym (path_at plan k l))
        (allowed_in_part k l (get_or sets (get_or agents k 0) []) problem.bound (path_of plan (get_or agents k 0)) (have.each (get_or agents k 0) (is.inside k l)));
  }

-- what no candidate of a group costs less than, no candidate's paths of the group do
pub group_bound_of : (problem : Problem) (sets : List (List Constraint)) (agents : List ℕ) (least : ℕ) → IsGroup (length problem.inst.starts) agents →
    IsLowerBoundOf (part_of problem agents) (sets_in sets agents) least → IsGroupBound problem sets agents least
group_bound_of problem sets agents least is below = record {
  group = is;
  below = λ plan candidate. below (paths_in plan agents) (restricts problem sets agents is plan candidate);
}

-- what least paths of all cost, least paths of the group do
pub part_has_costs : (problem : Problem) (sets : List (List Constraint)) (costs : List ℕ) (agents : List ℕ) → IsGroup (length problem.inst.starts) agents →
    AreLeastCosts problem sets costs → AreLeastCosts (part_of problem agents) (sets_in sets agents) (costs_in costs agents)
part_has_costs problem sets costs agents is are = has_costs problem sets agents is costs are

-- paths that all may take, the group may take
pub part_has_paths : (problem : Problem) (sets : List (List Constraint)) (plan : List (List ℕ)) (agents : List ℕ) → IsGroup (length problem.inst.starts) agents →
    HaveAllowedPaths problem sets plan → HaveAllowedPaths (part_of problem agents) (sets_in sets agents) (paths_in plan agents)
part_has_paths problem sets plan agents is have = has_paths problem sets agents is plan have

-- costs that are read are the costs at some places
read_costs : (costs : List ℕ) (agents : List ℕ) → sum_by (λ c. c) (costs_in costs agents) ≡ sum_by (λ i. get_or costs i 0) agents
read_costs costs [] = refl
read_costs costs (i ∷ is) = omega (arith, sum_by-cons (λ c. c) (get_or costs i 0) (costs_in costs is), sum_by-cons (λ k. get_or costs k 0) i is, read_costs costs is)

-- and come to no more than all
pub costs_in_few : (problem : Problem) (costs : List ℕ) (agents : List ℕ) → IsGroup (length problem.inst.starts) agents → length costs ≡ length problem.inst.starts →
    sum_by (λ c. c) (costs_in costs agents) ≤ sum_by (λ c. c) costs
costs_in_few problem costs agents is long = omega (arith, read_costs costs agents, some_at_most (λ c. c) 0 refl agents costs is.once (λ k h. omega (arith, is.inside k h, long)))

pub groups_restrict : GroupsRestrict
groups_restrict problem sets agents plan is candidate = restricts problem sets agents is plan candidate

-- what the groups cost at least, they cost in each candidate
add_up : (problem : Problem) (sets plan : _) (groups : List Group) → IsCandidate problem sets plan → AllByRecursion (λ g. IsGroupBound problem sets g.agents g.least) groups →
    sum_by (λ g. g.least) groups ≤ sum_by (λ i. cost (path_of plan i)) (all_agents groups)
add_up problem sets plan [] candidate all = omega arith
add_up problem sets plan (g ∷ gs) candidate all =
    omega (
      arith,
      sum_by-cons (λ (h : Group). h.least) g gs,
      sum_by-append (λ i. cost (path_of plan i)) g.agents (all_agents gs),
      group_costs plan g.agents,
      all.0.below plan candidate,
      add_up problem sets plan gs candidate all.1,
    )

pub groups_add : GroupsAdd
groups_add problem sets groups is all plan candidate =
    omega (
      arith,
      add_up problem sets plan groups candidate all,
      some_at_most cost [] refl (all_agents groups) plan is.once (λ k h. omega (arith, is.inside k h, candidate.valid.agents)),
    )
