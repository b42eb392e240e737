-- A node's agents, as they are searched together: their plans are the node's candidates.
use Rattle.std.proofs.Common.{◌≡◌, ◌≢◌, ℕ, ◌+◌, ◌-◌, ◌<◌, ◌≤◌, List, [], ◌∷◌, ◌++◌, length, get_or, Some, subst, sym, ap, ap₂, ◌∙◌, ⊎_elim, inl, inr, arith, length-append, below_more}
use Rattle.std.specs.Prelude.{slice_get, slice_index}
use Rattle.std.proofs.lemmas.Bool.{cases_lt}
use Rattle.std.proofs.lemmas.List.{get_or_append_left, get_or_push}
use Rattle.std.proofs.lemmas.Option.{none-some, same_Some, slice_get-get_or, slice_get_past}
use Rattle.mapf_plan.specs.declared.conflict.Conflict.TheVariants.{Vertex, Swapping, Following}
use Rattle.mapf_plan.specs.declared.rule.Rule.{Rule}
use Rattle.mapf_plan.specs.declared.rule.Rule.TheVariants.{Classical, NoFollowing}
use Rattle.mapf_plan.specs.Plan.{HasNoConflict, path_of, place, plan_cost}
use Rattle.mapf_low.specs.declared.constraint.Constraint.{Constraint}
use Rattle.mapf_tree.specs.Problem.{Problem}
use Rattle.mapf_optimum.specs.Together.{Agent, IsPathOf, IsPlanOf, NeverCollide, agent_of}
use Rattle.mapf_optimum.specs.FreeTree.{FreeNode, AreLeastCosts, IsCandidate, IsLowerBoundOf}
use Rattle.mapf_optimum.proofs.Collisions.{never_collide}
use Rattle.mapf_optimum.proofs.Costs.{number_at}
use Rattle.mapf_optimum.proofs.Taking.{set_at}
use Rattle.mapf_optimum.proofs.LeastPaths.{pays_cost}

-- no two agents of the plan ever collide
abbrev pub AreApart : Rule → List (List ℕ) → Type 0
AreApart rule plan = (i j : ℕ) → i < j → j < length plan → NeverCollide rule (path_of plan i) (path_of plan j)

follows : (plan : List (List ℕ)) (t i j : ℕ) → AreApart NoFollowing plan → i ≢ j → i < length plan → j < length plan → ¬ (place plan i t ≡ place plan j (t - 1))
follows plan t i j apart differ hi hj e =
    ⊎_elim (λ l. apart i j l hj t (inr (inl e)))
    (λ h. ⊎_elim (λ l. apart j i l hi t (inr (inr e))) (λ k. differ (omega (arith, h, k))) (cases_lt j i))
    (cases_lt i j)

-- so the plan has no conflict
pub no_conflict : (rule : Rule) (plan : List (List ℕ)) → AreApart rule plan → HasNoConflict rule plan
no_conflict Classical plan apart (Vertex t i j v) w = apart i j w.0 w.1 t (inl (w.2 ∙ sym w.3))
no_conflict NoFollowing plan apart (Vertex t i j v) w = apart i j w.0 w.1 t (inl (w.2 ∙ sym w.3))
no_conflict Classical plan apart (Swapping t i j u v) w = apart i j w.0 w.1 t (inr (w.5 ∙ sym w.6, w.7 ∙ sym w.4))
no_conflict NoFollowing plan apart (Swapping t i j u v) w = apart i j w.0 w.1 t (inr (inl (w.5 ∙ sym w.6)))
no_conflict rule plan apart (Following t i j v) w = follows plan t i j (subst (λ r. AreApart r plan) w.0 apart) w.1 w.2 w.3 (w.5 ∙ sym w.6)

-- one of the agents under its set, at its least cost
abbrev pub at_least_cost : Problem → List (List Constraint) → List ℕ → ℕ → Agent
at_least_cost problem sets costs i = agent_of problem.inst.grid (get_or sets i []) (slice_index problem.inst.starts i) (slice_index problem.inst.goals i) (get_or costs i 0)

-- an agent as it is read from a node
pub as_read : (problem : Problem) (node : FreeNode) (inside_sets : List (List Constraint)) (inside_costs : List ℕ) (agent : Agent) (i k : ℕ) (cs : List Constraint) → inside_sets ≡ node.sets → inside_costs ≡ node.costs → i < length node.sets → i < length node.costs →
    cs ≡ get_or inside_sets i cs → k ≡ get_or inside_costs i k → agent ≡ agent_of problem.inst.grid cs (slice_index problem.inst.starts i) (slice_index problem.inst.goals i) k → agent ≡ at_least_cost problem node.sets node.costs i
as_read problem node inside_sets inside_costs agent i k cs same_sets same_costs hs hc read_set read_cost is =
    is ∙ ap₂ (λ l n. agent_of problem.inst.grid l (slice_index problem.inst.starts i) (slice_index problem.inst.goals i) n)
    (set_at node.sets i cs (subst (λ l. cs ≡ get_or l i cs) same_sets read_set) hs) (number_at node.costs i k (subst (λ l. k ≡ get_or l i k) same_costs read_cost) hc)

module _ (problem : Problem) (sets : List (List Constraint)) (costs : List ℕ) where
  -- the first agents are these
  pub record AreFirst (n : ℕ) (agents : List Agent) : Type 0 where
    pub long : length agents ≡ n
    pub each : (i : ℕ) → i < n → (d : Agent) → get_or agents i d ≡ at_least_cost problem sets costs i

  -- and one more
  pub one_more_agent : (n : ℕ) (agents : List Agent) (agent : Agent) → AreFirst n agents → agent ≡ at_least_cost problem sets costs n → AreFirst (n + 1) (agents ++ agent ∷ [])
  one_more_agent n agents agent are is = record {
    long = omega (arith, are.long, length-append agents (agent ∷ []));
    each = below_more (λ i. (d : Agent) → get_or (agents ++ agent ∷ []) i d ≡ at_least_cost problem sets costs i) n
        (λ i h d. get_or_append_left agents (agent ∷ []) d i (omega (arith, h, are.long)) ∙ are.each i h d)
        (λ d. get_or_push agents agent d n are.long ∙ is);
  }

  module _ (agents : List Agent) (n : ℕ) (are : AreFirst n agents) (all : n ≡ length problem.inst.starts) where
    reads : (i : ℕ) → i < n → slice_get agents i ≡ Some (at_least_cost problem sets costs i)
    reads i h =
        let d = at_least_cost problem sets costs i in
        slice_get-get_or agents i d (omega (arith, h, are.long)) ∙ ap Some (are.each i h d)

    read_is : (i : ℕ) (agent : Agent) → slice_get agents i ≡ Some agent → (i < n) × (at_least_cost problem sets costs i ≡ agent)
    read_is i agent e =
        ⊎_elim (λ h. (h, same_Some (at_least_cost problem sets costs i) agent (sym (reads i h) ∙ e)))
        (λ h. absurd (none-some agent (sym (slice_get_past agents i (omega (arith, h, are.long))) ∙ e)))
        (cases_lt i n)

    -- a plan of theirs within the bound is a candidate
    pub as_candidate : (plan : List (List ℕ)) (total : ℕ) → IsPlanOf problem.rule agents total plan → plan_cost plan ≤ problem.bound → IsCandidate problem sets plan
    as_candidate plan total is within = record {
      valid = record {
        agents = is.0.agents ∙ are.long ∙ all;
        paths = λ i h. (path i h).path;
        no_conflict = no_conflict problem.rule plan (λ i j l m. is.0.apart i j l (omega (arith, m, is.0.agents)));
      };
      within = within;
      obeys = λ i h. (path i h).obeys;
    }
      where
        path : (i : ℕ) → i < length problem.inst.starts → IsPathOf (at_least_cost problem sets costs i) (path_of plan i)
        path i h = is.1 i (at_least_cost problem sets costs i) (reads i (omega (arith, h, all)))

    -- what each candidate costs at least, if it is within the bound, each plan of theirs does
    pub below_plans : (least : ℕ) → least ≤ problem.bound → IsLowerBoundOf problem sets least → (plan : List (List ℕ)) (total : ℕ) → IsPlanOf problem.rule agents total plan → least ≤ plan_cost plan
    below_plans least within below plan total is =
        ⊎_elim (λ h. omega (arith, h, within)) (λ h. below plan (as_candidate plan total is h)) (cases_lt problem.bound (plan_cost plan))

    -- a candidate is a plan of theirs
    pub as_plan : (plan : List (List ℕ)) → AreLeastCosts problem sets costs → IsCandidate problem sets plan → IsPlanOf problem.rule agents (plan_cost plan) plan
    as_plan plan least candidate = (
      record {
        agents = candidate.valid.agents ∙ sym all ∙ sym are.long;
        apart = λ i j l m. never_collide problem.rule plan i j candidate.valid.no_conflict l (omega (arith, m, candidate.valid.agents, all, are.long));
        within = omega arith;
      },
      (λ i agent e.
          let w = read_is i agent e in
          let h : i < length problem.inst.starts = omega (arith, w.0, all) in
          subst (λ a. IsPathOf a (path_of plan i)) w.1
          (record {
            path = candidate.valid.paths i h;
            least = pays_cost problem sets costs least plan candidate i h;
            obeys = candidate.obeys i h;
          })),
    )

    -- what each plan of theirs costs at least, each candidate does
    pub below_candidates : (least : ℕ) → AreLeastCosts problem sets costs → ((plan : List (List ℕ)) (total : ℕ) → IsPlanOf problem.rule agents total plan → least ≤ plan_cost plan) → IsLowerBoundOf problem sets least
    below_candidates least costs_least below plan candidate = below plan (plan_cost plan) (as_plan plan costs_least candidate)
