-- What is known of groups of agents at a node of the tree.
use Rattle.std.proofs.Common.{◌≡◌, ℕ, ◌+◌, ◌<◌, ◌≤◌, List, [], ◌∷◌, ◌++◌, length, map, take, drop, get_or, Contains, subst, subst₂, sym, ap, ◌∙◌, ⊎_elim, arith}
use Rattle.std.proofs.lemmas.Bool.{cases_lt}
use Rattle.std.proofs.lemmas.List.{length-map, get_or-map, get_or_append_left, get_or_at, take-append-drop}
use Rattle.std.proofs.lemmas.List.Elements.{Contains-append_left, Contains-append_right, Contains-append_cases}
use Rattle.std.specs.List.{insert}
use Rattle.mapf_grid.proofs.Members.{nowhere, here, there, here_or_there}
use Rattle.mapf_plan.specs.Path.{cost}
use Rattle.mapf_plan.specs.Plan.{IsValid, path_of, plan_cost}
use Rattle.mapf_low.specs.declared.constraint.Constraint.{Constraint}
use Rattle.mapf_low.specs.Constraints.{IsAllowed, Obeys}
use Rattle.mapf_low.proofs.Sets.{obeys_set}
use Rattle.mapf_tree.specs.Problem.{Problem}
use Rattle.mapf_tree.specs.Tree.{PlannedNode, agent_on, constraint_on, constraints_of}
use Rattle.mapf_tree.specs.Laws.{ObeysNode}
use Rattle.mapf_tree.specs.Nodes.{Node, StandsFor, IsSameSet}
use Rattle.mapf_tree.specs.Search.{IsChild}
use Rattle.mapf_tree.proofs.high_level.SearchLaws.{obeys_fewer}
use Rattle.mapf_optimum.specs.declared.group_bound.GroupBound.{GroupBound}
use Rattle.mapf_optimum.specs.FreeTree.{AreGroupBounds, AreLeastCosts, HaveLeastPaths, IsCandidate, IsGroup, IsGroupBound, IsLeastPathOf, IsLowerBoundOf, paths_in}
use Rattle.mapf_optimum.specs.Groups.{IsBoundBy, part_of, sets_in}
use Rattle.mapf_optimum.proofs.GroupLaws.{groups_restrict}
use Rattle.mapf_optimum.proofs.LeastPaths.{own_is_least}
use Rattle.mapf_bounds.specs.Below.{IsCostBound}
use Rattle.mapf_bounds.specs.Groups.{AreKnownAt, AreSetsOf, Follow}
use Rattle.mapf_bounds.proofs.Subtrees.{plans_bound_cost}

-- a set that holds the same holds the same the other way round
turned : (xs ys : List Constraint) → IsSameSet xs ys → IsSameSet ys xs
turned xs ys same c = ((same c).1, (same c).0)

module _ (problem : Problem) (n : Node) (m : PlannedNode) (stands : StandsFor problem n m) where
  -- what obeys the node's sets obeys the node of the tree, and the other way round
  sets_obey : (plan : List (List ℕ)) (i : ℕ) → i < length problem.inst.starts → Obeys (constraints_of m.0 i) (path_of plan i) → Obeys (get_or n.constraints i []) (path_of plan i)
  sets_obey plan i h obeys = obeys_set (constraints_of m.0 i) (get_or n.constraints i []) (path_of plan i) (turned (get_or n.constraints i []) (constraints_of m.0 i) (stands.sets i h)) obeys

  tree_obeys : (plan : List (List ℕ)) (i : ℕ) → i < length problem.inst.starts → Obeys (get_or n.constraints i []) (path_of plan i) → Obeys (constraints_of m.0 i) (path_of plan i)
  tree_obeys plan i h obeys = obeys_set (get_or n.constraints i []) (constraints_of m.0 i) (path_of plan i) (stands.sets i h) obeys

  -- a valid plan within the bound that obeys the node is a candidate
  pub is_candidate : (plan : List (List ℕ)) → IsValid problem.rule problem.inst plan → plan_cost plan ≤ problem.bound → ObeysNode problem m.0 plan → IsCandidate problem n.constraints plan
  is_candidate plan valid within obeys = record { valid = valid; within = within; obeys = λ i h. sets_obey plan i h (obeys i h) }

  -- each agent has a least path
  pub stands_least : HaveLeastPaths problem n.constraints n.plan
  stands_least = record { agents = ap length stands.plan ∙ stands.member.plan.agents; each = each }
    where
      each : (i : ℕ) → i < length problem.inst.starts → IsLeastPathOf problem i (get_or n.constraints i []) (path_of n.plan i)
      each i k =
          let is = own_is_least problem i (constraints_of m.0 i) (path_of m.1 i) (stands.member.plan.own i k) in
          subst (λ plan. IsLeastPathOf problem i (get_or n.constraints i []) (path_of plan i)) (sym stands.plan)
          (record {
            allowed = record { path = is.allowed.path; within = is.allowed.within; obeys = obeys_set (constraints_of m.0 i) (get_or n.constraints i []) (path_of m.1 i) (turned (get_or n.constraints i []) (constraints_of m.0 i) (stands.sets i k)) is.allowed.obeys };
            least = λ other allowed. is.least other (record { path = allowed.path; within = allowed.within; obeys = obeys_set (get_or n.constraints i []) (constraints_of m.0 i) other (stands.sets i k) allowed.obeys });
          })

  -- what its paths cost, its agents' least paths do
  pub stands_costs : (costs : List ℕ) → costs ≡ map cost n.plan → AreLeastCosts problem n.constraints costs
  stands_costs costs is = record {
    agents = ap length is ∙ length-map n.plan cost ∙ stands_least.agents;
    each = λ i k. (path_of n.plan i, stands_least.each i k, sym (ap (λ l. get_or l i 0) is ∙ get_or-map cost n.plan i [] 0 (subst (λ l. i < l) (sym stands_least.agents) k)));
  }

  -- so what groups of agents cost at least bounds what solutions cost
  pub groups_bound : (costs : List ℕ) (groups : List GroupBound) (least : ℕ) → costs ≡ map cost n.plan → AreKnownAt problem n groups → IsBoundBy costs groups least → IsCostBound problem m least
  groups_bound costs groups least is known bound =
      plans_bound_cost problem m least stands.member
      (λ plan valid within obeys. bound problem n.constraints (stands_costs costs is) known plan (is_candidate plan valid within obeys))

-- what is known of groups at a node is so at its children
module _ (problem : Problem) (n k : Node) (x y : PlannedNode) (above : StandsFor problem n x) (below : StandsFor problem k y) (is : IsChild problem x y) where
  still_candidate : (plan : List (List ℕ)) → IsCandidate problem k.constraints plan → IsCandidate problem n.constraints plan
  still_candidate plan candidate =
      is_candidate problem n x above plan candidate.valid candidate.within
      (λ i h. obeys_fewer x.0.constraints (agent_on is.conflict is.turn) i (constraint_on is.conflict is.turn) (path_of plan i)
      (subst (λ p. Obeys (constraints_of p i) (path_of plan i)) is.is (tree_obeys problem k y below plan i h (candidate.obeys i h))))

  pub known_below : (groups : List GroupBound) → AreKnownAt problem n groups → AreKnownAt problem k groups
  known_below groups known g has =
      let is_bound = known g has in record { group = is_bound.group; below = λ plan candidate. is_bound.below plan (still_candidate plan candidate) }

-- a group of a node's agents, and copies of their sets
module _ (problem : Problem) (n : Node) (agents : List ℕ) (sets : List (List Constraint)) (is : IsGroup (length problem.inst.starts) agents) (copies : AreSetsOf n agents sets) where
  few : length (map (λ i. get_or problem.inst.starts i 0) agents) ≡ length agents
  few = length-map agents (λ i. get_or problem.inst.starts i 0)

  start_at : (k : ℕ) → k < length agents → get_or (map (λ i. get_or problem.inst.starts i 0) agents) k 0 ≡ get_or problem.inst.starts (get_or agents k 0) 0
  start_at k h = get_or-map (λ i. get_or problem.inst.starts i 0) agents k 0 0 h

  goal_at : (k : ℕ) → k < length agents → get_or (map (λ i. get_or problem.inst.goals i 0) agents) k 0 ≡ get_or problem.inst.goals (get_or agents k 0) 0
  goal_at k h = get_or-map (λ i. get_or problem.inst.goals i 0) agents k 0 0 h

  path_at : (plan : List (List ℕ)) (k : ℕ) → k < length agents → path_of (paths_in plan agents) k ≡ path_of plan (get_or agents k 0)
  path_at plan k h = get_or-map (λ i. path_of plan i) agents k 0 [] h

  set_at : (k : ℕ) → k < length agents → get_or (sets_in n.constraints agents) k [] ≡ get_or n.constraints (get_or agents k 0) []
  set_at k h = get_or-map (λ i. get_or n.constraints i []) agents k 0 [] h

  -- what obeys an agent's set obeys the copy
  obeys_copy : (k : ℕ) → k < length agents → (path : List ℕ) → Obeys (get_or n.constraints (get_or agents k 0) []) path → Obeys (get_or sets k []) path
  obeys_copy k h path obeys = obeys_set (get_or n.constraints (get_or agents k 0) []) (get_or sets k []) path (turned (get_or sets k []) (get_or n.constraints (get_or agents k 0) []) (copies.each k h)) obeys

  obeys_own : (k : ℕ) → k < length agents → (path : List ℕ) → Obeys (get_or sets k []) path → Obeys (get_or n.constraints (get_or agents k 0) []) path
  obeys_own k h path obeys = obeys_set (get_or sets k []) (get_or n.constraints (get_or agents k 0) []) path (copies.each k h) obeys

  -- so a lower bound under the copies is what the group costs at least
  pub group_is_known : (least : ℕ) → IsLowerBoundOf (part_of problem agents) sets least → IsGroupBound problem n.constraints agents least
  group_is_known least bound = record { group = is; below = below }
    where
      below : (plan : List (List ℕ)) → IsCandidate problem n.constraints plan → least ≤ plan_cost (paths_in plan agents)
      below plan candidate =
          let own = groups_restrict problem n.constraints agents plan is candidate in
          bound (paths_in plan agents) (record {
            valid = own.valid;
            within = own.within;
            obeys = λ k h.
                let l : k < length agents = omega (arith, h, few) in
                obeys_copy k l (path_of (paths_in plan agents) k) (subst (λ s. Obeys s (path_of (paths_in plan agents) k)) (set_at k l) (own.obeys k h));
          })

  -- and least paths at the node are least ones of the group
  pub group_least : HaveLeastPaths problem n.constraints n.plan → HaveLeastPaths (part_of problem agents) sets (paths_in n.plan agents)
  group_least have = record { agents = length-map agents (λ i. path_of n.plan i) ∙ sym few; each = each }
    where
      each : (k : ℕ) → k < length (map (λ i. get_or problem.inst.starts i 0) agents) → IsLeastPathOf (part_of problem agents) k (get_or sets k []) (path_of (paths_in n.plan agents) k)
      each k h =
          let l : k < length agents = omega (arith, h, few) in
          let i = get_or agents k 0 in
          let w : IsLeastPathOf problem i (get_or n.constraints i []) (path_of n.plan i) = have.each i (is.inside k l) in
          subst (λ path. IsLeastPathOf (part_of problem agents) k (get_or sets k []) path) (sym (path_at n.plan k l)) (record {
            allowed = subst₂ (λ s g. IsAllowed problem.inst.grid s g problem.bound (get_or sets k []) (path_of n.plan i)) (sym (start_at k l)) (sym (goal_at k l))
                (record { path = w.allowed.path; within = w.allowed.within; obeys = obeys_copy k l (path_of n.plan i) w.allowed.obeys });
            least = λ other may.
                let own = subst₂ (λ s g. IsAllowed problem.inst.grid s g problem.bound (get_or sets k []) other) (start_at k l) (goal_at k l) may in
                w.least other (record { path = own.path; within = own.within; obeys = obeys_own k l other own.obeys });
          })

-- a copy of one more agent's set
pub one_more_set : (n : Node) (agents : List ℕ) (sets : List (List Constraint)) (i : ℕ) (set : List Constraint) → length sets ≡ i → ((k : ℕ) → k < i → IsSameSet (get_or sets k []) (get_or n.constraints (get_or agents k 0) [])) →
    IsSameSet set (get_or n.constraints (get_or agents i 0) []) → (k : ℕ) → k < i + 1 → IsSameSet (get_or (sets ++ set ∷ []) k []) (get_or n.constraints (get_or agents k 0) [])
one_more_set n agents sets i set long each is k h =
    ⊎_elim (λ l. subst (λ s. IsSameSet s (get_or n.constraints (get_or agents k 0) [])) (sym (get_or_append_left sets (set ∷ []) [] k (omega (arith, l, long)))) (each k l)) (λ l.
    let e : k ≡ i = omega (arith, h, l) in
    subst (λ j. IsSameSet (get_or (sets ++ set ∷ []) j []) (get_or n.constraints (get_or agents j 0) [])) (sym e)
    (subst (λ s. IsSameSet s (get_or n.constraints (get_or agents i 0) [])) (sym (get_or_at sets set [] [] i long)) is)) (cases_lt k i)

-- what is known of groups, and of one more
pub with_one : (problem : Problem) (sets : List (List Constraint)) (groups : List GroupBound) (x : GroupBound) → IsGroupBound problem sets x.agents.items x.least → AreGroupBounds problem sets groups →
    AreGroupBounds problem sets (x ∷ groups)
with_one problem sets groups x is are g has =
    ⊎_elim (λ e. subst (λ (y : GroupBound). IsGroupBound problem sets y.agents.items y.least) e is) (are g) (here_or_there groups has)

-- and of one more behind them
pub with_last : (problem : Problem) (sets : List (List Constraint)) (groups : List GroupBound) (x : GroupBound) → IsGroupBound problem sets x.agents.items x.least → AreGroupBounds problem sets groups →
    AreGroupBounds problem sets (groups ++ x ∷ [])
with_last problem sets groups x is are g has =
    ⊎_elim (are g) (with_one problem sets [] x is (λ k none. absurd (nowhere none)) g) (Contains-append_cases groups (x ∷ []) g has)

-- no groups are bounds, and one more of them is one where that is so
pub none_follow : (groups : List GroupBound) → Follow groups []
none_follow groups problem sets are g has = absurd (nowhere has)

pub follow_on : (a b c : List GroupBound) (x k : GroupBound) → Follow a b → Contains a k → k.agents.items ≡ x.agents.items → k.least ≡ x.least → Follow (x ∷ b) c → Follow a c
follow_on a b c x k first has agents least second problem sets are =
    second problem sets (with_one problem sets b x (subst₂ (IsGroupBound problem sets) agents least (are k has)) (first problem sets are))

-- what is put in among others is one more
pub put_follows : (old : List GroupBound) (i : ℕ) (x : GroupBound) → Follow (x ∷ old) (insert old i x)
put_follows old i x problem sets are g has =
    ⊎_elim (λ before. among (Contains-append_left (take i old) (drop i old) g before))
    (λ behind. ⊎_elim (λ e. are g (here old e)) (λ after. among (Contains-append_right (take i old) (drop i old) g after)) (here_or_there (drop i old) behind))
    (Contains-append_cases (take i old) (x ∷ drop i old) g has)
  where
    among : Contains (take i old ++ drop i old) g → IsGroupBound problem sets g.agents.items g.least
    among c = are g (there old (subst (λ xs. Contains xs g) (take-append-drop i old) c))
