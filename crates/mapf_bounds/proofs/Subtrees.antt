-- Subtrees, and what their solutions have in common.
use Rattle.std.proofs.Common.{◌≡◌, ◌⊎◌, ℕ, ◌≤◌, List, [], ◌∷◌, ◌++◌, map, max, length, inl, inr, subst, sym, refl, ap, ◌∙◌, ⊎_elim, arith, length-append, append_assoc, append-nil}
use Rattle.mapf_grid.proofs.Ranks.{asymmetric, first_le}
use Rattle.mapf_plan.specs.Plan.{HasNoConflict, IsValid, path_of, plan_cost}
use Rattle.mapf_low.specs.Constraints.{Obeys}
use Rattle.mapf_tree.specs.declared.tree.side.Side.{Side}
use Rattle.mapf_tree.specs.Names.{turn}
use Rattle.mapf_tree.specs.Problem.{Problem}
use Rattle.mapf_tree.specs.LowerBound.{IsBelowAll}
use Rattle.mapf_tree.specs.Tree.{PlannedNode, IsMember, IsSolution, key, key_rank, rank, constraints_of, agent_on, constraint_on}
use Rattle.mapf_tree.specs.Nodes.{Node, StandsFor}
use Rattle.mapf_tree.proofs.high_level.OpenNodes.{key-stands}
use Rattle.mapf_tree.proofs.high_level.SearchLaws.{obeys_fewer, parent_before}
use Rattle.mapf_tree.specs.Laws.{ObeysNode}
use Rattle.mapf_tree.specs.Search.{IsChild}
use Rattle.mapf_bounds.specs.Below.{IsBelow, itself, child, IsBounded, own_bound}
use Rattle.mapf_bounds.specs.declared.lower_bound.LowerBound.{LowerBound}
use Rattle.mapf_bounds.specs.Bounds.{IsBoundOf, IsRaised, node_bound}
use Rattle.mapf_bounds.specs.Waiting.{IsKeyOf, bound_key}
use Rattle.mapf_bounds.specs.Laws.{SolutionsObey, PlansBoundCost, OwnAreBounds, BoundsPassDown}

-- what is at or below a node is that node, or at or below a child of it
pub first_step : (problem : Problem) (m s : PlannedNode) → IsBelow problem m s → (s ≡ m) ⊎ ((c : PlannedNode) × IsMember problem c × IsChild problem m c × IsBelow problem c s)
first_step problem m _ itself = inl refl
first_step problem m _ (child {parent = p} {m = s} below member is) =
    ⊎_elim (λ e. inr (s, member, subst (λ q. IsChild problem q s) e is, itself)) (λ c. inr (c.0, c.1, c.2, child c.3 member is)) (first_step problem m p below)

-- names below a node begin with the node's name
pub name_below : (problem : Problem) (m s : PlannedNode) → IsBelow problem m s → (turns : List Side) × (s.0.name ≡ m.0.name ++ turns)
name_below problem m _ itself = ([], sym (append-nil m.0.name))
name_below problem m _ (child {parent = p} {m = s} below member is) =
    let w = name_below problem m p below in
    (w.0 ++ is.turn ∷ [], ap (λ x. x.name) is.is ∙ ap (λ ts. ts ++ is.turn ∷ []) w.1 ∙ append_assoc m.0.name w.0 (is.turn ∷ []))

-- a plan that obeys a node obeys each node that it is at or below
pub obeys_above : (problem : Problem) (m s : PlannedNode) (plan : List (List ℕ)) → IsBelow problem m s → ObeysNode problem s.0 plan → ObeysNode problem m.0 plan
obeys_above problem m _ plan itself obeys = obeys
obeys_above problem m _ plan (child {parent = p} {m = s} below member is) obeys =
    obeys_above problem m p plan below
    (λ i h. obeys_fewer p.0.constraints (agent_on is.conflict is.turn) i (constraint_on is.conflict is.turn) (path_of plan i)
    (subst (λ x. Obeys (constraints_of x i) (path_of plan i)) is.is (obeys i h)))

-- a node's plan obeys the node
pub obeys_own : (problem : Problem) (m : PlannedNode) → IsMember problem m → ObeysNode problem m.0 m.1
obeys_own problem m member i h = (member.plan.own i h).member.obeys

-- as the law says it
pub solutions_obey : SolutionsObey
solutions_obey problem m s member solution below = obeys_above problem m s s.1 below (obeys_own problem s solution.planned)

-- a solution's plan is valid
pub solution_valid : (problem : Problem) (s : PlannedNode) → IsSolution problem s → IsValid problem.rule problem.inst s.1
solution_valid problem s h = record { agents = h.planned.plan.agents; paths = λ i l. (h.planned.plan.own i l).member.path; no_conflict = h.no_conflict }

-- so a bound of plans bounds solutions
pub plans_bound_cost : PlansBoundCost
plans_bound_cost problem m least member bound s solution below =
    bound s.1 (solution_valid problem s solution) solution.planned.plan.within (solutions_obey problem m s member solution below)

-- a child costs no less than its parent, since it comes after it
child_costs : (problem : Problem) (p c : PlannedNode) → IsMember problem p → IsMember problem c → IsChild problem p c → plan_cost p.1 ≤ plan_cost c.1
child_costs problem p c m n is =
    first_le (plan_cost p.1) (plan_cost c.1) (length p.0.name ∷ map turn p.0.name) (length c.0.name ∷ map turn c.0.name)
    (asymmetric (key p) (key c) (parent_before problem p c m n is))

-- what is at or below a node of the tree is of the tree, costs no less and is as deep at least
pub below_grows : (problem : Problem) (m s : PlannedNode) → IsMember problem m → IsBelow problem m s → IsMember problem s × (plan_cost m.1 ≤ plan_cost s.1) × (length m.0.name ≤ length s.0.name)
below_grows problem m _ member itself = (member, omega arith, omega arith)
below_grows problem m _ member (child {parent = p} {m = s} below inside is) =
    let up = below_grows problem m p member below in
    let costs = child_costs problem p s up.0 inside is in
    (inside, omega (arith, up.1, costs), omega (arith, up.2, ap (λ x. length x.name) is.is, length-append p.0.name (is.turn ∷ [])))

-- so a node's own cost and depth are bounds
pub own_are_bounds : OwnAreBounds
own_are_bounds problem m member = record {
  cost = λ s solution below. (below_grows problem m s member below).1;
  depth = λ s solution below cost. (below_grows problem m s member below).2;
}

-- what is below a node below a node is below that one
below_below : (problem : Problem) (m p s : PlannedNode) → IsBelow problem m p → IsBelow problem p s → IsBelow problem m s
below_below problem m p _ up itself = up
below_below problem m p _ up (child {parent = q} {m = s} below member is) = child (below_below problem m p q up below) member is

-- so bounds pass down
pub bounds_pass_down : BoundsPassDown
bounds_pass_down problem m p b is up = record {
  cost = λ s solution below. is.cost s solution (below_below problem m p s up below);
  depth = λ s solution below. is.depth s solution (below_below problem m p s up below);
}

-- a node's bound by its own cost and depth is that of the node of the tree that it stands for
own_stands : (problem : Problem) (n : Node) (m : PlannedNode) → StandsFor problem n m → node_bound n ≡ own_bound m
own_stands problem n m stands = let plans = stands.plan in let names = stands.name in λ i. record { cost = plan_cost (plans i); depth = length (names i) }

-- a key by a node's own cost and depth
pub own_key_of : (problem : Problem) (n : Node) → IsKeyOf problem (bound_key (node_bound n) n.name) n
own_key_of problem n m stands = record {
  bounded = subst (IsBounded problem m) (sym (own_stands problem n m stands)) (own_are_bounds problem m stands.member);
  name = stands.name;
  exact = λ none. key-stands problem n m stands;
}

-- where all solutions cost at least so much
module _ (problem : Problem) (n : Node) (least : ℕ) (below_all : IsBelowAll problem least) where
  raised_bounds : (m : PlannedNode) → StandsFor problem n m → IsBounded problem m (record { cost = max (plan_cost n.plan) least; depth = length n.name })
  raised_bounds m stands = record {
    cost = λ s solution below. omega (arith, (own_are_bounds problem m stands.member).cost s solution below, ap plan_cost stands.plan, below_all s.1 (solution_valid problem s solution));
    depth = λ s solution below cost. omega (arith, (below_grows problem m s stands.member below).2, ap length stands.name);
  }

  -- a key by a node's own depth and its cost, or that one where it is more
  pub least_key_of : IsKeyOf problem (bound_key (record { cost = max (plan_cost n.plan) least; depth = length n.name }) n.name) n
  least_key_of m stands = record { bounded = raised_bounds m stands; name = stands.name; exact = exact }
    where
      exact : HasNoConflict problem.rule m.1 → key_rank (bound_key (record { cost = max (plan_cost n.plan) least; depth = length n.name }) n.name) ≡ key m
      exact none =
          let at_least = below_all m.1 (solution_valid problem m (record { planned = stands.member; no_conflict = none })) in
          let same : max (plan_cost n.plan) least ≡ plan_cost n.plan = omega (arith, at_least, ap plan_cost stands.plan) in
          ap (λ c. rank c (length n.name) n.name) same ∙ key-stands problem n m stands

-- and by a bound that is known of its parent, where that is above its own
pub child_key_of : (problem : Problem) (n : Node) (x : PlannedNode) (known b : LowerBound) → IsBounded problem x known →
    ((m : PlannedNode) → StandsFor problem n m → IsChild problem x m) → IsRaised (node_bound n) known b → IsKeyOf problem (bound_key b n.name) n
child_key_of problem n x known b bounded is (inl (e, _)) = subst (λ c. IsKeyOf problem (bound_key c n.name) n) (sym e) (own_key_of problem n)
child_key_of problem n x known b bounded is (inr (e, above)) = subst (λ c. IsKeyOf problem (bound_key c n.name) n) (sym e) key_of
  where
    below : (m : PlannedNode) → StandsFor problem n m → IsBelow problem x m
    below m stands = child itself stands.member (is m stands)

    no_solution : (m : PlannedNode) → StandsFor problem n m → ¬ HasNoConflict problem.rule m.1
    no_solution m stands none =
        let solution : IsSolution problem m = record { planned = stands.member; no_conflict = none } in
        let own = own_stands problem n m stands in
        ⊎_elim (λ l. omega (arith, l, ap (λ (c : LowerBound). c.cost) own, bounded.cost m solution (below m stands)))
        (λ l. let same : plan_cost m.1 ≡ known.cost = sym (ap (λ (c : LowerBound). c.cost) own) ∙ l.0 in
        omega (arith, l.1, ap (λ (c : LowerBound). c.depth) own, bounded.depth m solution (below m stands) same)) above

    key_of : IsKeyOf problem (bound_key known n.name) n
    key_of m stands = record { bounded = bounds_pass_down problem x m known bounded (below m stands); name = stands.name; exact = λ none. absurd (no_solution m stands none) }

-- and by any bound, where it has a conflict
pub found_key_of : (problem : Problem) (n : Node) (b : LowerBound) → IsBoundOf problem n b → ((m : PlannedNode) → StandsFor problem n m → ¬ HasNoConflict problem.rule m.1) → IsKeyOf problem (bound_key b n.name) n
found_key_of problem n b is conflict m stands = record { bounded = is m stands; name = stands.name; exact = λ none. absurd (conflict m stands none) }
