-- Each turn changes what one agent is forbidden, and so parts at most one of disjoint pairs from the node's sets; and a pair that
-- collides in the node's plan does so as long as both its sets stand.
use Rattle.std.proofs.Common.{◌≡◌, ◌≢◌, ℕ, ◌<◌, ◌≤◌, ◌+◌, List, [], ◌∷◌, length, get_or-set_other, subst, subst₂, sym, refl, ap, ◌∙◌, arith, length-append}
use Rattle.std.specs.List.{AllByRecursion}
use native.Mathlib.Decide.{ℕ_discrete}
use Rattle.mapf_grid.proofs.Decide.{by_cases}
use Rattle.mapf_plan.specs.declared.conflict.Conflict.{Conflict}
use Rattle.mapf_plan.specs.Collisions.{DoCollide}
use Rattle.mapf_plan.specs.Plan.{path_of}
use Rattle.mapf_low.proofs.OwnPaths.{same_own}
use Rattle.mapf_tree.specs.declared.tree.side.Side.{Side}
use Rattle.mapf_tree.specs.Problem.{Problem}
use Rattle.mapf_tree.specs.Tree.{TreeNode, PlannedNode, IsMember, IsSolution, IsOwnPathOf, constraints_of, constraint_on, agent_on, side_of}
use Rattle.mapf_optimum.proofs.Collisions.{never_collide}
use Rattle.mapf_bounds.specs.Below.{IsBelow, itself, child}
use Rattle.mapf_bounds.specs.declared.collisions.AgentPair.{AgentPair}
use Rattle.mapf_bounds.specs.Pairs.{AreApart, AreDisjoint, IsCollidingPair}
use Rattle.mapf_bounds.specs.Laws.{CollisionsTakeTurns}
use Rattle.mapf_bounds.proofs.Choosing.{all_map}

-- both of two facts hold of each element
all_both : {X : Type 0} (P Q : X → Type 0) (xs : List X) → AllByRecursion P xs → AllByRecursion Q xs → AllByRecursion (λ x. P x × Q x) xs
all_both P Q [] one other = tt
all_both P Q (x ∷ xs) one other = ((one.0, other.0), all_both P Q xs one.1 other.1)

-- neither agent of the pair is this one
abbrev IsWithout : ℕ → AgentPair → Type 0
IsWithout a p = (p.first ≢ a) × (p.second ≢ a)

-- all pairs but the one with this agent, if there is one
record Others (n a : ℕ) (P : AgentPair → Type 0) (pairs : List AgentPair) : Type 0 where
  rest : List AgentPair
  disjoint : AreDisjoint n rest
  hold : AllByRecursion P rest
  without : AllByRecursion (IsWithout a) rest
  most : length pairs ≤ length rest + 1

-- an agent is in one of disjoint pairs at most
others : (n a : ℕ) (P : AgentPair → Type 0) (pairs : List AgentPair) → AreDisjoint n pairs → AllByRecursion P pairs → Others n a P pairs
others n a P [] dis all = record { rest = []; disjoint = tt; hold = tt; without = tt; most = omega arith }
others n a P (p ∷ ps) dis all =
    by_cases (ℕ_discrete p.first a) (λ e. left_out (λ q apart. ((λ f. apart.first_first (e ∙ sym f)), (λ f. apart.first_second (e ∙ sym f)))))
    (λ m.
    by_cases (ℕ_discrete p.second a) (λ e. left_out (λ q apart. ((λ f. apart.second_first (e ∙ sym f)), (λ f. apart.second_second (e ∙ sym f)))))
    (λ k. kept (m, k) (others n a (λ q. P q × AreApart p q) ps dis.3 (all_both P (AreApart p) ps all.1 dis.2))))
  where
    left_out : ((q : AgentPair) → AreApart p q → IsWithout a q) → Others n a P (p ∷ ps)
    left_out f = record { rest = ps; disjoint = dis.3; hold = all.1; without = all_map (AreApart p) (IsWithout a) f ps dis.2; most = omega arith }

    kept : IsWithout a p → Others n a (λ q. P q × AreApart p q) ps → Others n a P (p ∷ ps)
    kept m o = record {
      rest = p ∷ o.rest;
      disjoint = (dis.0, dis.1, all_map (λ q. P q × AreApart p q) (AreApart p) (λ q h. h.1) o.rest o.hold, o.disjoint);
      hold = (all.0, all_map (λ q. P q × AreApart p q) P (λ q h. h.0) o.rest o.hold);
      without = (m, o.without);
      most = omega (arith, o.most);
    }

-- one of the two agents is forbidden something else than in the node
abbrev IsParted : TreeNode → TreeNode → AgentPair → Type 0
IsParted node below p = ¬ ((constraints_of below p.first ≡ constraints_of node p.first) × (constraints_of below p.second ≡ constraints_of node p.second))

-- a turn leaves the sets of all agents but one
other_set : (node : TreeNode) (c : Conflict) (s : Side) (i : ℕ) → i ≢ agent_on c s → constraints_of (side_of node c s) i ≡ constraints_of node i
other_set node c s i n = get_or-set_other node.constraints (agent_on c s) i (constraint_on c s ∷ constraints_of node (agent_on c s)) [] n

-- so there is a turn for each of disjoint pairs that are parted
turn_for_each : (problem : Problem) (n : ℕ) (m s : PlannedNode) (pairs : List AgentPair) → IsBelow problem m s → AreDisjoint n pairs → AllByRecursion (IsParted m.0 s.0) pairs → length m.0.name + length pairs ≤ length s.0.name
turn_for_each problem n m _ [] itself dis all = omega arith
turn_for_each problem n m _ (p ∷ ps) itself dis all = absurd (all.0 (refl, refl))
turn_for_each problem n m _ pairs (child {parent = above} {m = s} up member is) dis all =
    let a = agent_on is.conflict is.turn in
    let o = others n a (IsParted m.0 s.0) pairs dis all in
    let before = turn_for_each problem n m above o.rest up o.disjoint
    (all_map (λ q. IsParted m.0 s.0 q × IsWithout a q) (IsParted m.0 above.0) still o.rest
    (all_both (IsParted m.0 s.0) (IsWithout a) o.rest o.hold o.without)) in
    omega (arith, before, o.most, ap (λ x. length x.name) is.is, length-append above.0.name (is.turn ∷ []))
  where
    same : (i : ℕ) → i ≢ agent_on is.conflict is.turn → constraints_of s.0 i ≡ constraints_of above.0 i
    same i n = ap (λ x. constraints_of x i) is.is ∙ other_set above.0 is.conflict is.turn i n

    still : (q : AgentPair) → IsParted m.0 s.0 q × IsWithout (agent_on is.conflict is.turn) q → IsParted m.0 above.0 q
    still q h e = h.0 (same q.first h.1.0 ∙ e.0, same q.second h.1.1 ∙ e.1)

module _ (problem : Problem) (m s : PlannedNode) (has : IsMember problem m) (solution : IsSolution problem s) where
  -- an agent that is forbidden the same has the same path
  same_path : (i : ℕ) → i < length problem.inst.starts → constraints_of s.0 i ≡ constraints_of m.0 i → path_of m.1 i ≡ path_of s.1 i
  same_path i l e = same_own _ _ _ _ _ (path_of m.1 i) (path_of s.1 i) (has.plan.own i l) (subst (λ cs. IsOwnPathOf problem i cs (path_of s.1 i)) e (solution.planned.plan.own i l))

  -- so a pair that collides in the node's plan is parted where none does
  parted : (p : AgentPair) → p.first < p.second → IsCollidingPair problem.rule m.1 p → IsParted m.0 s.0 p
  parted p l h same =
      never_collide problem.rule s.1 p.first p.second solution.no_conflict l (omega (arith, h.second, has.plan.agents, solution.planned.plan.agents)) h.time
      (subst₂ (λ a b. DoCollide problem.rule a b h.time) (same_path p.first (omega (arith, h.first, has.plan.agents)) same.0) (same_path p.second (omega (arith, h.second, has.plan.agents)) same.1) h.collide)

  all_parted : (n : ℕ) (pairs : List AgentPair) → AreDisjoint n pairs → AllByRecursion (IsCollidingPair problem.rule m.1) pairs → AllByRecursion (IsParted m.0 s.0) pairs
  all_parted n [] dis all = tt
  all_parted n (p ∷ ps) dis all = (parted p dis.0 all.0, all_parted n ps dis.3 all.1)

pub collisions_take_turns : CollisionsTakeTurns
collisions_take_turns problem m s count has h solution below =
    omega (arith, h.2, turn_for_each problem (length m.1) m s h.0 below h.1 (all_parted problem m s has solution (length m.1) h.0 h.1 h.3))
