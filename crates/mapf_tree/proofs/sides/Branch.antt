-- A valid plan that obeys a node obeys one of its sides.
use Rattle.mapf_tree.proofs.Prelude.{◌≡◌, ℕ, ◌<◌, List, [], ◌∷◌, length, inl, inr, subst, sym, ◌∙◌, arith, by_cases, set_cases, dec_breaks}
use Rattle.mapf_tree.specs.Prelude.{Conflict, Rule, IsConflict, path_of, Obeys, Breaks, Problem, Side, Left, Right, TreeNode, side_of, constraints_of, constraint_on, agent_on, ObeysNode, ObeysOneSide}
use Rattle.mapf_plan.specs.declared.conflict.Conflict.TheVariants.{Vertex, Swapping, Following}
use Rattle.mapf_tree.proofs.sides.Followers.{of_parts}

-- a plan that obeys a node, and keeps the constraint of a side, obeys that side
obeys_side : (problem : Problem) (node : TreeNode) (other : List (List ℕ)) (c : Conflict) (s : Side) → length node.constraints ≡ length problem.inst.starts → ¬ Breaks (path_of other (agent_on c s)) (constraint_on c s) →
    ObeysNode problem node other → ObeysNode problem (side_of node c s) other
obeys_side problem node other c s n keeps obeys i lt =
    set_cases (λ cs. Obeys cs (path_of other i)) node.constraints (agent_on c s) i (constraint_on c s ∷ constraints_of node (agent_on c s)) [] (omega (arith, n, lt))
    (λ e. (subst (λ k. ¬ Breaks (path_of other k) (constraint_on c s)) e keeps, subst (λ k. Obeys (constraints_of node k) (path_of other i)) (sym e) (obeys i lt)))
    (λ _. obeys i lt)

-- a plan in which both agents break what their sides forbid has the conflict
both_break : (rule : Rule) (plan other : List (List ℕ)) (c : Conflict) → length plan ≡ length other → IsConflict rule plan c → Breaks (path_of other (agent_on c Left)) (constraint_on c Left) → Breaks (path_of other (agent_on c Right)) (constraint_on c Right) → IsConflict rule other c
both_break rule plan other (Vertex t i j v) n h a b = (h.0, subst (λ k. j < k) n h.1, a, b)
both_break rule plan other (Swapping t i j u v) n h a b = (h.0, subst (λ k. j < k) n h.1, h.2, h.3, a.1, a.2, b.1, b.2)
both_break rule plan other (Following t i j v) n h a b =
    let both = of_parts other i j v t h.1 a b in
    (h.0, h.1, subst (λ k. i < k) n h.2, subst (λ k. j < k) n h.3, h.4, both.0, both.1)

-- each side's agent is one of the plan's
pub agent_below : (rule : Rule) (plan : List (List ℕ)) (c : Conflict) (s : Side) → IsConflict rule plan c → agent_on c s < length plan
agent_below rule plan (Vertex t i j v) Left h = omega (arith, h.0, h.1)
agent_below rule plan (Vertex t i j v) Right h = h.1
agent_below rule plan (Swapping t i j u v) Left h = omega (arith, h.0, h.1)
agent_below rule plan (Swapping t i j u v) Right h = h.1
agent_below rule plan (Following t i j v) Left h = omega (arith, h.2, h.3)
agent_below rule plan (Following t i j v) Right h = omega (arith, h.2, h.3)

-- no valid plan has the conflict, so one of its two agents keeps its side's constraint
pub obeys_one_side : ObeysOneSide
obeys_one_side problem node plan other c nc np is valid obeys =
    by_cases (dec_breaks (path_of other (agent_on c Left)) (constraint_on c Left))
    (λ l.
    by_cases (dec_breaks (path_of other (agent_on c Right)) (constraint_on c Right))
    (λ r. absurd (valid.no_conflict c (both_break problem.rule plan other c (np ∙ sym valid.agents) is l r))) (λ r. inr (obeys_side problem node other c Right nc r obeys)))
    (λ l. inl (obeys_side problem node other c Left nc l obeys))
