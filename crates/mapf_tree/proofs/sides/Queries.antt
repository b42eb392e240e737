-- From the own path that a side's query asks for to the child on that side.
use Rattle.std.proofs.Common.{◌≡◌, [], ◌∷◌, ◌++◌, ℕ, get_or, set, Option, Some, None, option_map, IsSome, refl, subst, subst₂, sym, ◌∙◌, arith}
use Rattle.mapf_tree.specs.Prelude.{Conflict, Changed, Node, IsConflictOf, path_of, agent_on, constraint_on, IsBranching, IsChildOf, IsOwnWithin, SideQuery, IsQueryOf, IsFoundBy}
use Rattle.mapf_tree.proofs.sides.SideNodes.{IsSought, no_side, side_stands, own_of_side}

-- what is searched for a query, by the conflict's side
sought : (node : Node) (c : Conflict) (q : SideQuery) → IsQueryOf node q → node.conflict ≡ Some c → IsSought q.problem node (agent_on c q.side) q.bound (constraint_on c q.side) q.constraints
sought node c q h is = subst₂ (λ i x. IsSought q.problem node i q.bound x q.constraints) (h.agent c is) (h.constraint c is) (record { after = h.constraints; leaves = h.leaves })

-- without an own path there is no child
pub no_child : (node : Node) (q : SideQuery) → IsQueryOf node q → IsFoundBy q None → IsChildOf q.problem node q.side None
no_child node q h none m c shows is =
    no_side q.problem node m c q.side shows is q.bound q.constraints (sought node c q h is) (subst (λ i. IsOwnWithin q.problem q.bound i q.constraints None) (h.agent c is) none)

-- with one the node that has it is the child
pub is_child : (node new : Node) (q : SideQuery) (change : Changed) → IsQueryOf node q → IsFoundBy q (Some change.path) → change.agent ≡ q.agent → change.constraint ≡ q.constraint →
    new.name ≡ node.name ++ q.side ∷ [] → new.changes ≡ node.changes ++ change ∷ [] →
    new.constraints ≡ set node.constraints change.agent (change.constraint ∷ get_or node.constraints change.agent []) → new.plan ≡ set node.plan change.agent change.path →
    new.rule ≡ node.rule → IsConflictOf node.rule (set node.plan change.agent change.path) new.conflict → IsChildOf q.problem node q.side (Some new)
is_child node new q change h own a k name changes constraints plan rule conflict m c shows is =
    let agent : change.agent ≡ agent_on c q.side = a ∙ h.agent c is in
    let forbidden : change.constraint ≡ constraint_on c q.side = k ∙ h.constraint c is in
    side_stands q.problem node m c q.side shows is q.bound q.constraints (sought node c q h is) change.path
    (subst (λ i. IsOwnWithin q.problem q.bound i q.constraints (Some change.path)) (h.agent c is) own) new name
    (subst₂ (λ i x. new.changes ≡ node.changes ++ record { agent = i; constraint = x; path = change.path } ∷ []) agent forbidden changes)
    (subst₂ (λ i x. new.constraints ≡ set node.constraints i (x ∷ get_or node.constraints i [])) agent forbidden constraints) (subst (λ i. new.plan ≡ set node.plan i change.path) agent plan) rule
    (subst (λ i. IsConflictOf node.rule (set node.plan i change.path) new.conflict) agent conflict)

-- what a node's child on the side tells of the own path: it is the child's, and without a child there is none
pub found_of_child : (node : Node) (q : SideQuery) (child : Option Node) → IsBranching q.problem node → IsQueryOf node q → IsChildOf q.problem node q.side child →
    IsFoundBy q (option_map (λ n. path_of n.plan q.agent) child)
found_of_child node q child branching h is = told (node.conflict) refl branching.conflict
  where
    told : (x : Option Conflict) → node.conflict ≡ x → IsSome x → IsFoundBy q (option_map (λ n. path_of n.plan q.agent) child)
    told None e some = absurd (let m : ◌≡◌ {A = ℕ} 0 1 = cc in omega (arith, m))
    told (Some c) e some =
        subst (λ i. IsOwnWithin q.problem q.bound i q.constraints (option_map (λ n. path_of n.plan i) child)) (sym (h.agent c e))
        (own_of_side q.problem node branching.of c q.side branching.stands e q.bound q.constraints (sought node c q h e) child (is branching.of c branching.stands e))
