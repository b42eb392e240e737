-- Pairs of the tree are determined by their names, and the answer by the instance.
use Rattle.mapf_tree.proofs.Prelude.{◌≡◌, List, [], ◌∷◌, map, length, Some, None, subst, refl, ap, ap₂, ◌∙◌, arith, length-append, same_from_push, same_rank, same_first}
use Rattle.mapf_tree.specs.Prelude.{IsFirstConflict, Problem, Side, Left, Right, turn, TreeNode, HasPlan, InTree, root, side, side_of, key, IsSolution, PlannedNode, IsMember, AnswerIsUnique}
use Rattle.mapf_tree.proofs.Plans.{same_plan}

-- two nodes of the tree with one name are one
pub same_node : (problem : Problem) (p q : TreeNode) → InTree problem p → InTree problem q → p.name ≡ q.name → p ≡ q
same_node problem _ _ (root h) (root k) e = refl
same_node problem _ _ (root h) (side {node = q} s i h' f k) e = absurd (omega (arith, ap length e, length-append q.name (s ∷ [])))
same_node problem _ _ (side {node = p} s i h' f k) (root h) e = absurd (omega (arith, ap length e, length-append p.name (s ∷ [])))
same_node problem _ _ (side {node = p} {plan = a} {c = c} s i h f _) (side {node = q} {plan = b} {c = d} s' i' h' f' _) e =
    let names = same_from_push p.name q.name s s' e in
    let ep = same_node problem p q i i' names.0 in
    let ea = same_plan problem q a b (subst (λ r. HasPlan problem r a) ep h) h' in
    let ec = same_first problem.rule b c d (subst (λ r. IsFirstConflict problem.rule r c) ea f) f' in
    ap₂ (λ r x. side_of r x s) ep ec ∙ ap (λ x. side_of q d x) names.1

-- turns by their numbers
pub same_turns : (m n : List Side) → map turn m ≡ map turn n → m ≡ n
same_turns [] [] e = refl
same_turns [] (y ∷ n) e = cc
same_turns (x ∷ m) [] e = cc
same_turns (x ∷ m) (y ∷ n) e =
    let h : turn x ≡ turn y = cc in
    let t : map turn m ≡ map turn n = cc in
    ap₂ (λ a b. a ∷ b) (same x y h) (same_turns m n t)
  where
    same : (x y : Side) → turn x ≡ turn y → x ≡ y
    same Left Left h = refl
    same Left Right h = absurd (omega (arith, h))
    same Right Left h = absurd (omega (arith, h))
    same Right Right h = refl

-- two members with one key are one
pub same_member : (problem : Problem) (m n : PlannedNode) → IsMember problem m → IsMember problem n → key m ≡ key n → m ≡ n
same_member problem m n h k e =
    let turns : map turn m.0.name ≡ map turn n.0.name = cc in
    let pairs = same_node problem m.0 n.0 h.inside k.inside (same_turns _ _ turns) in
    let plans = same_plan problem n.0 m.1 n.1 (subst (λ x. HasPlan problem x m.1) pairs h.plan) k.plan in
    λ i. (pairs i, plans i)

-- so two least solutions are one
pub answer_is_unique : AnswerIsUnique
answer_is_unique problem (Some p) (Some q) a b =
    let e = same_rank key (IsSolution problem) (a.0, p) (b.0, q) a.1 b.1 in
    let m : (a.0, p) ≡ (b.0, q) = same_member problem (a.0, p) (b.0, q) a.1.member.planned b.1.member.planned e in
    ap (λ x. Some x.1) m
answer_is_unique problem (Some p) None a b = absurd (b (a.0, p) a.1.member)
answer_is_unique problem None (Some q) a b = absurd (a (b.0, q) b.1.member)
answer_is_unique problem None None a b = refl
