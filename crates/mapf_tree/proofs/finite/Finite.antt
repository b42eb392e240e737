-- The tree is finite: it has as many levels as a name can be long, and each level is a list.
use Rattle.mapf_tree.proofs.Prelude.{◌≡◌, ◌⊎◌, ℕ, zero, suc, ◌≤◌, List, [], ◌∷◌, ◌++◌, map, length, inl, inr, subst, sym, refl, ap, ◌∙◌, ⊎_elim, arith, length-append, All, Contains, cases_eq, All-nil, All-cons, All-tail, All-append, All-contains, Contains-append_left, Contains-append_right, by_cases, Contains-map, nowhere, here, here_or_there, first_conflict, same_first}
use Rattle.mapf_tree.specs.Prelude.{Conflict, IsFirstConflict, HasNoConflict, Problem, Side, Left, Right, TreeNode, HasPlan, InTree, root, side, side_of, root_of, PlannedNode, IsMember, IsChild, TreeIsFinite}
use Rattle.mapf_tree.proofs.finite.Measure.{grown_all, most, depth_most}
use Rattle.mapf_tree.proofs.Plans.{InCost, dec_in_cost, same_plan}

module _ (problem : Problem) where
  -- a list of nodes of the tree that has each one with P
  abbrev Holding : (PlannedNode → Type 0) → Type 0
  Holding P = (ms : List PlannedNode) × All (IsMember problem) ms × ((m : PlannedNode) → IsMember problem m → P m → Contains ms m)

  -- no node has P
  nothing : (P : PlannedNode → Type 0) → ((m : PlannedNode) → IsMember problem m → ¬ P m) → Holding P
  nothing P n = ([], All-nil (IsMember problem), λ m h k. absurd (n m h k))

  -- each node with R has P or Q
  both : (P Q R : PlannedNode → Type 0) → Holding P → Holding Q → ((m : PlannedNode) → R m → P m ⊎ Q m) → Holding R
  both P Q R l r which = (
    l.0 ++ r.0,
    All-append (IsMember problem) l.0 r.0 l.1 r.1,
    λ m h k. ⊎_elim (λ p. Contains-append_left l.0 r.0 m (l.2 m h p)) (λ q. Contains-append_right l.0 r.0 m (r.2 m h q)) (which m k),
  )

  -- one node, if it is in cost
  only : (q : TreeNode) → (InCost problem q → InTree problem q) → Holding (λ m. m.0 ≡ q)
  only q into =
      by_cases (dec_in_cost problem q)
      (λ w. ((q, w.0) ∷ [], All-cons (IsMember problem) (q, w.0) [] (record { inside = into w; plan = w.1 }) (All-nil (IsMember problem)), λ m h e. here [] (sym (same w m h e))))
      (λ n. nothing (λ m. m.0 ≡ q) (λ m h e. n (m.1, subst (λ p. HasPlan problem p m.1) e h.plan)))
    where
      same : (w : InCost problem q) (m : PlannedNode) → IsMember problem m → m.0 ≡ q → m ≡ (q, w.0)
      same w m h e = let plans : m.1 ≡ w.0 = same_plan problem q m.1 w.0 (subst (λ p. HasPlan problem p m.1) e h.plan) w.1 in λ i. (e i, plans i)

  -- the sides of a node
  sides : (p : PlannedNode) → IsMember problem p → Holding (IsChild problem p)
  sides p h = by (first_conflict problem.rule p.1)
    where
      by : ((c : Conflict) × IsFirstConflict problem.rule p.1 c) ⊎ HasNoConflict problem.rule p.1 → Holding (IsChild problem p)
      by (inr none) = nothing (IsChild problem p) (λ m k s. none s.conflict s.first.member)
      by (inl c) =
          both (On Left) (On Right) (IsChild problem p) (on Left) (on Right)
          (λ m s. which m s.turn (s.is ∙ ap (λ d. side_of p.0 d s.turn) (same_first problem.rule p.1 s.conflict c.0 s.first c.1)))
        where
          On : Side → PlannedNode → Type 0
          On t m = m.0 ≡ side_of p.0 c.0 t

          on : (t : Side) → Holding (On t)
          on t = only (side_of p.0 c.0 t) (λ w. side t h.inside h.plan c.1 w.1)

          which : (m : PlannedNode) (t : Side) → m.0 ≡ side_of p.0 c.0 t → On Left m ⊎ On Right m
          which m Left e = inl e
          which m Right e = inr e

  -- the sides of all nodes of a list
  abbrev IsSideOfSome : List PlannedNode → PlannedNode → Type 0
  IsSideOfSome ps m = (p : PlannedNode) × Contains ps p × IsChild problem p m

  -- they are a list
  all_sides : (ps : List PlannedNode) → All (IsMember problem) ps → Holding (IsSideOfSome ps)
  all_sides [] a = nothing (IsSideOfSome []) (λ m h s. nowhere s.1)
  all_sides (p ∷ ps) a =
      both (IsChild problem p) (IsSideOfSome ps) (IsSideOfSome (p ∷ ps)) (sides p (a 0 p (omega arith))) (all_sides ps (All-tail (IsMember problem) p ps a))
      (λ m s. ⊎_elim (λ e. inl (subst (λ y. IsChild problem y m) (sym e) s.2)) (λ i. inr (s.0, i, s.2)) (here_or_there ps s.1))

  -- the nodes whose names have n turns are a list: the root, or the sides of the level above
  level : (n : ℕ) → Holding (λ m. length m.0.name ≡ n)
  level zero = let r = only (root_of problem) (λ w. root w.1) in (r.0, r.1, λ m h e. r.2 m h (at_root m.0 h.inside e))
    where
      at_root : (p : TreeNode) → InTree problem p → length p.name ≡ zero → p ≡ root_of problem
      at_root _ (root h) e = refl
      at_root _ (side {node = p} s i h f k) e = absurd (omega (arith, e, length-append p.name (s ∷ [])))
  level (suc n) = let l = level n in let s = all_sides l.0 l.1 in (s.0, s.1, λ m h e. s.2 m h (is_side l m.0 m.1 h.inside e))
    where
      is_side : (l : Holding (λ m. length m.0.name ≡ n)) (q : TreeNode) (plan : List (List ℕ)) → InTree problem q → length q.name ≡ suc n → IsSideOfSome l.0 (q, plan)
      is_side l _ plan (root h) e = absurd (omega (arith, e))
      is_side l _ plan (side {node = p} {plan = a} {c = c} s i h f k) e =
          ((p, a), l.2 (p, a) (record { inside = i; plan = h }) (omega (arith, e, length-append p.name (s ∷ []))), record { conflict = c; turn = s; first = f; is = refl })

  -- and so are those whose names have n turns at most
  levels : (n : ℕ) → Holding (λ m. length m.0.name ≤ n)
  levels zero = let l = level zero in (l.0, l.1, λ m h k. l.2 m h (omega (arith, k)))
  levels (suc n) =
      both (λ m. length m.0.name ≡ suc n) (λ m. length m.0.name ≤ n) (λ m. length m.0.name ≤ suc n) (level (suc n)) (levels n)
      (λ m k. ⊎_elim inl (λ e. inr (omega (arith, k, e))) (cases_eq (length m.0.name) (suc n)))

  -- so the tree's nodes with their plans are a list
  pub members : (ms : List PlannedNode) × All (IsMember problem) ms × ((m : PlannedNode) → IsMember problem m → Contains ms m)
  members = let l = levels (most problem) in (l.0, l.1, λ m h. l.2 m h (depth_most problem m.0 (grown_all problem m.0 h.inside)))

  -- a node of the tree has a plan
  plan_of : (p : TreeNode) → InTree problem p → InCost problem p
  plan_of _ (root {plan = plan} h) = (plan, h)
  plan_of _ (side {plan' = plan} s i h f k) = (plan, k)

  -- without their plans they are in the tree
  inside : (ms : List PlannedNode) → All (IsMember problem) ms → All (InTree problem) (map (λ m. m.0) ms)
  inside [] a = All-nil (InTree problem)
  inside (m ∷ ms) a = All-cons (InTree problem) m.0 (map (λ k. k.0) ms) (a 0 m (omega arith)).inside (inside ms (All-tail (IsMember problem) m ms a))

-- as the law says it
pub tree_is_finite : TreeIsFinite
tree_is_finite problem =
    let ms = members problem in
    let nodes = map (λ (m : PlannedNode). m.0) ms.0 in (
      nodes,
      λ p. (
        (λ i. let w = plan_of problem p i in Contains-map (λ (m : PlannedNode). m.0) ms.0 (p, w.0) (ms.2 (p, w.0) (record { inside = i; plan = w.1 }))),
        All-contains (InTree problem) nodes p (inside problem ms.0 ms.1),
      ),
    )
