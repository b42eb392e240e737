-- Which nodes of the tree a list of nodes stands for, when a node is taken out or put in.
use Rattle.mapf_tree.proofs.Prelude.{◌≡◌, ◌≢◌, ◌⊎◌, ◌↔◌, ℕ, List, ◌∷◌, length, map, Option, Some, None, inl, inr, subst, sym, refl, ap, ap₂, ◌∙◌, ⊎_elim, Contains, All-contains, All-from_recursion, here, there, here_or_there, irreflexive, asymmetric, by_compare, before_is_other, same_first}
use Rattle.mapf_tree.specs.Prelude.{Precedes, IsLeast, Conflict, plan_cost, HasNoConflict, IsFirstConflict, Side, Left, Right, Problem, turn, TreeNode, HasPlan, root_of, side_of, key, PlannedNode, IsMember, IsChild, Node, node_key, StandsFor, IsConflictOf, AllStand, HasNodeFor, IsRoot, IsSide, IsRising, IsPut, IsAddedIfSome, ExpandsLeast}
use Rattle.mapf_tree.proofs.Plans.{same_plan}
use Rattle.mapf_tree.proofs.Unique.{same_member}

-- a node has the key of the node that it stands for
pub key-stands : (p : Problem) (n : Node) (m : PlannedNode) → StandsFor p n m → node_key n ≡ key m
key-stands p n m h = ap₂ (λ name plan. plan_cost plan ∷ length name ∷ map turn name) h.name h.plan

-- nodes with one key stand for one node
pub same_stands : (p : Problem) (n k : Node) (a b : PlannedNode) → StandsFor p n a → StandsFor p k b → node_key n ≡ node_key k → a ≡ b
same_stands p n k a b h g e = same_member p a b h.member g.member (sym (key-stands p n a h) ∙ e ∙ key-stands p k b g)

module _ (p : Problem) (first : Node) (rest : List Node) (x : PlannedNode) (rising : IsRising (first ∷ rest)) (is : StandsFor p first x) where
  -- each other node stands for a later node
  later_key : (n : Node) (m : PlannedNode) → Contains rest n → StandsFor p n m → Precedes (key x) (key m)
  later_key n m i h =
      let Later : Node → Type 0 = λ k. Precedes (node_key first) (node_key k) in
      subst (λ r. Precedes (key x) r) (key-stands p n m h)
      (subst (λ r. Precedes r (node_key n)) (key-stands p first x is) (All-contains Later rest n (All-from_recursion Later rest rising.0) i))

  -- the first node stands for the least node
  pub first_is_least : IsLeast key (HasNodeFor p (first ∷ rest)) x
  first_is_least = record {
    member = (first, here rest refl, is);
    least = λ m s l.
        ⊎_elim (λ e. irreflexive (key m) (subst (λ y. Precedes (key m) (key y)) (same_stands p first s.0 x m is s.2 (ap node_key e)) l))
        (λ i. asymmetric (key m) (key x) l (later_key s.0 m i s.2)) (here_or_there rest s.1);
  }

  -- without it the other nodes are shown
  pub rest_stands : (m : PlannedNode) → HasNodeFor p rest m ↔ (HasNodeFor p (first ∷ rest) m × (m ≢ x))
  rest_stands m = (
    (λ s. ((s.0, there rest s.1, s.2), λ e. irreflexive (key x) (subst (λ y. Precedes (key x) (key y)) e (later_key s.0 m s.1 s.2)))),
    (λ s. ⊎_elim (λ e. absurd (s.1 (same_stands p s.0.0 first m x s.0.2 is (ap node_key (sym e))))) (λ i. (s.0.0, i, s.0.2)) (here_or_there rest s.0.1)),
  )

module _ (p : Problem) (old new : List Node) (node : Node) (y : PlannedNode) (all : AllStand p old) (put : IsPut old node new) (is : StandsFor p node y) where
  -- and all nodes stand for nodes
  added_all : AllStand p new
  added_all n c = ⊎_elim (λ e. (y, subst (λ k. StandsFor p k y) (sym e) is)) (λ o. all n o.0) ((put n).0 c)

  -- a node that is put in adds its node
  added_shows : (m : PlannedNode) → HasNodeFor p new m ↔ (HasNodeFor p old m ⊎ (m ≡ y))
  added_shows m = (
    (λ s. ⊎_elim (λ e. inr (same_stands p s.0 node m y s.2 is (ap node_key e))) (λ i. inl (s.0, i.0, s.2)) ((put s.0).0 s.1)),
    ⊎_elim (λ s. by_compare (node_key s.0) (node_key node) (λ e. here_now (same_stands p s.0 node m y s.2 is e)) (λ h. stays s (before_is_other (node_key s.0) (node_key node) h)) (λ h. stays s (λ e. before_is_other (node_key node) (node_key s.0) h (sym e)))) here_now,
  )
    where
      here_now : m ≡ y → HasNodeFor p new m
      here_now e = (node, (put node).1 (inl refl), subst (λ z. StandsFor p node z) (sym e) is)

      stays : (s : HasNodeFor p old m) → node_key s.0 ≢ node_key node → HasNodeFor p new m
      stays s other = (s.0, (put s.0).1 (inr (s.1, other)), s.2)

-- what a list shows once the node of a node is put in, if that has one
pub record AddsSide (p : Problem) (old new : List Node) (side : TreeNode) : Type 0 where
  pub stand : AllStand p new
  pub shows : (m : PlannedNode) → HasNodeFor p new m ↔ (HasNodeFor p old m ⊎ (IsMember p m × (m.0 ≡ side)))

-- the node of this node, or none exactly where the node isn't in the tree
abbrev pub IsNodeOf : Problem → TreeNode → Option Node → Type 0
IsNodeOf p pair None = (plan : List (List ℕ)) → ¬ HasPlan p pair plan
IsNodeOf p pair (Some node) = (plan : List (List ℕ)) × StandsFor p node (pair, plan)

-- so is the root's
pub root_node : (p : Problem) (o : Option Node) → IsRoot p o → IsNodeOf p (root_of p) o
root_node p None h = h
root_node p (Some node) h = h

-- and a side's
side_node : (p : Problem) (x : PlannedNode) (c : Conflict) (s : Side) (o : Option Node) → IsSide p x c s o → IsNodeOf p (side_of x.0 c s) o
side_node p x c s None h = h
side_node p x c s (Some node) h = h

-- the node of a node adds that node, if it is in the tree
pub node_adds : (p : Problem) (old new : List Node) (pair : TreeNode) (o : Option Node) → AllStand p old → IsNodeOf p pair o → IsAddedIfSome old o new → AddsSide p old new pair
node_adds p old new pair None all none e = record {
  stand = subst (AllStand p) (sym e) all;
  shows = λ m. (
    (λ h. inl (subst (λ ns. HasNodeFor p ns m) e h)),
    ⊎_elim (λ h. subst (λ ns. HasNodeFor p ns m) (sym e) h) (λ h. absurd (none m.1 (subst (λ q. HasPlan p q m.1) h.1 h.0.plan))),
  );
}
node_adds p old new pair (Some node) all is put = record {
  stand = added_all p old new node (pair, is.0) all put is.1;
  shows = λ m. (
    (λ h. ⊎_elim inl (λ e. inr (subst (IsMember p) (sym e) is.1.member, ap (λ y. y.0) e)) ((added_shows p old new node (pair, is.0) all put is.1 m).0 h)),
    (λ h. (added_shows p old new node (pair, is.0) all put is.1 m).1
        (⊎_elim inl (λ k. inr (λ i. (k.1 i, same_plan p pair m.1 is.0 (subst (λ q. HasPlan p q m.1) k.1 k.0.plan) is.1.member.plan i))) h)),
  );
}

-- all but the first still show
pub tail_stands : (p : Problem) (first : Node) (rest : List Node) → AllStand p (first ∷ rest) → AllStand p rest
tail_stands p first rest all n c = all n (there rest c)

-- the conflict that a node has is that of its node's plan
pub conflict_stands : (p : Problem) (n : Node) (m : PlannedNode) (c : Conflict) → StandsFor p n m → n.conflict ≡ Some c → IsFirstConflict p.rule m.1 c
conflict_stands p n m c h e = subst (λ plan. IsFirstConflict p.rule plan c) h.plan (let k = subst (λ o. IsConflictOf p.rule n.plan o) e h.conflict in k)

-- a node without a conflict stands for a node whose plan has none
pub none_stands : (p : Problem) (n : Node) (m : PlannedNode) → StandsFor p n m → n.conflict ≡ None → HasNoConflict p.rule m.1
none_stands p n m h e = subst (λ plan. HasNoConflict p.rule plan) h.plan (let k = subst (λ o. IsConflictOf p.rule n.plan o) e h.conflict in k)

-- a node is taken whose plan has no conflict
pub solved_expansion : (p : Problem) (old new : List Node) (first : Node) (x : PlannedNode) → old ≡ first ∷ new → IsRising old → AllStand p old → StandsFor p first x → HasNoConflict p.rule x.1 → ExpandsLeast p old new x
solved_expansion p old new first x e rising all is none =
    record { least = subst (λ ns. IsLeast key (HasNodeFor p ns) x) (sym e) (first_is_least p first new x r is); stand = tail_stands p first new (subst (AllStand p) e all); next = next }
  where
    r : IsRising (first ∷ new)
    r = subst IsRising e rising

    next : (m : PlannedNode) → HasNodeFor p new m ↔ ((HasNodeFor p old m × (m ≢ x)) ⊎ (IsMember p m × IsChild p x m))
    next m = (
      (λ s. let h = (rest_stands p first new x r is m).0 s in inl (subst (λ ns. HasNodeFor p ns m) (sym e) h.0, h.1)),
      ⊎_elim (λ s. (rest_stands p first new x r is m).1 (subst (λ ns. HasNodeFor p ns m) e s.0, s.1)) (λ s. absurd (none s.1.conflict s.1.first.member)),
    )

-- a node is taken, and its sides are put in
pub branched_expansion : (p : Problem) (old rest mid new : List Node) (first : Node) (x : PlannedNode) (c : Conflict) (l r : Option Node) → old ≡ first ∷ rest → IsRising old → AllStand p old → StandsFor p first x → first.conflict ≡ Some c → IsSide p x c Left l → IsSide p x c Right r → IsAddedIfSome rest l mid → IsAddedIfSome mid r new → ExpandsLeast p old new x
branched_expansion p old rest mid new first x c l r e rising all is conflict left right put put' =
    record { least = subst (λ ns. IsLeast key (HasNodeFor p ns) x) (sym e) (first_is_least p first rest x up is); stand = two.stand; next = next }
  where
    up : IsRising (first ∷ rest)
    up = subst IsRising e rising

    one : AddsSide p rest mid (side_of x.0 c Left)
    one = node_adds p rest mid (side_of x.0 c Left) l (tail_stands p first rest (subst (AllStand p) e all)) (side_node p x c Left l left) put

    two : AddsSide p mid new (side_of x.0 c Right)
    two = node_adds p mid new (side_of x.0 c Right) r one.stand (side_node p x c Right r right) put'

    first_conflict : IsFirstConflict p.rule x.1 c
    first_conflict = conflict_stands p first x c is conflict

    next : (m : PlannedNode) → HasNodeFor p new m ↔ ((HasNodeFor p old m × (m ≢ x)) ⊎ (IsMember p m × IsChild p x m))
    next m = (
      (λ s. ⊎_elim (λ k. ⊎_elim early (turned Left) ((one.shows m).0 k)) (turned Right) ((two.shows m).0 s)),
      ⊎_elim back (λ s. on s.1.turn s.0 (s.1.is ∙ same s.1)),
    )
      where
        early : HasNodeFor p rest m → (HasNodeFor p old m × (m ≢ x)) ⊎ (IsMember p m × IsChild p x m)
        early s = let h = (rest_stands p first rest x up is m).0 s in inl (subst (λ ns. HasNodeFor p ns m) (sym e) h.0, h.1)

        turned : (s : Side) → IsMember p m × (m.0 ≡ side_of x.0 c s) → (HasNodeFor p old m × (m ≢ x)) ⊎ (IsMember p m × IsChild p x m)
        turned s h = inr (h.0, record { conflict = c; turn = s; first = first_conflict; is = h.1 })

        same : (h : IsChild p x m) → side_of x.0 h.conflict h.turn ≡ side_of x.0 c h.turn
        same h = ap (λ d. side_of x.0 d h.turn) (same_first p.rule x.1 h.conflict c h.first first_conflict)

        on : (s : Side) → IsMember p m → m.0 ≡ side_of x.0 c s → HasNodeFor p new m
        on Left h k = (two.shows m).1 (inl ((one.shows m).1 (inr (h, k))))
        on Right h k = (two.shows m).1 (inr (h, k))

        back : HasNodeFor p old m × (m ≢ x) → HasNodeFor p new m
        back s = (two.shows m).1 (inl ((one.shows m).1 (inl ((rest_stands p first rest x up is m).1 (subst (λ ns. HasNodeFor p ns m) e s.0, s.1)))))
