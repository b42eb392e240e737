-- What waits where a node is put in under a key.
use Rattle.std.proofs.Common.{◌≡◌, ◌⊎◌, ℕ, ◌<◌, ◌≤◌, List, [], ◌∷◌, map, Ordering, Less, Equal, Greater, nat_cmp, inl, inr, subst, sym, refl, ap, ap₂, ◌∙◌, ⊎_elim, arith, Contains}
use Rattle.std.specs.BTreeMap.{insert_entry}
use Rattle.std.specs.Ordering.{ordering_then, match_ordering}
use Rattle.std.specs.Cmp.Lexicographic.{slice_cmp}
use Rattle.std.proofs.lemmas.Bool.{cases_order}
use Rattle.std.proofs.lemmas.Bool.Decides.{nat_tests}
use Rattle.mapf_grid.specs.Least.{Precedes}
use Rattle.mapf_grid.proofs.Members.{here, there, here_or_there}
use Rattle.mapf_tree.specs.declared.tree.key.Key.{Key}
use Rattle.mapf_tree.specs.Names.{turn}
use Rattle.mapf_tree.specs.Problem.{Problem}
use Rattle.mapf_tree.specs.Tree.{PlannedNode, HasPlan, IsMember, IsSolution, key_rank}
use Rattle.mapf_tree.specs.Nodes.{StandsFor}
use Rattle.mapf_tree.proofs.Plans.{same_plan}
use Rattle.mapf_tree.proofs.Unique.{same_node, same_turns}
use Rattle.mapf_bounds.specs.Below.{IsBelow}
use Rattle.mapf_bounds.specs.Bounds.{IsOfTree}
use Rattle.mapf_bounds.specs.declared.lower_bound.LowerBound.{LowerBound}
use Rattle.mapf_bounds.specs.Groups.{AreKnownAt}
use Rattle.mapf_bounds.specs.Waiting.{WaitingNode, IsKeyOf, HasEntryFor, AreKeyed, key_cmp, bound_key, IsAdmitted}
use Rattle.mapf_plan.specs.Plan.{plan_cost}

cmp_less : (a b : ℕ) → a < b → nat_cmp a b ≡ Less
cmp_less a b h = grind (arith, nat_tests)

cmp_equal : (a b : ℕ) → a ≡ b → nat_cmp a b ≡ Equal
cmp_equal a b h = grind (arith, nat_tests)

cmp_greater : (a b : ℕ) → b < a → nat_cmp a b ≡ Greater
cmp_greater a b h = grind (arith, nat_tests)

-- lists that std doesn't tell apart are equal
equal_rank : (p q : List ℕ) → slice_cmp nat_cmp p q ≡ Equal → p ≡ q
equal_rank [] [] h = refl
equal_rank [] (b ∷ q) h = cc
equal_rank (a ∷ p) [] h = cc
equal_rank (a ∷ p) (b ∷ q) h = by (equal_rank p q) (cases_order a b)
  where
    by : (slice_cmp nat_cmp p q ≡ Equal → p ≡ q) → (a ≡ b) ⊎ ((a < b) ⊎ (b < a)) → a ∷ p ≡ b ∷ q
    by ih (inl e) = ap₂ (λ x xs. x ∷ xs) e (ih (sym (ap (λ o. ordering_then o (slice_cmp nat_cmp p q)) (cmp_equal a b e)) ∙ h))
    by ih (inr (inl l)) = let z : Less ≡ Equal = sym (ap (λ o. ordering_then o (slice_cmp nat_cmp p q)) (cmp_less a b l)) ∙ h in cc
    by ih (inr (inr l)) = let z : Greater ≡ Equal = sym (ap (λ o. ordering_then o (slice_cmp nat_cmp p q)) (cmp_greater a b l)) ∙ h in cc

-- what std has below isn't preceded
less_first : (p q : List ℕ) → slice_cmp nat_cmp p q ≡ Less → ¬ Precedes q p
less_first [] [] h l = l
less_first [] (b ∷ q) h l = l
less_first (a ∷ p) [] h l = let z : Greater ≡ Less = h in cc
less_first (a ∷ p) (b ∷ q) h (inl l) = let z : Greater ≡ Less = sym (ap (λ o. ordering_then o (slice_cmp nat_cmp p q)) (cmp_greater a b l)) ∙ h in cc
less_first (a ∷ p) (b ∷ q) h (inr (e, l)) = less_first p q (sym (ap (λ o. ordering_then o (slice_cmp nat_cmp p q)) (cmp_equal a b (sym e))) ∙ h) l

-- a lesser key comes first
pub lesser_first : (a b : Key) → key_cmp a b ≡ Less → ¬ Precedes (key_rank b) (key_rank a)
lesser_first a b h = less_first (key_rank a) (key_rank b) h

-- keys that compare equal are equal
same_key : (a b : Key) → key_cmp a b ≡ Equal → a ≡ b
same_key a b h =
    let e : key_rank a ≡ key_rank b = equal_rank (key_rank a) (key_rank b) h in
    let costs : a.cost ≡ b.cost = cc in
    let depths : a.depth ≡ b.depth = cc in
    let turns : map turn a.name ≡ map turn b.name = cc in
    let names : a.name ≡ b.name = same_turns a.name b.name turns in
    λ i. record { cost = costs i; depth = depths i; name = names i }

-- the entry (k, n) among others: put between them, or in the place of one with the same key
pub data Puts (k : Key) (n : WaitingNode) : List (Key × WaitingNode) → List (Key × WaitingNode) → Type 0 where
  added : {es : List (Key × WaitingNode)} → Puts k n es ((k, n) ∷ es)
  replaced : {e : Key × WaitingNode} {es : List (Key × WaitingNode)} → k ≡ e.0 → Puts k n (e ∷ es) ((e.0, n) ∷ es)
  later : {e : Key × WaitingNode} {es new : List (Key × WaitingNode)} → Puts k n es new → Puts k n (e ∷ es) (e ∷ new)

-- a map puts it so
pub puts : (k : Key) (n : WaitingNode) (es : List (Key × WaitingNode)) → Puts k n es (insert_entry key_cmp es k n)
puts k n [] = added
puts k n (e ∷ es) = by (puts k n es) (key_cmp k e.0) refl
  where
    by : Puts k n es (insert_entry key_cmp es k n) → (o : Ordering) → key_cmp k e.0 ≡ o → Puts k n (e ∷ es) (match_ordering o ((k, n) ∷ e ∷ es) ((e.0, n) ∷ es) (e ∷ insert_entry key_cmp es k n))
    by ih Less h = added
    by ih Equal h = replaced (same_key k e.0 h)
    by ih Greater h = later ih

-- it is there
put_in : (k : Key) (n : WaitingNode) (es new : List (Key × WaitingNode)) → Puts k n es new → Contains new (k, n)
put_in k n es _ added = here es refl
put_in k n _ _ (replaced {e = e} {es = es} same) = here es (λ i. (sym same i, n))
put_in k n _ _ (later {e = e} {es = es} {new = new} p) = there new (put_in k n es new p)

-- what is there was there, or is it
came_from : (k : Key) (n : WaitingNode) (es new : List (Key × WaitingNode)) (x : Key × WaitingNode) → Puts k n es new → Contains new x → (x ≡ (k, n)) ⊎ Contains es x
came_from k n es _ x added c = ⊎_elim (λ e. inl (sym e)) inr (here_or_there es c)
came_from k n _ _ x (replaced {e = e} {es = es} same) c = ⊎_elim (λ h. inl (sym h ∙ (λ i. (sym same i, n)))) (λ i. inr (there es i)) (here_or_there es c)
came_from k n _ _ x (later {e = e} {es = es} {new = new} p) c =
    ⊎_elim (λ h. inr (here es h)) (λ i. ⊎_elim inl (λ j. inr (there es j)) (came_from k n es new x p i)) (here_or_there new c)

-- what was there still is, but for one with the same key
stays : (k : Key) (n : WaitingNode) (es new : List (Key × WaitingNode)) (x : Key × WaitingNode) → Puts k n es new → Contains es x → Contains new x ⊎ (k ≡ x.0)
stays k n es _ x added c = inl (there es c)
stays k n _ _ x (replaced {e = e} {es = es} same) c = ⊎_elim (λ h. inr (same ∙ ap (λ y. y.0) h)) (λ i. inl (there es i)) (here_or_there es c)
stays k n _ _ x (later {e = e} {es = es} {new = new} p) c =
    ⊎_elim (λ h. inl (here new h)) (λ i. ⊎_elim (λ j. inl (there new j)) inr (stays k n es new x p i)) (here_or_there es c)

module _ (problem : Problem) where
  -- two nodes of the tree with one name are one
  pub one_node : (m q : PlannedNode) → IsMember problem m → IsMember problem q → m.0.name ≡ q.0.name → m ≡ q
  one_node m q h k e =
      let nodes = same_node problem m.0 q.0 h.inside k.inside e in
      let plans = same_plan problem q.0 m.1 q.1 (subst (λ x. HasPlan problem x m.1) nodes h.plan) k.plan in
      λ i. (nodes i, plans i)

  -- without the first
  pub rest_keyed : (e : Key × WaitingNode) (es : List (Key × WaitingNode)) → AreKeyed problem (e ∷ es) → AreKeyed problem es
  rest_keyed e es are = record { stand = λ x c. are.stand x (there es c); keys = λ x c. are.keys x (there es c); groups = λ x c. are.groups x (there es c) }

  module _ (most : ℕ) (old new : List (Key × WaitingNode)) (b : LowerBound) (w : WaitingNode) (are : AreKeyed problem old) (of : IsOfTree problem w.node) (is : IsKeyOf problem (bound_key b w.node.name) w.node) (known : AreKnownAt problem w.node w.groups) where
    k : Key
    k = bound_key b w.node.name

    put : List (Key × WaitingNode)
    put = insert_entry key_cmp old (bound_key b w.node.name) w

    -- with one more
    pub admitted_keyed : IsAdmitted most old b w new → AreKeyed problem new
    unfolding k put
    admitted_keyed (inr none) = subst (AreKeyed problem) (sym none.1) are
    admitted_keyed (inl e) = subst (AreKeyed problem) (sym e) (record {
      stand = λ x c. ⊎_elim (λ h. subst (λ (y : Key × WaitingNode). IsOfTree problem y.1.node) (sym h) of) (are.stand x) (came_from k w old put x (puts k w old) c);
      keys = λ x c. ⊎_elim (λ h. subst (λ (y : Key × WaitingNode). IsKeyOf problem y.0 y.1.node) (sym h) is) (are.keys x) (came_from k w old put x (puts k w old) c);
      groups = λ x c. ⊎_elim (λ h. subst (λ (y : Key × WaitingNode). AreKnownAt problem y.1.node y.1.groups) (sym h) known) (are.groups x) (came_from k w old put x (puts k w old) c);
    })

    -- what had an entry still has one
    pub admitted_keeps : IsAdmitted most old b w new → (m : PlannedNode) → HasEntryFor problem old m → HasEntryFor problem new m
    unfolding k put
    admitted_keeps (inr none) m has = subst (λ es. HasEntryFor problem es m) (sym none.1) has
    admitted_keeps (inl e) m has = subst (λ es. HasEntryFor problem es m) (sym e) (⊎_elim (λ c. (has.0, c, has.2)) other (stays k w old put has.0 (puts k w old) has.1))
      where
        other : bound_key b w.node.name ≡ has.0.0 → HasEntryFor problem (insert_entry key_cmp old (bound_key b w.node.name) w) m
        other h =
            let names : of.0.0.name ≡ m.0.name = sym (is of.0 of.1).name ∙ ap (λ (l : Key). l.name) h ∙ (are.keys has.0 has.1 m has.2).name in
            let one = one_node of.0 m of.1.member has.2.member names in
            ((bound_key b w.node.name, w), put_in (bound_key b w.node.name) w old (insert_entry key_cmp old (bound_key b w.node.name) w) (puts (bound_key b w.node.name) w old), subst (StandsFor problem w.node) one of.1)

    -- and so has the node that is put in, if a solution is at or below it
    pub admitted_puts : IsAdmitted most old b w new → (m s : PlannedNode) → StandsFor problem w.node m → IsSolution problem s → plan_cost s.1 ≤ most → IsBelow problem m s → HasEntryFor problem new m
    unfolding k put
    admitted_puts (inr none) m s stands solution within below = absurd (omega (arith, none.0, (is m stands).bounded.cost s solution below, within))
    admitted_puts (inl e) m s stands solution within below = subst (λ es. HasEntryFor problem es m) (sym e) ((k, w), put_in k w old put (puts k w old), stands)
