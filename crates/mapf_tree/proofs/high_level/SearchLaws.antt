-- The steps of a search.
use Rattle.mapf_tree.proofs.Prelude.{◌≡◌, ◌≢◌, ◌⊎◌, ◌↔◌, ℕ, zero, suc, ◌<◌, ◌≤◌, List, [], ◌∷◌, length, get_or, set, Option, Some, None, inl, inr, subst, sym, refl, ap, ◌∙◌, ⊎_elim, arith, length-append, Contains, cases_lt, by_compare, irreflexive, transitive, dec_precedes, le_before, by_cases, dec_not, own_path_costs}
use Rattle.mapf_tree.specs.Prelude.{Precedes, IsLeast, cost, Conflict, HasNoConflict, path_of, plan_cost, Constraint, Obeys, Problem, Side, TreeNode, HasPlan, InTree, root, side, side_of, constraint_on, agent_on, root_of, key, IsFirstSolution, IsAnswer, PlannedNode, IsMember, IsReached, IsChild, IsWaiting, IsSearchAt, Expands, TakesNext, EndsAtAnswer, SearchStarts}
use Rattle.mapf_grid.proofs.Lists.{sum_by-le}
use Rattle.mapf_tree.proofs.Plans.{AllowedAt}
use Rattle.mapf_tree.proofs.Unique.{same_member}

-- a path that obeys a side obeys the node
pub obeys_fewer : (cs : List (List Constraint)) (a i : ℕ) (x : Constraint) (q : List ℕ) → Obeys (get_or (set cs a (x ∷ get_or cs a [])) i []) q → Obeys (get_or cs i []) q
obeys_fewer [] a i x q h = h
obeys_fewer (c ∷ cs) zero zero x q h = h.1
obeys_fewer (c ∷ cs) zero (suc i) x q h = h
obeys_fewer (c ∷ cs) (suc a) zero x q h = h
obeys_fewer (c ∷ cs) (suc a) (suc i) x q h = obeys_fewer cs a i x q h

module _ (problem : Problem) where
  -- a side costs no less than the node
  side_costs : (p : TreeNode) (c : Conflict) (s : Side) (a b : List (List ℕ)) → HasPlan problem p a → HasPlan problem (side_of p c s) b → plan_cost a ≤ plan_cost b
  side_costs p c s a b h k =
      sum_by-le cost [] a b (h.agents ∙ sym k.agents)
      (λ i l. let n = subst (λ m. i < m) h.agents l in own_path_costs _ _ _ _ _ _ _ (h.own i n) (fewer i n))
    where
      fewer : (i : ℕ) → i < length problem.inst.starts → AllowedAt problem p i (path_of b i)
      fewer i n =
          let m = (k.own i n).member in
          record { path = m.path; within = m.within; obeys = obeys_fewer p.constraints (agent_on c s) i (constraint_on c s) (path_of b i) m.obeys }

  -- each child comes after its parent
  pub parent_before : (p c : PlannedNode) → IsMember problem p → IsMember problem c → IsChild problem p c → Precedes (key p) (key c)
  parent_before p c m n h =
      let costs = side_costs p.0 h.conflict h.turn p.1 c.1 m.plan (subst (λ x. HasPlan problem x c.1) h.is n.plan) in
      let deeper : length p.0.name < length c.0.name = omega (arith, ap (λ x. length x.name) h.is, length-append p.0.name (h.turn ∷ [])) in
      ⊎_elim inl (λ l. inr (omega (arith, l, costs), inl deeper)) (cases_lt (plan_cost p.1) (plan_cost c.1))

  -- whether a node was reached can be decided
  pub dec_reached : (last : Option (List ℕ)) (m : PlannedNode) → Dec (IsReached last m)
  dec_reached None m = no (λ h. h)
  dec_reached (Some l) m = dec_not (dec_precedes l (key m))

  -- what isn't reached is at or below one that waits, whose key is at most its own
  pub waits_above : (last : Option (List ℕ)) (p : TreeNode) (plan : List (List ℕ)) → InTree problem p → HasPlan problem p plan → ¬ IsReached last (p, plan) → (w : PlannedNode) × IsWaiting problem last w × (¬ Precedes (key (p, plan)) (key w))
  waits_above last _ plan (root h) has n =
      ((root_of problem, plan), record { member = record { inside = root h; plan = has }; open_yet = n; from = inl refl }, irreflexive (key (root_of problem, plan)))
  waits_above last _ plan (side {node = p} {plan = a} {c = c} s i h f k) has n = go (waits_above last p a i h) (dec_reached last (p, a))
    where
      parent : IsMember problem (p, a)
      parent = record { inside = i; plan = h }

      child : IsMember problem (side_of p c s, plan)
      child = record { inside = side s i h f k; plan = has }

      is : IsChild problem (p, a) (side_of p c s, plan)
      is = record { conflict = c; turn = s; first = f; is = refl }

      go : (¬ IsReached last (p, a) → (w : PlannedNode) × IsWaiting problem last w × (¬ Precedes (key (p, a)) (key w))) → Dec (IsReached last (p, a)) → (w : PlannedNode) × IsWaiting problem last w × (¬ Precedes (key (side_of p c s, plan)) (key w))
      go up (yes r) = ((side_of p c s, plan), record { member = child; open_yet = n; from = inr ((p, a), parent, r, is) }, irreflexive (key (side_of p c s, plan)))
      go up (no r) =
          let w = up r in
          (w.0, w.1, λ l. w.2 (transitive (key (p, a)) (key (side_of p c s, plan)) (key w.0) (parent_before (p, a) (side_of p c s, plan) parent child is) l))

  module _ (last : Option (List ℕ)) (Waits : PlannedNode → Type 0) (x : PlannedNode) (at : IsSearchAt problem last Waits) (least : IsLeast key Waits x) where
    -- x waits
    pub x_waits : IsWaiting problem last x
    x_waits = (at.waits x).0 least.member

    -- nothing in the tree lies between
    pub none_between : (m : PlannedNode) → IsMember problem m → ¬ IsReached last m → ¬ Precedes (key m) (key x)
    none_between m h n l =
        let w = waits_above last m.0 m.1 h.inside h.plan n in
        least.least w.0 ((at.waits w.0).1 w.1) (le_before (key w.0) (key m) (key x) w.2 l)

    -- what was reached before is at most x
    pub still : (last : Option (List ℕ)) → ¬ IsReached last x → (m : PlannedNode) → IsReached last m → ¬ Precedes (key x) (key m)
    still None n m r l = r
    still (Some k) n m r l = n (λ h. r (transitive k (key x) (key m) h l))

    -- what is reached now was reached before, or is x
    pub reached_now : (m : PlannedNode) → IsMember problem m → IsReached (Some (key x)) m → IsReached last m ⊎ (m ≡ x)
    reached_now m h r =
        by_cases (dec_reached last m) inl (λ n. inr
        (by_compare (key m) (key x) (same_member problem m x h x_waits.member) (λ l. absurd (none_between m h n l)) (λ l. absurd (r l))))

    -- and the other way round
    pub reached_then : (m : PlannedNode) → IsReached last m ⊎ (m ≡ x) → IsReached (Some (key x)) m
    reached_then m (inl r) = still last x_waits.open_yet m r
    reached_then m (inr e) = λ l. irreflexive (key x) (subst (λ y. Precedes (key x) (key y)) e l)

    -- what waits then waited before and isn't x, or is a side of x
    pub next_waits : (Next : PlannedNode → Type 0) → Expands problem Waits x Next → (m : PlannedNode) → Next m ↔ IsWaiting problem (Some (key x)) m
    next_waits Next is m = ((λ c. ⊎_elim old new ((is m).0 c)), (λ w. (is m).1 (back w)))
      where
        old : Waits m × (m ≢ x) → IsWaiting problem (Some (key x)) m
        old c =
            let w = (at.waits m).0 c.0 in
            record {
              member = w.member;
              open_yet = λ r. ⊎_elim w.open_yet c.1 (reached_now m w.member r);
              from = ⊎_elim inl (λ p. inr (p.0, p.1, reached_then p.0 (inl p.2), p.3)) w.from;
            }

        new : IsMember problem m × IsChild problem x m → IsWaiting problem (Some (key x)) m
        new c = record { member = c.0; open_yet = λ r. r (parent_before x m x_waits.member c.0 c.1); from = inr (x, x_waits.member, reached_then x (inr refl), c.1) }

        back : IsWaiting problem (Some (key x)) m → (Waits m × (m ≢ x)) ⊎ (IsMember problem m × IsChild problem x m)
        back w =
            ⊎_elim (λ e. inl (waited (inl e)))
            (λ p. ⊎_elim (λ r. inl (waited (inr (p.0, p.1, r, p.3)))) (λ e. inr (w.member, subst (λ y. IsChild problem y m) e p.3)) (reached_now p.0 p.1 p.2)) w.from
          where
            waited : (m.0 ≡ root_of problem) ⊎ ((p : PlannedNode) × IsMember problem p × IsReached last p × IsChild problem p m) → Waits m × (m ≢ x)
            waited from =
                ((at.waits m).1 (record { member = w.member; open_yet = λ r. w.open_yet (reached_then m (inl r)); from = from }), λ e. w.open_yet (reached_then m (inr e)))

    -- so the search goes on
    takes_next : (Next : PlannedNode → Type 0) → ¬ HasNoConflict problem.rule x.1 → Expands problem Waits x Next → IsSearchAt problem (Some (key x)) Next
    takes_next Next conflict is =
        record { waits = next_waits Next is; none_yet = λ m h r. ⊎_elim (at.none_yet m h) (λ e n. conflict (subst (λ y. HasNoConflict problem.rule y.1) e n)) (reached_now m h r) }

    -- all that comes before x is reached, and no solution
    pub ends_at_first : HasNoConflict problem.rule x.1 → IsFirstSolution problem x
    ends_at_first none =
        record {
          member = record { planned = x_waits.member; no_conflict = none };
          least = λ y s l. by_cases (dec_reached last y) (λ r. at.none_yet y s.planned r s.no_conflict) (λ n. none_between y s.planned n l);
        }

  -- if none waits, all of the tree is reached
  pub ends_at_none : (last : Option (List ℕ)) (Waits : PlannedNode → Type 0) → IsSearchAt problem last Waits → ((x : PlannedNode) → ¬ Waits x) → IsAnswer problem None
  ends_at_none last Waits at empty y s =
      by_cases (dec_reached last y) (λ r. at.none_yet y s.planned r s.no_conflict)
      (λ n. let w = waits_above last y.0 y.1 s.planned.inside s.planned.plan n in empty w.0 ((at.waits w.0).1 w.1))

  -- nothing is reached, so the root alone waits
  pub starts : (Waits : PlannedNode → Type 0) → ((m : PlannedNode) → Waits m ↔ (IsMember problem m × (m.0 ≡ root_of problem))) → IsSearchAt problem None Waits
  starts Waits is = record {
    waits = λ m. (
      (λ c. let h = (is m).0 c in record { member = h.0; open_yet = λ r. r; from = inl h.1 }),
      (λ w. (is m).1 (w.member, ⊎_elim (λ e. e) (λ p. absurd p.2) w.from)),
    );
    none_yet = λ m h r. absurd r;
  }

-- the next node is taken
pub next_law : TakesNext
next_law problem last waiting next x at least conflict is = (
  takes_next problem last (Contains waiting) x at least (Contains next) conflict is,
  λ m h. (reached_now problem last (Contains waiting) x at least m h, reached_then problem last (Contains waiting) x at least m),
)

-- a search ends at the answer
pub end_law : EndsAtAnswer
end_law problem last waiting at = ((λ x least none. ends_at_first problem last (Contains waiting) x at least none), ends_at_none problem last (Contains waiting) at)

-- a search starts at the root
pub start_law : SearchStarts
start_law problem waiting is = starts problem (Contains waiting) is
