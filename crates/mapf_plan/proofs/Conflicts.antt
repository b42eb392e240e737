-- The first conflict of a plan, or none.
use Rattle.std.proofs.Common.{◌≡◌, ◌≢◌, ◌⊎◌, ℕ, ◌<◌, ◌≤◌, ◌+◌, ◌-◌, List, [], ◌∷◌, length, min, max, drop, get_or, set, get_or-set_other, inl, inr, subst, sym, refl, ap, ap₂, ◌∙◌, ⊎_elim, arith, Contains}
use Rattle.std.specs.List.{flat_map}
use Rattle.std.proofs.lemmas.Bool.{cases_lt}
use Rattle.std.proofs.lemmas.List.{length-set, get_or-set_same}
use Rattle.std.proofs.lemmas.List.Sums.{get_or-le-sum_by}
use native.Mathlib.Decide.{ℕ_discrete, dec_le, dec_lt}
use Rattle.mapf_plan.specs.Path.{cost, at}
use Rattle.mapf_plan.specs.declared.conflict.Conflict.{Conflict}
use Rattle.mapf_plan.specs.declared.conflict.Conflict.TheVariants.{Vertex, Swapping, Following}
use Rattle.mapf_plan.specs.declared.rule.Rule.{Rule}
use Rattle.mapf_plan.specs.declared.rule.Rule.TheVariants.{Classical, NoFollowing}
use Rattle.mapf_plan.specs.Plan.{IsConflict, IsFirstConflict, HasNoConflict, conflict_rank, conflict_time, first_agent, second_agent, path_of, place, plan_cost}
use Rattle.mapf_grid.specs.Least.{Precedes, NoneBefore}
use Rattle.mapf_grid.proofs.Decide.{dec_map, dec_and, dec_not}
use Rattle.mapf_grid.proofs.Firsts.{before_place}
use Rattle.mapf_grid.proofs.Ranks.{asymmetric, least_of, same_rank}
use Rattle.mapf_plan.specs.FirstConflict.{IsConflictOfPair}
use Rattle.mapf_grid.proofs.Lists.{below, Contains-below, Contains-flat_map}
use Rattle.mapf_plan.proofs.Paths.{at_past}

-- what holds of two numbers holds of the smaller and of the larger
pub both_of : (P : ℕ → Type 0) (i j : ℕ) → P i → P j → P (min i j) × P (max i j)
both_of P i j hi hj =
    ⊎_elim (λ l. (subst P (lower l) hi, subst P (upper l) hj)) (λ l. (subst P (lower' l) hj, subst P (upper' l) hi)) (cases_lt i j)
  where
    lower : i < j → i ≡ min i j
    lower l = omega (arith, l)

    upper : i < j → j ≡ max i j
    upper l = omega (arith, l)

    lower' : j ≤ i → j ≡ min i j
    lower' l = omega (arith, l)

    upper' : j ≤ i → i ≡ max i j
    upper' l = omega (arith, l)

-- and what holds of the smaller and of the larger holds of both
pub of_both : (P : ℕ → Type 0) (i j : ℕ) → P (min i j) → P (max i j) → P i × P j
of_both P i j low high =
    ⊎_elim (λ l. (subst P (lower l) low, subst P (upper l) high)) (λ l. (subst P (upper' l) high, subst P (lower' l) low)) (cases_lt i j)
  where
    lower : i < j → min i j ≡ i
    lower l = omega (arith, l)

    upper : i < j → max i j ≡ j
    upper l = omega (arith, l)

    lower' : j ≤ i → min i j ≡ j
    lower' l = omega (arith, l)

    upper' : j ≤ i → max i j ≡ i
    upper' l = omega (arith, l)

-- whether following is forbidden can be decided
dec_rule : (rule : Rule) → Dec (rule ≡ NoFollowing)
dec_rule Classical = no (λ e. cc)
dec_rule NoFollowing = yes refl

-- whether a plan has this conflict can be decided
dec_conflict : (rule : Rule) (plan : List (List ℕ)) (c : Conflict) → Dec (IsConflict rule plan c)
dec_conflict rule plan (Vertex t i j v) =
    dec_map (λ h. (h.0, h.1.0, h.1.1.0, h.1.1.1)) (λ h. (h.0, (h.1, (h.2, h.3))))
    (dec_and (dec_lt i j) (dec_and (dec_lt j (length plan)) (dec_and (ℕ_discrete (place plan i t) v) (ℕ_discrete (place plan j t) v))))
dec_conflict rule plan (Swapping t i j u v) =
    dec_map
    (λ h. (h.0, h.1.0, h.1.1.0, h.1.1.1.0, h.1.1.1.1.0, h.1.1.1.1.1.0, h.1.1.1.1.1.1.0, h.1.1.1.1.1.1.1))
    (λ h. (h.0, (h.1, (h.2, (h.3, (h.4, (h.5, (h.6, h.7))))))))
    (dec_and (dec_lt i j) (dec_and (dec_lt j (length plan)) (dec_and (dec_lt 0 t) (dec_and (dec_not (ℕ_discrete u v))
    (dec_and (ℕ_discrete (place plan i (t - 1)) u) (dec_and (ℕ_discrete (place plan i t) v) (dec_and (ℕ_discrete (place plan j (t - 1)) v) (ℕ_discrete (place plan j t) u))))))))
dec_conflict rule plan (Following t i j v) =
    dec_map
    (λ h. (h.0, h.1.0, h.1.1.0, h.1.1.1.0, h.1.1.1.1.0, h.1.1.1.1.1.0, h.1.1.1.1.1.1))
    (λ h. (h.0, (h.1, (h.2, (h.3, (h.4, (h.5, h.6)))))))
    (dec_and (dec_rule rule) (dec_and (dec_not (ℕ_discrete i j)) (dec_and (dec_lt i (length plan)) (dec_and (dec_lt j (length plan))
    (dec_and (dec_lt 0 t) (dec_and (ℕ_discrete (place plan i t) v) (ℕ_discrete (place plan j (t - 1)) v)))))))

-- no path changes its place from the bound on
same_place : (plan : List (List ℕ)) (b i s t : ℕ) → cost (path_of plan i) ≤ b → b ≤ s → b ≤ t → place plan i s ≡ place plan i t
same_place plan b i s t h k l = at_past (path_of plan i) s (omega (arith, h, k)) ∙ sym (at_past (path_of plan i) t (omega (arith, h, l)))

-- of a conflict's agents the first is smaller, and both are the plan's
pub agents_of : (rule : Rule) (plan : List (List ℕ)) (c : Conflict) → IsConflict rule plan c → (first_agent c < second_agent c) × (second_agent c < length plan)
agents_of rule plan (Vertex t i j v) is = (is.0, is.1)
agents_of rule plan (Swapping t i j u v) is = (is.0, is.1)
agents_of rule plan (Following t i j v) is = (omega (arith, is.1), omega (arith, is.2, is.3))

-- a conflict is at most at the bound, or its agents have one at the bound, before it
abbrev IsEarly : Rule → List (List ℕ) → ℕ → Conflict → Type 0
IsEarly rule plan b c =
    (conflict_time c ≤ b) ⊎ ((d : Conflict) × IsConflictOfPair rule plan (first_agent c) (second_agent c) d × (conflict_time d ≡ b) × (conflict_time d < conflict_time c))

-- it is, where both paths end by the bound
early_of : (rule : Rule) (plan : List (List ℕ)) (b : ℕ) (c : Conflict) → cost (path_of plan (first_agent c)) ≤ b → cost (path_of plan (second_agent c)) ≤ b →
    IsConflict rule plan c → IsEarly rule plan b c
early_of rule plan b (Vertex t i j v) hi hj h =
    ⊎_elim
    (λ l. inr (
      Vertex b i j v,
      ((h.0, h.1, same_place plan b i b t hi (omega arith) (omega (arith, l)) ∙ h.2, same_place plan b j b t hj (omega arith) (omega (arith, l)) ∙ h.3), refl, refl),
      refl,
      l,
    ))
    inl (cases_lt b t)
early_of rule plan b (Swapping t i j u v) hi hj h =
    ⊎_elim (λ l. absurd (h.3 (sym h.4 ∙ same_place plan b i (t - 1) t hi (omega (arith, l)) (omega (arith, l)) ∙ h.5))) inl (cases_lt b t)
early_of rule plan b (Following t i j v) hi hj h =
    let costs = of_both (λ k. cost (path_of plan k) ≤ b) i j hi hj in
    ⊎_elim
    (λ l.
    let there : (place plan i b ≡ v) × (place plan j b ≡ v) = (
      same_place plan b i b t costs.0 (omega arith) (omega (arith, l)) ∙ h.5,
      same_place plan b j b (t - 1) costs.1 (omega arith) (omega (arith, l)) ∙ h.6,
    ) in
    let both = both_of (λ k. place plan k b ≡ v) i j there.0 there.1 in
    let agents = agents_of rule plan (Following t i j v) h in
    inr (Vertex b (min i j) (max i j) v, ((agents.0, agents.1, both.0, both.1), refl, refl), refl, l))
    inl (cases_lt b t)

-- and where all paths do
early : (rule : Rule) (plan : List (List ℕ)) (b : ℕ) → ((i : ℕ) → i < length plan → cost (path_of plan i) ≤ b) → (c : Conflict) → IsConflict rule plan c → IsEarly rule plan b c
early rule plan b costs c h =
    let l = agents_of rule plan c h in
    early_of rule plan b c (costs (first_agent c) (omega (arith, l.0, l.1))) (costs (second_agent c) l.1) h

-- a conflict's rank begins with its time
pub by_time : (c : Conflict) → conflict_rank c ≡ conflict_time c ∷ drop 1 (conflict_rank c)
by_time (Vertex t i j v) = refl
by_time (Swapping t i j u v) = refl
by_time (Following t i j v) = refl

-- of two conflicts at different times the earlier one is first
pub before : (c d : Conflict) → conflict_time c < conflict_time d → Precedes (conflict_rank c) (conflict_rank d)
before c d h =
    subst (λ r. Precedes (conflict_rank c) r) (sym (by_time d))
    (subst (λ r. Precedes r (conflict_time d ∷ drop 1 (conflict_rank d))) (sym (by_time c)) (inl h))

-- and the later one isn't
pub not_before : (c d : Conflict) → conflict_time c < conflict_time d → ¬ Precedes (conflict_rank d) (conflict_rank c)
not_before c d h = asymmetric (conflict_rank c) (conflict_rank d) (before c d h)

-- so the first conflict is at most at the bound
pub first_early : (rule : Rule) (plan : List (List ℕ)) (b : ℕ) → ((i : ℕ) → i < length plan → cost (path_of plan i) ≤ b) → (c : Conflict) → IsFirstConflict rule plan c → conflict_time c ≤ b
first_early rule plan b costs c first = ⊎_elim (λ h. h) (λ w. absurd (first.least w.0 w.1.0 (before w.0 c w.3))) (early rule plan b costs c first.member)

module _ (plan : List (List ℕ)) where
  -- the conflicts that two agents may have at a time, the first of them as the follower
  of_pair : ℕ → ℕ → ℕ → List Conflict
  of_pair t i j = Vertex t i j (place plan i t) ∷ Swapping t i j (place plan i (t - 1)) (place plan i t) ∷ Following t i j (place plan i t) ∷ []

  -- those of an agent, and those of all agents
  of_agent : ℕ → ℕ → List Conflict
  of_agent t i = flat_map (of_pair t i) (below (length plan))

  at_time : ℕ → List Conflict
  at_time t = flat_map (of_agent t) (below (length plan))

  -- all that may be a conflict up to a time
  candidates : ℕ → List Conflict
  candidates b = flat_map at_time (below (b + 1))

  -- they hold those of two agents at a time
  at_agents : (b t i j : ℕ) (c : Conflict) → t ≤ b → i < length plan → j < length plan → Contains (of_pair t i j) c → Contains (candidates b) c
  unfolding candidates at_time of_agent
  at_agents b t i j c lt li lj is =
      Contains-flat_map at_time (below (b + 1)) t c (Contains-below (b + 1) t (omega (arith, lt)))
      (Contains-flat_map (of_agent t) (below (length plan)) i c (Contains-below (length plan) i li)
      (Contains-flat_map (of_pair t i) (below (length plan)) j c (Contains-below (length plan) j lj) is))

  -- so they hold each conflict up to the time
  covers : (rule : Rule) (b : ℕ) (c : Conflict) → IsConflict rule plan c × (conflict_time c ≤ b) → Contains (candidates b) c
  unfolding of_pair
  covers rule b (Vertex t i j v) h = at_agents b t i j (Vertex t i j v) h.1 (omega (arith, h.0.0, h.0.1)) h.0.1 (0, omega arith, ap (λ v. Vertex t i j v) h.0.2)
  covers rule b (Swapping t i j u v) h =
      at_agents b t i j (Swapping t i j u v) h.1 (omega (arith, h.0.0, h.0.1)) h.0.1 (1, omega arith, ap₂ (λ u v. Swapping t i j u v) h.0.4 h.0.5)
  covers rule b (Following t i j v) h =
      at_agents b t i j (Following t i j v) h.1 h.0.2 h.0.3 (2, omega arith, ap (λ v. Following t i j v) h.0.5)

-- a plan has a first conflict, or none at any time
pub first_conflict : (rule : Rule) (plan : List (List ℕ)) → ((c : Conflict) × IsFirstConflict rule plan c) ⊎ HasNoConflict rule plan
first_conflict rule plan =
    ⊎_elim
    (λ w. inl (
      w.0,
      record {
        member = w.1.member.0;
        least = λ d k.
            ⊎_elim (λ h. w.1.least d (k, h)) (λ e. not_before w.0 d (omega (arith, w.1.member.1, e.2, e.3))) (by_end d k);
      },
    ))
    (λ f. inr (λ d k. ⊎_elim (λ h. f d (k, h)) (λ e. f e.0 (e.1.0, omega (arith, e.2))) (by_end d k)))
    (least_of conflict_rank (λ c. IsConflict rule plan c × (conflict_time c ≤ plan_cost plan)) (λ c. dec_and (dec_conflict rule plan c) (dec_le (conflict_time c) (plan_cost plan)))
    (candidates plan (plan_cost plan)) (covers plan rule (plan_cost plan)))
  where
    by_end : (d : Conflict) → IsConflict rule plan d → IsEarly rule plan (plan_cost plan) d
    by_end = early rule plan (plan_cost plan) (λ i h. get_or-le-sum_by cost plan i [] h)

-- a plan has one conflict of a rank at most
pub same_conflict_rank : (rule : Rule) (plan : List (List ℕ)) (c d : Conflict) → IsConflict rule plan c → IsConflict rule plan d → conflict_rank c ≡ conflict_rank d → c ≡ d
same_conflict_rank rule plan (Vertex t i j v) (Vertex t' i' j' v') h k e =
    let et : t ≡ t' = cc in let ei : i ≡ i' = cc in let ej : j ≡ j' = cc in
    let ev : v ≡ v' = sym h.2 ∙ ap₂ (λ a b. place plan a b) ei et ∙ k.2 in
    cc
same_conflict_rank rule plan (Swapping t i j u v) (Swapping t' i' j' u' v') h k e =
    let et : t ≡ t' = cc in let ei : i ≡ i' = cc in let ej : j ≡ j' = cc in
    let ev : v ≡ v' = sym h.5 ∙ ap₂ (λ a b. place plan a b) ei et ∙ k.5 in
    let eu : u ≡ u' = sym h.4 ∙ ap₂ (λ a b. place plan a (b - 1)) ei et ∙ k.4 in
    cc
same_conflict_rank rule plan (Following t i j v) (Following t' i' j' v') h k e =
    let et : t ≡ t' = cc in let ei : i ≡ i' = cc in let low : min i j ≡ min i' j' = cc in let high : max i j ≡ max i' j' = cc in
    let ej : j ≡ j' = omega (arith, ei, low, high) in
    let ev : v ≡ v' = sym h.5 ∙ ap₂ (λ a b. place plan a b) ei et ∙ k.5 in
    cc
same_conflict_rank rule plan c d h k e = absurd (omega (arith, ap (λ r. get_or r 1 0) e))

-- a plan has one first conflict at most
pub same_first : (rule : Rule) (plan : List (List ℕ)) (c d : Conflict) → IsFirstConflict rule plan c → IsFirstConflict rule plan d → c ≡ d
same_first rule plan c d h k = same_conflict_rank rule plan c d h.member k.member (same_rank conflict_rank (IsConflict rule plan) c d h k)

-- a conflict up to a time precedes all later ones
pub at_front : (c : Conflict) (b : ℕ) → conflict_time c ≤ b → Precedes (conflict_rank c) ((b + 1) ∷ [])
at_front c b h = subst (λ r. Precedes r ((b + 1) ∷ [])) (sym (by_time c)) (inl (omega (arith, h)))

-- no conflict up to the longest path's end is none at any time
pub none_after : (rule : Rule) (plan : List (List ℕ)) (b t : ℕ) → ((i : ℕ) → i < length plan → cost (path_of plan i) ≤ b) → t ≡ b + 1 → NoneBefore conflict_rank (IsConflict rule plan) (t ∷ []) → HasNoConflict rule plan
none_after rule plan b t costs e none c is =
    let none' = subst (λ s. NoneBefore conflict_rank (IsConflict rule plan) (s ∷ [])) e none in
    ⊎_elim (λ h. none' c is (at_front c b h)) (λ w. none' w.0 w.1.0 (at_front w.0 b (omega (arith, w.2)))) (early rule plan b costs c is)

-- a conflict of an agent is one of a pair: that agent and another of the plan
pub with_another : (rule : Rule) (plan : List (List ℕ)) (agent : ℕ) (c : Conflict) → IsConflict rule plan c → (first_agent c ≡ agent) ⊎ (second_agent c ≡ agent) → (k : ℕ) × (k < length plan) × (k ≢ agent) × IsConflictOfPair rule plan (min agent k) (max agent k) c
with_another rule plan agent c is (inl e) =
    let l = agents_of rule plan c is in
    (second_agent c, l.1, (λ h. omega (arith, h, e, l.0)), (is, omega (arith, e, l.0), omega (arith, e, l.0)))
with_another rule plan agent c is (inr e) =
    let l = agents_of rule plan c is in
    (first_agent c, omega (arith, l.0, l.1), (λ h. omega (arith, h, e, l.0)), (is, omega (arith, e, l.0), omega (arith, e, l.0)))

-- where another path is put in for one agent, the others are where they were
pub other_place : (plan : List (List ℕ)) (agent : ℕ) (path : List ℕ) (k t : ℕ) → k ≢ agent → place plan k t ≡ place (set plan agent path) k t
other_place plan agent path k t n = ap (λ p. at p t) (sym (get_or-set_other plan agent k path [] n))

-- where two plans have a conflict's agents in the same places up to its time, it is a conflict of both
pub stands : (rule : Rule) (plan other : List (List ℕ)) (c : Conflict) → length other ≡ length plan
    → ((t : ℕ) → t ≤ conflict_time c → place plan (first_agent c) t ≡ place other (first_agent c) t)
    → ((t : ℕ) → t ≤ conflict_time c → place plan (second_agent c) t ≡ place other (second_agent c) t) → IsConflict rule other c → IsConflict rule plan c
stands rule plan other (Vertex t i j v) l one two is = (is.0, omega (arith, is.1, l), one t (omega arith) ∙ is.2, two t (omega arith) ∙ is.3)
stands rule plan other (Swapping t i j u v) l one two is = (
  is.0,
  omega (arith, is.1, l),
  is.2,
  is.3,
  one (t - 1) (omega arith) ∙ is.4,
  one t (omega arith) ∙ is.5,
  two (t - 1) (omega arith) ∙ is.6,
  two t (omega arith) ∙ is.7,
)
stands rule plan other (Following t i j v) l one two is =
    let both = of_both (λ k. (s : ℕ) → s ≤ t → place plan k s ≡ place other k s) i j one two in (
      is.0,
      is.1,
      omega (arith, is.2, l),
      omega (arith, is.3, l),
      is.4,
      both.0 t (omega arith) ∙ is.5,
      both.1 (t - 1) (omega arith) ∙ is.6,
    )

-- where the path put in is the agent's own up to a time, all agents are where they were up to it
pub changed_place : (plan : List (List ℕ)) (agent : ℕ) (path : List ℕ) (from k t : ℕ) → agent < length plan → ((s : ℕ) → s < from → at path s ≡ at (path_of plan agent) s) → t < from
    → place plan k t ≡ place (set plan agent path) k t
changed_place plan agent path from k t l same h = go (ℕ_discrete k agent)
  where
    go : Dec (k ≡ agent) → place plan k t ≡ place (set plan agent path) k t
    go (no n) = other_place plan agent path k t n
    go (yes e) = ap (λ a. place plan a t) e ∙ sym (same t h) ∙ ap (λ p. at p t) (sym (get_or-set_same plan agent path [] l)) ∙ ap (λ a. place (set plan agent path) a t) (sym e)

-- and no two of them have a conflict before it, if the plan's first one isn't before it
pub none_before_change : (rule : Rule) (plan : List (List ℕ)) (agent : ℕ) (path : List ℕ) (from : ℕ) (c : Conflict) → agent < length plan → IsFirstConflict rule plan c
    → from ≤ conflict_time c → ((s : ℕ) → s < from → at path s ≡ at (path_of plan agent) s) → NoneBefore conflict_rank (IsConflict rule (set plan agent path)) (from ∷ [])
none_before_change rule plan agent path from c l first h same d is sooner =
    let early : conflict_time d < from = before_place (conflict_time d) from (drop 1 (conflict_rank d)) (subst (λ r. Precedes r (from ∷ [])) (by_time d) sooner) in
    first.least d
    (stands rule plan (set plan agent path) d (length-set plan agent path) (λ t k. changed_place plan agent path from (first_agent d) t l same (omega (arith, k, early)))
    (λ t k. changed_place plan agent path from (second_agent d) t l same (omega (arith, k, early))) is)
    (before d c (omega (arith, early, h)))
