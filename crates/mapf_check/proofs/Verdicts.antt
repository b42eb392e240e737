-- What a verdict says: a plan without a fault is valid, a verdict's cells are cells of the map, and an answer has one verdict.
use Rattle.std.proofs.Common.{◌≡◌, ◌≢◌, ℕ, ◌+◌, ◌-◌, ◌<◌, min, List, [], ◌∷◌, length, get_or, drop, slice_index, Option, Some, None, MatchOption, inl, subst, sym, refl, ap, ap₂, ◌∙◌, arith}
use Rattle.std.specs.Prelude.{slice_get}
use Rattle.std.specs.List.{AllByRecursion}
use Rattle.std.proofs.lemmas.List.Elements.{All-from_recursion}
use Rattle.std.proofs.lemmas.Option.{slice_get_within, slice_get-get_or, get_or_from_slice_get}
use native.Mathlib.Decide.{ℕ_discrete}
use Rattle.mapf_grid.proofs.Decide.{dec_map, decided}
use Rattle.mapf_grid.proofs.Firsts.{NoneAt, none_before-next}
use Rattle.mapf_grid.proofs.Steps.{dec_next}
use Rattle.mapf_grid.proofs.Ranks.{same_rank}
use Rattle.mapf_grid.specs.Grid.{Next, cells}
use Rattle.mapf_grid.specs.Instance.{Instance}
use Rattle.mapf_grid.specs.InstanceLaws.{IsSound}
use Rattle.mapf_grid.specs.Least.{IsLeast, NoneBefore}
use Rattle.mapf_plan.proofs.Conflicts.{same_conflict_rank}
use Rattle.mapf_plan.proofs.Paths.{at_inside}
use Rattle.mapf_plan.specs.Path.{cost, IsPath}
use Rattle.mapf_plan.specs.Plan.{path_of, place, plan_cost, HasNoConflict, conflict_rank, IsValid}
use Rattle.mapf_plan.specs.declared.answer.Answer.TheVariants as answer
use Rattle.mapf_plan.specs.declared.conflict.Conflict.{Conflict}
use Rattle.mapf_plan.specs.declared.conflict.Conflict.TheVariants.{Vertex, Swapping, Following}
use Rattle.mapf_plan.specs.declared.rule.Rule.{Rule}
use Rattle.mapf_check.specs.declared.verdict.Verdict.{Verdict}
use Rattle.mapf_check.specs.declared.verdict.Verdict.TheVariants as verdict
use Rattle.mapf_check.specs.Positions.{IsOnMap, HasPositions}
use Rattle.mapf_check.specs.Verdict.{HasPath, HasFault, NoFaultBefore, IsPlanVerdict, HasOneVerdict, verdict_rank}

-- whether a path's first cell is this one can be decided
dec_first : (o : Option ℕ) (c : ℕ) → Dec (o ≡ Some c)
dec_first None c = no (λ e. cc)
dec_first (Some d) c = dec_map (λ e. ap Some e) (λ e. cc) (ℕ_discrete d c)

-- what stands where there is no value
pub at_none : {A : Type 0} (o : Option A) (P : Type 0) (Q : A → Type 0) → MatchOption o P Q → ((x : A) → o ≡ Some x → ⊥) → P
at_none None P Q h not_some = h
at_none (Some x) P Q h not_some = absurd (not_some x refl)

module _ (rule : Rule) (inst : Instance) (plan : List (List ℕ)) where
  -- without a conflict there is no fault before the cost
  none_before_costs : NoFaultBefore inst plan (66 ∷ []) → HasNoConflict rule plan → (stated : ℕ) → NoneBefore verdict_rank (HasFault rule inst plan stated) (67 ∷ [])
  none_before_costs none apart stated = none_before-next verdict_rank (HasFault rule inst plan stated) [] 66 (none rule stated) no_conflict
    where
      no_conflict : NoneAt verdict_rank (HasFault rule inst plan stated) (66 ∷ [])
      no_conflict (verdict.Conflict c) q h e = apart c h
      no_conflict v q h e = omega (arith, ap (λ r. get_or r 0 0) e)

  -- the first fault is the verdict
  pub fault_is_verdict : (stated : ℕ) (v : Verdict) → IsLeast verdict_rank (HasFault rule inst plan stated) v → IsPlanVerdict rule inst plan stated v
  fault_is_verdict stated (verdict.Valid c) first = absurd first.member
  fault_is_verdict stated v first = first

  -- without the fault 61 each agent has a path
  counted : (stated k : ℕ) (q : List ℕ) → 61 < k → NoneBefore verdict_rank (HasFault rule inst plan stated) (k ∷ q) → length plan ≡ length inst.starts
  counted stated k q lo none =
      decided (ℕ_discrete (length plan) (length inst.starts)) (λ n. none (verdict.AgentCount (length plan)) (refl, n) (inl lo))

  -- without the fault 62 its path begins on its start
  begun : (stated k : ℕ) (q : List ℕ) → 62 < k → NoneBefore verdict_rank (HasFault rule inst plan stated) (k ∷ q) → (i : ℕ) → HasPath inst plan i →
      slice_get (path_of plan i) 0 ≡ Some (slice_index inst.starts i)
  begun stated k q lo none i h =
      decided (dec_first (slice_get (path_of plan i) 0) (slice_index inst.starts i)) (λ n. none (verdict.WrongStart i) (h, n) (inl lo))

  -- without the faults 62 to 65 an agent's path is one from its start to its goal
  path_lem : IsSound inst → ((stated : ℕ) → NoneBefore verdict_rank (HasFault rule inst plan stated) (67 ∷ [])) → (i : ℕ) → HasPath inst plan i →
      IsPath inst.grid (slice_index inst.starts i) (slice_index inst.goals i) (path_of plan i)
  path_lem agents none i h = record {
    some = some;
    starts = at_inside (path_of plan i) 0 some ∙ get_or_from_slice_get (path_of plan i) 0 (slice_index inst.starts i) 0 first;
    ends = decided (ℕ_discrete (place plan i (cost (path_of plan i))) (slice_index inst.goals i)) (λ n. none 0 (verdict.WrongEnd i) (h, n) (inl (omega arith)));
    free = agents.starts_free i h.0;
    steps = λ t l. decided (dec_next inst.grid (place plan i t) (place plan i (t + 1))) (no_step t l);
    arrives = arrives;
  }
    where
      first : slice_get (path_of plan i) 0 ≡ Some (slice_index inst.starts i)
      first = begun 0 67 [] (omega arith) (none 0) i h

      some : 0 < length (path_of plan i)
      some = slice_get_within (path_of plan i) 0 (slice_index inst.starts i) first

      no_step : (t : ℕ) → t < cost (path_of plan i) → ¬ (¬ Next inst.grid (place plan i t) (place plan i (t + 1)))
      no_step t l n =
          let same : t ≡ t + 1 - 1 = omega arith in
          let bad : ¬ Next inst.grid (place plan i (t + 1 - 1)) (place plan i (t + 1)) =
          subst (λ u. ¬ Next inst.grid (place plan i u) (place plan i (t + 1))) same n in
          none 0 (verdict.BadStep i (t + 1)) (h, omega arith, omega (arith, l), bad) (inl (omega arith))

      arrives : (t : ℕ) → t + 1 ≡ cost (path_of plan i) → place plan i t ≢ slice_index inst.goals i
      arrives t e on =
          let same : t ≡ cost (path_of plan i) - 1 = omega (arith, e) in
          none 0 (verdict.EndsLate i) (h, omega (arith, e), subst (λ u. place plan i u ≡ slice_index inst.goals i) same on) (inl (omega arith))

  -- without a fault but the cost the plan is valid
  pub faultless_is_valid : IsSound inst → NoFaultBefore inst plan (66 ∷ []) → HasNoConflict rule plan → IsValid rule inst plan
  faultless_is_valid agents before none_apart = record {
    agents = count;
    paths = λ i l. path_lem agents none i (l, omega (arith, l, count));
    no_conflict = none_apart;
  }
    where
      none : (stated : ℕ) → NoneBefore verdict_rank (HasFault rule inst plan stated) (67 ∷ [])
      none = none_before_costs before none_apart

      count : length plan ≡ length inst.starts
      count = counted 0 67 [] (omega arith) (none 0)

  -- a place of a path that isn't empty is one of its cells
  place_below : (n i t : ℕ) → AllByRecursion (AllByRecursion (λ c. c < n)) plan → i < length plan → 0 < length (path_of plan i) → place plan i t < n
  place_below n i t all l some =
      let path : AllByRecursion (λ c. c < n) (path_of plan i) = All-from_recursion (AllByRecursion (λ c. c < n)) plan all i [] l in
      All-from_recursion (λ c. c < n) (path_of plan i) path (min t (cost (path_of plan i))) 0 (omega (arith, some))

  -- a conflict that is the first fault is on cells of the map
  conflict_cells : (stated : ℕ) (c : Conflict) → AllByRecursion (AllByRecursion (λ c. c < cells inst.grid)) plan →
      IsLeast verdict_rank (HasFault rule inst plan stated) (verdict.Conflict c) → IsOnMap inst.grid c
  conflict_cells stated (Vertex t i j v) all first =
      let count = counted stated 66 (conflict_rank (Vertex t i j v)) (omega arith) first.least in
      let l : i < length plan = omega (arith, first.member.0, first.member.1) in
      let begin = begun stated 66 (conflict_rank (Vertex t i j v)) (omega arith) first.least i (omega (arith, l, count), l) in
      subst (λ c. c < cells inst.grid) first.member.2
      (place_below (cells inst.grid) i t all l (slice_get_within (path_of plan i) 0 (slice_index inst.starts i) begin))
  conflict_cells stated (Swapping t i j u v) all first =
      let count = counted stated 66 (conflict_rank (Swapping t i j u v)) (omega arith) first.least in
      let l : i < length plan = omega (arith, first.member.0, first.member.1) in
      let begin = begun stated 66 (conflict_rank (Swapping t i j u v)) (omega arith) first.least i (omega (arith, l, count), l) in
      let some = slice_get_within (path_of plan i) 0 (slice_index inst.starts i) begin in (
        subst (λ c. c < cells inst.grid) first.member.4 (place_below (cells inst.grid) i (t - 1) all l some),
        subst (λ c. c < cells inst.grid) first.member.5 (place_below (cells inst.grid) i t all l some),
      )
  conflict_cells stated (Following t i j v) all first =
      let count = counted stated 66 (conflict_rank (Following t i j v)) (omega arith) first.least in
      let l = first.member.2 in
      let begin = begun stated 66 (conflict_rank (Following t i j v)) (omega arith) first.least i (omega (arith, l, count), l) in
      subst (λ c. c < cells inst.grid) first.member.5
      (place_below (cells inst.grid) i t all l (slice_get_within (path_of plan i) 0 (slice_index inst.starts i) begin))

  -- the positions of a verdict are cells of the map, where those of the plan are
  pub plan_positions : (stated : ℕ) (v : Verdict) → IsPlanVerdict rule inst plan stated v → AllByRecursion (AllByRecursion (λ c. c < cells inst.grid)) plan →
      HasPositions inst.grid v
  plan_positions stated (verdict.Conflict c) first all = conflict_cells stated c all first
  plan_positions stated v first all = tt

  -- a valid plan has no fault but the cost
  valid_without_fault : (stated : ℕ) (v : Verdict) → IsValid rule inst plan → plan_cost plan ≡ stated → ¬ HasFault rule inst plan stated v
  valid_without_fault stated (verdict.Valid c) valid e h = h
  valid_without_fault stated verdict.NoPlanGiven valid e h = h
  valid_without_fault stated (verdict.AgentCount n) valid e h = h.1 (h.0 ∙ valid.agents)
  valid_without_fault stated (verdict.WrongStart i) valid e h =
      let path = valid.paths i h.0.0 in
      h.1 (slice_get-get_or (path_of plan i) 0 0 path.some ∙ ap Some (sym (at_inside (path_of plan i) 0 path.some) ∙ path.starts))
  valid_without_fault stated (verdict.BadStep i t) valid e h =
      let step = (valid.paths i h.0.0).steps (t - 1) (omega (arith, h.1, h.2)) in
      let same : t - 1 + 1 ≡ t = omega (arith, h.1) in
      h.3 (subst (λ u. Next inst.grid (place plan i (t - 1)) (place plan i u)) same step)
  valid_without_fault stated (verdict.WrongEnd i) valid e h = h.1 (valid.paths i h.0.0).ends
  valid_without_fault stated (verdict.EndsLate i) valid e h = (valid.paths i h.0.0).arrives (cost (path_of plan i) - 1) (omega (arith, h.1)) h.2
  valid_without_fault stated (verdict.Conflict c) valid e h = valid.no_conflict c h
  valid_without_fault stated (verdict.WrongCost s found) valid e h = h.2 (sym e)

  -- a valid plan of the stated cost has that verdict alone
  valid_alone : (stated c : ℕ) (v : Verdict) → IsPlanVerdict rule inst plan stated (verdict.Valid c) → IsPlanVerdict rule inst plan stated v → verdict.Valid c ≡ v
  valid_alone stated c (verdict.Valid d) is other = ap verdict.Valid (is.2 ∙ sym other.2)
  valid_alone stated c v is other = absurd (valid_without_fault stated v is.0 is.1 other.member)

  -- a fault is known by its rank
  same_fault : (stated : ℕ) (v w : Verdict) → HasFault rule inst plan stated v → HasFault rule inst plan stated w → verdict_rank v ≡ verdict_rank w → v ≡ w
  same_fault stated (verdict.Valid c) w h g e = absurd h
  same_fault stated verdict.NoPlanGiven w h g e = absurd h
  same_fault stated (verdict.AgentCount m) (verdict.AgentCount n) h g e = ap verdict.AgentCount (h.0 ∙ sym g.0)
  same_fault stated (verdict.WrongStart i) (verdict.WrongStart j) h g e = cc
  same_fault stated (verdict.BadStep i s) (verdict.BadStep j t) h g e = cc
  same_fault stated (verdict.WrongEnd i) (verdict.WrongEnd j) h g e = cc
  same_fault stated (verdict.EndsLate i) (verdict.EndsLate j) h g e = cc
  same_fault stated (verdict.Conflict c) (verdict.Conflict d) h g e = ap verdict.Conflict (same_conflict_rank rule plan c d h g (ap (drop 1) e))
  same_fault stated (verdict.WrongCost s m) (verdict.WrongCost t n) h g e =
      ap₂ (λ a b. verdict.WrongCost a b) (h.0 ∙ sym g.0) (h.1 ∙ sym g.1)
  same_fault stated v (verdict.Valid c) h g e = absurd g
  same_fault stated v verdict.NoPlanGiven h g e = absurd g
  same_fault stated v w h g e = absurd (omega (arith, ap (λ r. get_or r 0 0) e))

  -- a verdict that isn't Valid is the first fault
  one_plan_verdict : (stated : ℕ) (v w : Verdict) → IsPlanVerdict rule inst plan stated v → IsPlanVerdict rule inst plan stated w → v ≡ w
  one_plan_verdict stated (verdict.Valid c) w first second = valid_alone stated c w first second
  one_plan_verdict stated v (verdict.Valid c) first second = sym (valid_alone stated c v second first)
  one_plan_verdict stated v w first second =
      same_fault stated v w first.member second.member (same_rank verdict_rank (HasFault rule inst plan stated) v w first second)

-- an answer has one verdict
pub one_verdict_lem : HasOneVerdict
one_verdict_lem rule inst (answer.None bound) v w first second = first ∙ sym second
one_verdict_lem rule inst (answer.GaveUp nodes least) v w first second = first ∙ sym second
one_verdict_lem rule inst (answer.Plan plan stated) v w first second = one_plan_verdict rule inst plan stated v w first second
