-- Pair conflicts of a plan's conflicts.
use Rattle.std.proofs.Common.{◌≡◌, ◌≢◌, ◌⊎◌, ℕ, ◌<◌, ◌≤◌, List, [], ◌∷◌, length, min, max, set, inl, inr, subst₂, sym, ◌∙◌, ⊎_elim, arith, Contains, MatchOption}
use Rattle.std.specs.Prelude.{Option, Some, None, ⊤}
use Rattle.std.proofs.lemmas.Bool.{cases_lt}
use Rattle.std.proofs.lemmas.List.{length-set}
use Rattle.mapf_grid.specs.Least.{NoneBefore}
use native.Mathlib.Decide.{ℕ_discrete}
use Rattle.mapf_plan.specs.declared.conflict.Conflict.{Conflict}
use Rattle.mapf_plan.specs.declared.pair_conflicts.PairConflict.{PairConflict}
use Rattle.mapf_plan.specs.declared.rule.Rule.{Rule}
use Rattle.mapf_plan.specs.Plan.{IsConflict, IsFirstConflict, conflict_rank, conflict_time, first_agent, second_agent, path_of}
use Rattle.mapf_plan.specs.Collisions.{HaveNoneBefore}
use Rattle.mapf_plan.specs.FirstConflict.{IsConflictOfTwo, IsConflictAt, IsConflictWithout, IsEarlier}
use Rattle.mapf_plan.specs.PairConflicts.{HavePairConflicts, HasAllOf, IsPairConflictOf}
use Rattle.mapf_plan.proofs.Conflicts.{with_another, stands, other_place}
use Rattle.mapf_plan.proofs.collisions.Steps.{earlier_time, first_of_time}
use Rattle.mapf_plan.proofs.collisions.Collisions.{collides_of_two}

-- pair conflicts of all conflicts without an agent and of that agent with each other one are pair conflicts of all
pub all_meet : (rule : Rule) (plan : List (List ℕ)) (agent : ℕ) (ms : List PairConflict) → HavePairConflicts (IsConflictWithout rule plan agent) ms →
    ((k : ℕ) → k < length plan → k ≢ agent → HavePairConflicts (IsConflictOfTwo rule plan agent k) ms) → HavePairConflicts (IsConflict rule plan) ms
all_meet rule plan agent ms without pairs c is = go (ℕ_discrete (first_agent c) agent) (ℕ_discrete (second_agent c) agent)
  where
    of_agent : (first_agent c ≡ agent) ⊎ (second_agent c ≡ agent) → (m : PairConflict) × Contains ms m × IsPairConflictOf c m
    of_agent of = let w = with_another rule plan agent c is of in pairs w.0 w.1 w.2 c w.3

    go : Dec (first_agent c ≡ agent) → Dec (second_agent c ≡ agent) → (m : PairConflict) × Contains ms m × IsPairConflictOf c m
    go (yes e) second = of_agent (inl e)
    go (no n) (yes e) = of_agent (inr e)
    go (no n) (no k) = without c (is, n, k)

-- where an agent has another path, what is left of the old plan's pair conflicts without the agent are pair conflicts of all conflicts without it
pub pair_conflicts_without : (rule : Rule) (plan : List (List ℕ)) (agent : ℕ) (path : List ℕ) (ms left : List PairConflict) → agent < length plan → HavePairConflicts (IsConflict rule plan) ms →
    ((m : PairConflict) → Contains ms m → m.first ≢ agent → m.second ≢ agent → Contains left m) → HavePairConflicts (IsConflictWithout rule (set plan agent path) agent) left
pair_conflicts_without rule plan agent path ms left l meet keeps c is =
    let was =
    stands rule plan (set plan agent path) c (length-set plan agent path) (λ t _. other_place plan agent path (first_agent c) t is.1)
    (λ t _. other_place plan agent path (second_agent c) t is.2) is.0 in
    let w = meet c was in
    (w.0, keeps w.0 w.1 (λ e. is.1 (sym w.2.0 ∙ e)) (λ e. is.2 (sym w.2.1 ∙ e)), w.2)

-- a pair conflict of two agents before which they don't collide is a pair conflict of all their conflicts
pub meet_added : (rule : Rule) (plan : List (List ℕ)) (i j : ℕ) (p q : List ℕ) (ms : List PairConflict) (t : ℕ) → Contains ms (record { first = min i j; second = max i j; time = t })
    → p ≡ path_of plan i → q ≡ path_of plan j → HaveNoneBefore rule p q (Some t) → HavePairConflicts (IsConflictOfTwo rule plan i j) ms
meet_added rule plan i j p q ms t here is_p is_q none c is =
    let none' : HaveNoneBefore rule (path_of plan i) (path_of plan j) (Some t) = subst₂ (λ p q. HaveNoneBefore rule p q (Some t)) is_p is_q none in
    let within : t ≤ conflict_time c = ⊎_elim (λ l. absurd (none' (conflict_time c) l (collides_of_two rule plan i j c is))) (λ h. h) (cases_lt (conflict_time c) t) in
    (record { first = min i j; second = max i j; time = t }, here, (sym is.1, sym is.2, within))

-- two agents that never collide have their pair conflicts in every list
pub meet_never : (rule : Rule) (plan : List (List ℕ)) (i j : ℕ) (p q : List ℕ) (ms : List PairConflict) → p ≡ path_of plan i → q ≡ path_of plan j
    → HaveNoneBefore rule p q None → HavePairConflicts (IsConflictOfTwo rule plan i j) ms
meet_never rule plan i j p q ms is_p is_q none c is =
    absurd (subst₂ (λ p q. HaveNoneBefore rule p q None) is_p is_q none (conflict_time c) (collides_of_two rule plan i j c is))

-- more pair conflicts are pair conflicts of the same conflicts
pub meet_in_more : (S : Conflict → Type 0) (ms more : List PairConflict) → HasAllOf more ms → HavePairConflicts S ms → HavePairConflicts S more
meet_in_more S ms more keeps meet c is = let w = meet c is in (w.0, keeps w.0 w.1, w.2)

-- no conflict is before the least time of the pair conflicts of all
pub none_before_pair_conflicts : (rule : Rule) (plan : List (List ℕ)) (ms : List PairConflict) (t : ℕ) → HavePairConflicts (IsConflict rule plan) ms
    → ((m : PairConflict) → Contains ms m → t ≤ m.time) → NoneBefore conflict_rank (IsConflict rule plan) (t ∷ [])
none_before_pair_conflicts rule plan ms t meet least c is before =
    let w = meet c is in omega (arith, earlier_time t c before, least w.0 w.1, w.2.2)

-- a conflict known to be at that time, before which none of that time is, is the first
pub first_of_known : (rule : Rule) (plan : List (List ℕ)) (t : ℕ) (known : Option Conflict) → NoneBefore conflict_rank (IsConflict rule plan) (t ∷ [])
    → MatchOption known ⊤ (IsConflictAt rule plan t) → ((c : Conflict) → IsConflictAt rule plan t c → ¬ IsEarlier c known)
    → MatchOption known ⊤ (λ c. IsFirstConflict rule plan c)
first_of_known rule plan t None none at first = tt
first_of_known rule plan t (Some d) none at first = first_of_time rule plan t (Some d) none at first
