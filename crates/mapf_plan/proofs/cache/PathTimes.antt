-- What is known of when agents on two paths have their first conflict.
use Rattle.std.proofs.Common.{◌≡◌, ◌≢◌, ◌⊎◌, ℕ, zero, suc, ◌<◌, List, [], ◌∷◌, ◌++◌, length, length-append, min, max, set, inl, inr, refl, subst, subst₂, sym, ap, ◌∙◌, arith, Contains, get_or-set_same, get_or-set_other}
use Rattle.std.specs.Prelude.{slice_index, slice_get, Option, Some, None}
use Rattle.std.proofs.lemmas.List.{length-set, length-map, get_or-map, get_or_append_left}
use native.Mathlib.Decide.{ℕ_discrete}
use Rattle.mapf_plan.specs.declared.cache.first_times.FirstTime.{FirstTime}
use Rattle.mapf_plan.specs.declared.cache.first_times.FirstTime.TheVariants.{Unknown, Never, At}
use Rattle.mapf_plan.specs.declared.pair_conflicts.PairConflict.{PairConflict}
use Rattle.mapf_plan.specs.declared.rule.Rule.{Rule}
use Rattle.mapf_plan.specs.Plan.{path_of, IsConflict, first_agent, second_agent}
use Rattle.mapf_plan.specs.FirstConflict.{IsConflictOfTwo, IsConflictWithout}
use Rattle.mapf_plan.specs.Collisions.{HaveNoneBefore}
use Rattle.mapf_plan.specs.PairConflicts.{HavePairConflicts, HasAllOf}
use Rattle.mapf_plan.specs.KnownPaths.{KnownPaths, plan_of, row_in, time_in, known_time, IsRight, AreRight, IsSetTime, IsKept, AreKept, IsAdded, AreMet}
use Rattle.mapf_plan.proofs.Conflicts.{agents_of}
use Rattle.mapf_plan.proofs.collisions.Collisions.{either_order}
use Rattle.mapf_plan.proofs.collisions.OfPairConflicts.{all_meet, pair_conflicts_without, meet_added, meet_never, meet_in_more}

-- each row is as it was, or is the one of which an entry was set
pub row_set : (rows more : List (List FirstTime)) (row next : List FirstTime) (one other : ℕ) (time : FirstTime) → one < length more → ((i : ℕ) → row_in more i ≡ row_in rows i)
    → row ≡ row_in more one → IsSetTime row next other time → IsKept rows (set more one next) one other time
row_set rows more row next one other time inside same is sets i = go (ℕ_discrete i one)
  where
    go : Dec (i ≡ one) → (row_in (set more one next) i ≡ row_in rows i) ⊎ ((i ≡ one) × IsSetTime (row_in rows i) (row_in (set more one next) i) other time)
    go (yes e) = inr (e, subst₂ (λ r n. IsSetTime r n other time) (is ∙ same one ∙ ap (λ k. row_in rows k) (sym e)) (sym (get_or-set_same more one next [] inside) ∙ ap (λ k. row_in (set more one next) k) (sym e)) sets)
    go (no n) = inl (get_or-set_other more one i next [] n ∙ same i)

-- a path keeps its number where another is added
pub number_stays : (paths : List (List ℕ)) (path known : List ℕ) (n : ℕ) → slice_get paths n ≡ Some known → slice_get (paths ++ path ∷ []) n ≡ Some known
number_stays [] path known n at = cc
number_stays (p ∷ paths) path known zero at = at
number_stays (p ∷ paths) path known (suc n) at = number_stays paths path known n at

-- and that has the next number
pub number_added : (paths : List (List ℕ)) (path : List ℕ) → slice_get (paths ++ path ∷ []) (length paths) ≡ Some path
number_added [] path = refl
number_added (p ∷ paths) path = number_added paths path

-- what a right table says of two paths is right
pub right_at : (rule : Rule) (paths : List (List ℕ)) (rows : List (List FirstTime)) (row : List FirstTime) (one other : ℕ) (time : FirstTime) → AreRight rule paths rows → row ≡ row_in rows one → time ≡ time_in row other
    → IsRight rule paths one other time
right_at rule paths rows row one other time are is at = subst (IsRight rule paths one other) (sym (at ∙ ap (λ r. time_in r other) is)) (are one other)

-- what is found of two paths is right once it is known
pub right_found : (rule : Rule) (paths : List (List ℕ)) (one other : ℕ) (found : Option ℕ) → one < length paths → other < length paths → HaveNoneBefore rule (path_of paths one) (path_of paths other) found
    → IsRight rule paths one other (known_time found)
right_found rule paths one other None l h none = (l, h, none)
right_found rule paths one other (Some t) l h none = (l, h, none)

-- and stays so where a path is added
right_in_more : (rule : Rule) (paths : List (List ℕ)) (path : List ℕ) (one other : ℕ) (time : FirstTime) → IsRight rule paths one other time → IsRight rule (paths ++ path ∷ []) one other time
right_in_more rule paths path one other Unknown is = tt
right_in_more rule paths path one other Never is = (
  omega (arith, length-append paths (path ∷ []), is.0),
  omega (arith, length-append paths (path ∷ []), is.1),
  subst₂ (λ p q. HaveNoneBefore rule p q None) (sym (get_or_append_left paths (path ∷ []) [] one is.0)) (sym (get_or_append_left paths (path ∷ []) [] other is.1)) is.2,
)
right_in_more rule paths path one other (At t) is = (
  omega (arith, length-append paths (path ∷ []), is.0),
  omega (arith, length-append paths (path ∷ []), is.1),
  subst₂ (λ p q. HaveNoneBefore rule p q (Some t)) (sym (get_or_append_left paths (path ∷ []) [] one is.0)) (sym (get_or_append_left paths (path ∷ []) [] other is.1)) is.2,
)

pub are_right_in_more : (rule : Rule) (paths : List (List ℕ)) (path : List ℕ) (rows : List (List FirstTime)) → AreRight rule paths rows → AreRight rule (paths ++ path ∷ []) rows
are_right_in_more rule paths path rows are one other = right_in_more rule paths path one other (time_in (row_in rows one) other) (are one other)

-- and right in the other order
right_turned : (rule : Rule) (paths : List (List ℕ)) (one other : ℕ) (time : FirstTime) → IsRight rule paths one other time → IsRight rule paths other one time
right_turned rule paths one other Unknown is = tt
right_turned rule paths one other Never is = (is.1, is.0, either_order rule (path_of paths one) (path_of paths other) None is.2)
right_turned rule paths one other (At t) is = (is.1, is.0, either_order rule (path_of paths one) (path_of paths other) (Some t) is.2)

-- a right table stays so where a right time is kept
right_after : (rule : Rule) (paths : List (List ℕ)) (rows next : List (List FirstTime)) (one other : ℕ) (time : FirstTime) → AreRight rule paths rows → IsRight rule paths one other time
    → IsKept rows next one other time → AreRight rule paths next
right_after rule paths rows next one other time each here kept i j = go (kept i)
  where
    set_at : i ≡ one → (time_in (row_in next i) j ≡ time_in (row_in rows i) j) ⊎ ((j ≡ other) × (time_in (row_in next i) j ≡ time)) → IsRight rule paths i j (time_in (row_in next i) j)
    set_at e (inl same) = subst (IsRight rule paths i j) (sym same) (each i j)
    set_at e (inr (f, is)) = subst (IsRight rule paths i j) (sym is) (subst₂ (λ a b. IsRight rule paths a b time) (sym e) (sym f) here)

    go : (row_in next i ≡ row_in rows i) ⊎ ((i ≡ one) × IsSetTime (row_in rows i) (row_in next i) other time) → IsRight rule paths i j (time_in (row_in next i) j)
    go (inl same) = subst (λ r. IsRight rule paths i j (time_in r j)) (sym same) (each i j)
    go (inr (e, sets)) = set_at e (sets j)

-- and where it is kept in either order
pub still_right : (rule : Rule) (paths : List (List ℕ)) (rows next : List (List FirstTime)) (one other : ℕ) (time : FirstTime) → AreRight rule paths rows → IsRight rule paths one other time
    → AreKept rows next one other time → AreRight rule paths next
still_right rule paths rows next one other time each here kept =
    right_after rule paths kept.0 next other one time (right_after rule paths rows kept.0 one other time each here kept.1) (right_turned rule paths one other time here) kept.2

-- two agents on paths of which that is known have the pair conflicts that were added
pub met_known : (known : KnownPaths) (i one j other : ℕ) (time : FirstTime) (ms : List PairConflict) → IsRight known.rule known.paths one other time → IsAdded i j time ms
    → AreMet known i one j other ms
met_known known i one j other Unknown ms is added = absurd added
met_known known i one j other Never ms is added = λ plan is_p is_q. meet_never known.rule plan i j _ _ ms is_p is_q is.2
met_known known i one j other (At t) ms is added = λ plan is_p is_q. meet_added known.rule plan i j _ _ ms t added is_p is_q is.2

-- more pair conflicts are enough too
pub met_in_more : (known : KnownPaths) (i one j other : ℕ) (ms more : List PairConflict) → HasAllOf more ms → AreMet known i one j other ms → AreMet known i one j other more
met_in_more known i one j other ms more keeps met plan is_p is_q = meet_in_more (IsConflictOfTwo known.rule plan i j) ms more keeps (met plan is_p is_q)

-- an agent's path is that of its number
path_by_number : (paths : List (List ℕ)) (numbers : List ℕ) (i : ℕ) → i < length numbers → path_of paths (slice_index numbers i) ≡ path_of (plan_of paths numbers) i
path_by_number paths numbers i l = sym (get_or-map (λ n. path_of paths n) numbers i 0 [] l)

-- pair conflicts of each two agents are pair conflicts of all conflicts
pub all_met : (known : KnownPaths) (numbers : List ℕ) (ms : List PairConflict) → ((i k : ℕ) → i < k → k < length numbers → AreMet known i (slice_index numbers i) k (slice_index numbers k) ms)
    → HavePairConflicts (IsConflict known.rule (plan_of known.paths numbers)) ms
all_met known numbers ms met c is =
    let plan = plan_of known.paths numbers in let of = agents_of known.rule plan c is in let i = first_agent c in let j = second_agent c in
    let inside : j < length numbers = subst (λ n. j < n) (length-map numbers (λ n. path_of known.paths n)) of.1 in
    let low : i ≡ min i j = omega (arith, of.0) in let high : j ≡ max i j = omega (arith, of.0) in
    met i j of.0 inside plan (path_by_number known.paths numbers i (omega (arith, of.0, inside))) (path_by_number known.paths numbers j inside) c (is, low, high)

-- and so are those of an agent with another path, with each other agent, and of the conflicts that the others had
pub changed_met : (known : KnownPaths) (numbers : List ℕ) (agent number : ℕ) (old left ms : List PairConflict) → agent < length numbers → HavePairConflicts (IsConflict known.rule (plan_of known.paths numbers)) old
    → ((m : PairConflict) → Contains old m → m.first ≢ agent → m.second ≢ agent → Contains left m) → HasAllOf ms left
    → ((k : ℕ) → k < length numbers → k ≢ agent → AreMet known agent number k (slice_index numbers k) ms)
    → HavePairConflicts (IsConflict known.rule (set (plan_of known.paths numbers) agent (path_of known.paths number))) ms
changed_met known numbers agent number old left ms l meet without keeps met =
    all_meet known.rule new agent ms (meet_in_more (IsConflictWithout known.rule new agent) left ms keeps (pair_conflicts_without known.rule plan agent path old left inside meet without))
    (λ k h n. let within : k < length numbers = subst (λ n. k < n) (length-set plan agent path ∙ length_of) h in met k within n new here (there k within n))
  where
    path : List ℕ
    path = path_of known.paths number

    plan : List (List ℕ)
    plan = plan_of known.paths numbers

    new : List (List ℕ)
    new = set plan agent path

    length_of : length plan ≡ length numbers
    length_of = length-map numbers (λ n. path_of known.paths n)

    inside : agent < length plan
    inside = subst (λ n. agent < n) (sym length_of) l

    here : path ≡ path_of new agent
    here = sym (get_or-set_same plan agent path [] inside)

    there : (k : ℕ) → k < length numbers → k ≢ agent → path_of known.paths (slice_index numbers k) ≡ path_of new k
    there k h n = path_by_number known.paths numbers k h ∙ sym (get_or-set_other plan agent k path [] n)
