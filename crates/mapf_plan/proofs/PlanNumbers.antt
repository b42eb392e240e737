-- Plans whose paths have numbers.
use Rattle.std.proofs.Common.{◌≡◌, ℕ, ◌+◌, ◌<◌, List, [], ◌∷◌, ◌++◌, length, get_or, set, Some, subst, subst₂, sym, ap, ◌∙◌, arith}
use Rattle.std.specs.Prelude.{slice_get, slice_index}
use Rattle.std.proofs.lemmas.List.{ext_get_or, length-map, length-set, map-set, get_or-map, get_or_append_left, get_or_push}
use Rattle.std.proofs.lemmas.List.Elements.{All-from_get_or, All-get_or, All-set}
use Rattle.std.proofs.lemmas.Option.{get_or_from_slice_get, slice_get-get_or, slice_get_within}
use borrow.Author.Count.{below_more}
use Rattle.mapf_plan.specs.Plan.{path_of, IsConflict}
use Rattle.mapf_plan.specs.declared.pair_conflicts.PairConflict.{PairConflict}
use Rattle.mapf_plan.specs.PairConflicts.{HavePairConflicts}
use Rattle.mapf_plan.specs.KnownPaths.{KnownPaths, AreNumbers, IsKnownPlan, plan_of}

-- the paths of the first agents have these numbers
abbrev pub HaveNumbers : List (List ℕ) → List ℕ → List (List ℕ) → ℕ → Type 0
HaveNumbers paths numbers plan n = (k : ℕ) → k < n → slice_get paths (slice_index numbers k) ≡ Some (path_of plan k)

-- one agent more, whose path has the number that was added
pub numbers_more : (old paths : List (List ℕ)) (numbers more : List ℕ) (number : ℕ) (plan : List (List ℕ)) (n : ℕ) → length numbers ≡ n →
    ((m : ℕ) (p : List ℕ) → slice_get old m ≡ Some p → slice_get paths m ≡ Some p) → HaveNumbers old numbers plan n → slice_get paths number ≡ Some (path_of plan n) →
    more ≡ numbers ++ number ∷ [] → HaveNumbers paths more plan (n + 1)
numbers_more old paths numbers more number plan n count keeps have has is = below_more (λ k. slice_get paths (slice_index more k) ≡ Some (path_of plan k)) n earlier here
  where
    earlier : (k : ℕ) → k < n → slice_get paths (slice_index more k) ≡ Some (path_of plan k)
    earlier k l =
        subst (λ m. slice_get paths m ≡ Some (path_of plan k)) (sym (ap (λ ns. get_or ns k 0) is ∙ get_or_append_left numbers (number ∷ []) 0 k (omega (arith, l, count))))
        (keeps (slice_index numbers k) (path_of plan k) (have k l))

    here : slice_get paths (slice_index more n) ≡ Some (path_of plan n)
    here = subst (λ m. slice_get paths m ≡ Some (path_of plan n)) (sym (ap (λ ns. get_or ns n 0) is ∙ get_or_push numbers number 0 n count)) has

-- the plan of these numbers is the agents' plan
pub plan_of_numbers : (paths : List (List ℕ)) (numbers : List ℕ) (plan : List (List ℕ)) → length numbers ≡ length plan → HaveNumbers paths numbers plan (length plan) → plan_of paths numbers ≡ plan
plan_of_numbers paths numbers plan count have =
    ext_get_or [] (plan_of paths numbers) plan (length-map numbers (λ n. path_of paths n) ∙ count) same
  where
    same : (i : ℕ) → i < length (plan_of paths numbers) → get_or (plan_of paths numbers) i [] ≡ get_or plan i []
    same i l =
        let inside : i < length numbers = subst (λ n. i < n) (length-map numbers (λ n. path_of paths n)) l in
        get_or-map (λ n. path_of paths n) numbers i 0 [] inside ∙ get_or_from_slice_get paths (slice_index numbers i) (path_of plan i) [] (have i (subst (λ n. i < n) count inside))

-- each of them is the number of a path
pub numbers_inside : (paths : List (List ℕ)) (numbers : List ℕ) (plan : List (List ℕ)) (n : ℕ) → length numbers ≡ n → HaveNumbers paths numbers plan n → AreNumbers paths numbers
numbers_inside paths numbers plan n count have =
    All-from_get_or (λ m. m < length paths) numbers 0 (λ i l. slice_get_within paths (slice_index numbers i) (path_of plan i) (have i (subst (λ m. i < m) count l)))

-- a known plan, where one agent's path has another number
pub plan_turned : (known : KnownPaths) (numbers : List ℕ) (old new : List PairConflict) (agent number : ℕ) → IsKnownPlan known numbers old → number < length known.paths →
    HavePairConflicts (IsConflict known.rule (set (plan_of known.paths numbers) agent (path_of known.paths number))) new → IsKnownPlan known (set numbers agent number) new
plan_turned known numbers old new agent number is inside meet = record {
  few = omega (arith, length-set numbers agent number, is.few);
  inside = All-set (λ n. n < length known.paths) numbers agent number inside is.inside;
  meet = subst (λ plan. HavePairConflicts (IsConflict known.rule plan) new) (sym (map-set (λ n. path_of known.paths n) numbers agent number)) meet;
}

-- and a known plan stays so where each path keeps its number
pub known_stays : (old new : KnownPaths) (numbers : List ℕ) (ms : List PairConflict) → new.rule ≡ old.rule → ((n : ℕ) (p : List ℕ) → slice_get old.paths n ≡ Some p → slice_get new.paths n ≡ Some p) → IsKnownPlan old numbers ms → IsKnownPlan new numbers ms
known_stays old new numbers ms rule keeps is = record {
  few = is.few;
  inside = All-from_get_or (λ n. n < length new.paths) numbers 0 (λ i l. slice_get_within new.paths (slice_index numbers i) (path_of old.paths (slice_index numbers i)) (kept i l));
  meet = subst₂ (λ r plan. HavePairConflicts (IsConflict r plan) ms) (sym rule) (sym same) is.meet;
}
  where
    kept : (i : ℕ) → i < length numbers → slice_get new.paths (slice_index numbers i) ≡ Some (path_of old.paths (slice_index numbers i))
    kept i l = keeps (slice_index numbers i) _ (slice_get-get_or old.paths (slice_index numbers i) [] (All-get_or (λ n. n < length old.paths) numbers i 0 l is.inside))

    same : plan_of new.paths numbers ≡ plan_of old.paths numbers
    same = plan_of_numbers new.paths numbers (plan_of old.paths numbers) (sym (length-map numbers (λ n. path_of old.paths n)))
        (λ k l. let inside : k < length numbers = subst (λ n. k < n) (length-map numbers (λ n. path_of old.paths n)) l in
        kept k inside ∙ ap Some (sym (get_or-map (λ n. path_of old.paths n) numbers k 0 [] inside)))
