-- Searches of free plans: what is known of a free plan stays so, and others wait in its place.
use Rattle.mapf_tree.proofs.Prelude.{◌≡◌, ◌⊎◌, ℕ, ◌<◌, ◌≤◌, List, [], ◌∷◌, ◌++◌, length, Option, Some, None, Contains, subst, subst₂, sym, refl, ap, ◌∙◌, inl, inr, ⊎_elim, arith, append_assoc, get_or-map, slice_get-get_or, known_stays, plan_of_numbers, Contains-append_left, Contains-append_right}
use Rattle.std.proofs.lemmas.List.{length-map}
use Rattle.std.proofs.lemmas.List.Elements.{All-get_or, Contains-append_cases, Contains-push, Contains-push_cases}
use Rattle.mapf_tree.specs.Prelude.{slice_get, slice_index, path_of, plan_cost, plan_of, AreNumbers, Conflict, Side, Left, Right, IsConflict, IsValid, Problem, Node, PlannedNode, StandsFor, TreeNode, HasPlan, ObeysNode, side_of, PathCache, AreSetsOf, IsPlanOf, Branches, Grows, IsFreeUnder, IsFreePlan, AreObeyed, IsSidePlan, IsObeyed, ObeysOneOf, one_or_none, paths_of}
use Rattle.mapf_tree.specs.declared.own_paths.path_cache.free_plans.FreePlan.{FreePlan}
use Rattle.mapf_tree.specs.declared.own_paths.obeyed.Obeyed.{Obeyed}
use Rattle.mapf_tree.specs.declared.own_paths.obeyed.Obeyed.TheVariants.{ByNone, ByPlan, Unknown}
use Rattle.mapf_tree.proofs.own_paths.PathCaches.{sets_kept}
use Rattle.mapf_tree.proofs.sides.Branch.{obeys_one_side}

-- a cache has what it has
pub grows_itself : (cache : PathCache) → Grows cache cache
grows_itself cache = record { problem = refl; sets = λ number agent cs has. has; paths = λ number path at. at }

-- and what one has that a third one had
pub grows_on : (old mid new : PathCache) → Grows old mid → Grows mid new → Grows old new
grows_on old mid new one two = record {
  problem = two.problem ∙ one.problem;
  sets = λ number agent cs has. two.sets number agent cs (one.sets number agent cs has);
  paths = λ number path at. two.paths number path (one.paths number path at);
}

-- the plan of numbers stays the same where each path keeps its number
pub plan_kept : (old new : List (List ℕ)) (numbers : List ℕ) → ((n : ℕ) (p : List ℕ) → slice_get old n ≡ Some p → slice_get new n ≡ Some p) → AreNumbers old numbers → plan_of new numbers ≡ plan_of old numbers
plan_kept old new numbers keeps are =
    plan_of_numbers new numbers (plan_of old numbers) (sym (length-map numbers (λ n. path_of old n)))
    (λ k l. let inside : k < length numbers = subst (λ n. k < n) (length-map numbers (λ n. path_of old n)) l in
    keeps (slice_index numbers k) _ (slice_get-get_or old (slice_index numbers k) [] (All-get_or (λ n. n < length old) numbers k 0 inside are))
    ∙ ap Some (sym (get_or-map (λ n. path_of old n) numbers k 0 [] inside)))

-- what is known of a free plan stays so in a cache that grows
pub free_kept : (old new : PathCache) (node : TreeNode) (free : FreePlan) → Grows old new → IsFreeUnder old node free → IsFreeUnder new node free
free_kept old new node free grows is = record {
  agents = is.agents ∙ sym (ap (λ (p : Problem). length p.inst.starts) grows.problem);
  sets = sets_kept old.sets new.sets free.sets.items node.constraints grows.sets is.sets;
  plan = known_stays (record { rule = old.problem.rule; paths = old.paths }) (record { rule = new.problem.rule; paths = new.paths }) free.plan.numbers.items free.plan.conflicts.items (ap (λ (p : Problem). p.rule) grows.problem) grows.paths is.plan;
  own = subst₂ (λ p plan. HasPlan p node plan) (sym grows.problem) (sym same) is.own;
  cost = is.cost ∙ sym (ap plan_cost same);
}
  where
    same : paths_of new free ≡ paths_of old free
    same = plan_kept old.paths new.paths free.plan.numbers.items grows.paths is.plan.inside

-- and is so of another one with the same sets, plan and cost
pub free_same : (cache : PathCache) (node : TreeNode) (free other : FreePlan) → other.sets ≡ free.sets → other.plan ≡ free.plan → other.cost ≡ free.cost → IsFreeUnder cache node free → IsFreeUnder cache node other
free_same cache node free other sets plan cost is = record {
  agents = is.agents;
  sets = subst (λ numbers. AreSetsOf cache.sets numbers node.constraints) (sym same_sets) is.sets;
  plan = subst (λ p. IsPlanOf cache p) (sym plan) is.plan;
  own = subst (λ numbers. HasPlan cache.problem node (plan_of cache.paths numbers)) (sym same_numbers) is.own;
  cost = cost ∙ is.cost ∙ sym (ap (λ numbers. plan_cost (plan_of cache.paths numbers)) same_numbers);
}
  where
    same_sets : other.sets.items ≡ free.sets.items
    same_sets = cc

    same_numbers : other.plan.numbers.items ≡ free.plan.numbers.items
    same_numbers = cc

-- a plan that is valid for a cache's problem is so for that of one that grew from it
valid_kept : (old new : PathCache) (plan : List (List ℕ)) → Grows old new → IsValid old.problem.rule old.problem.inst plan → IsValid new.problem.rule new.problem.inst plan
valid_kept old new plan grows = subst (λ (p : Problem). IsValid p.rule p.inst plan) (sym grows.problem)

-- and it obeys what it obeyed
obeys_kept : (old new : PathCache) (node : TreeNode) (plan : List (List ℕ)) → Grows old new → ObeysNode old.problem node plan → ObeysNode new.problem node plan
obeys_kept old new node plan grows = subst (λ (p : Problem). ObeysNode p node plan) (sym grows.problem)

-- a valid plan that obeys a side obeys the plan that the side gives
on_side : (most : ℕ) (cache new : PathCache) (free : FreePlan) (c : Conflict) (s : Side) (found : Option FreePlan) (added : List FreePlan) → Grows cache new → IsSidePlan cache free c s most found →
    ((f : FreePlan) → found ≡ Some f → Contains added f) → (node : TreeNode) → IsFreeUnder cache node free → (plan : List (List ℕ)) → IsValid cache.problem.rule cache.problem.inst plan →
    ObeysNode cache.problem (side_of node c s) plan → plan_cost plan ≤ most → ObeysOneOf new added plan
on_side most cache new free c s None added grows is has node under plan valid obeys cheap = absurd (is node under plan valid obeys cheap)
on_side most cache new free c s (Some next) added grows is has node under plan valid obeys cheap =
    (next, side_of node c s, has next refl, free_kept cache new (side_of node c s) next grows (is node under), obeys_kept cache new (side_of node c s) plan grows obeys)

-- what a side gives is a free plan
side_is_free : (most : ℕ) (cache new : PathCache) (free : FreePlan) (c : Conflict) (s : Side) (found : Option FreePlan) → Grows cache new → IsSidePlan cache free c s most found →
    (node : TreeNode) → IsFreeUnder cache node free → (f : FreePlan) → found ≡ Some f → IsFreePlan new f
side_is_free most cache new free c s found grows is node under f e =
    (side_of node c s, free_kept cache new (side_of node c s) f grows (subst (IsSidePlan cache free c s most) e is node under))

-- these are what two sides give
abbrev pub AreSides : Option FreePlan → Option FreePlan → List FreePlan → Type 0
AreSides left right added =
    ((f : FreePlan) → left ≡ Some f → Contains added f) × ((f : FreePlan) → right ≡ Some f → Contains added f)
    × ((f : FreePlan) → Contains added f → (left ≡ Some f) ⊎ (right ≡ Some f))

-- what there is is there
is_there : (found : Option FreePlan) (f : FreePlan) → found ≡ Some f → Contains (one_or_none found) f
is_there found f e = subst (λ o. Contains (one_or_none o) f) (sym e) (Contains-push [] f)

-- and only that
is_that : (found : Option FreePlan) (f : FreePlan) → Contains (one_or_none found) f → found ≡ Some f
is_that None f h = absurd (omega (arith, h.1))
is_that (Some g) f h = ⊎_elim (λ none. absurd (omega (arith, none.1))) (λ e. ap Some e) (Contains-push_cases [] g f h)

-- both sides, in either order
pub sides_in_order : (left right : Option FreePlan) → AreSides left right (one_or_none left ++ one_or_none right)
sides_in_order left right = (
  λ f e. Contains-append_left (one_or_none left) (one_or_none right) f (is_there left f e),
  λ f e. Contains-append_right (one_or_none left) (one_or_none right) f (is_there right f e),
  λ f h. ⊎_elim (λ l. inl (is_that left f l)) (λ r. inr (is_that right f r)) (Contains-append_cases (one_or_none left) (one_or_none right) f h),
)

pub sides_turned : (left right : Option FreePlan) → AreSides left right (one_or_none right ++ one_or_none left)
sides_turned left right = (
  λ f e. Contains-append_right (one_or_none right) (one_or_none left) f (is_there left f e),
  λ f e. Contains-append_left (one_or_none right) (one_or_none left) f (is_there right f e),
  λ f h. ⊎_elim (λ r. inr (is_that right f r)) (λ l. inl (is_that left f l)) (Contains-append_cases (one_or_none right) (one_or_none left) f h),
)

-- the plans on both sides of a conflict wait in the place of a free plan
pub branched : (most : ℕ) (old mid new : PathCache) (free : FreePlan) (c : Conflict) (left right : Option FreePlan) (waiting next added : List FreePlan) → Grows old mid → Grows mid new → IsFreePlan old free →
    IsConflict old.problem.rule (paths_of old free) c → IsSidePlan mid free c Left most left → IsSidePlan new free c Right most right → next ≡ waiting ++ added → AreSides left right added →
    Branches most old free new waiting next
branched most old mid new free c left right waiting next added one two is conflict on_left on_right are sides = record {
  added = added;
  are = are;
  free_plans = λ f h.
      ⊎_elim (side_is_free most mid new free c Left left two on_left is.0 (free_kept old mid is.0 free one is.1) f)
      (side_is_free most new new free c Right right (grows_itself new) on_right is.0 (free_kept old new is.0 free (grows_on old mid new one two) is.1) f) (sides.2 f h);
  leads = λ node under plan valid obeys cheap.
      let both = grows_on old mid new one two in
      ⊎_elim
      (λ l. on_side most mid new free c Left left added two on_left sides.0 node (free_kept old mid node free one under) plan (valid_kept old mid plan one valid) (obeys_kept old mid (side_of node c Left) plan one l) cheap)
      (λ r. on_side most new new free c Right right added (grows_itself new) on_right sides.1 node (free_kept old new node free both under) plan (valid_kept old new plan both valid) (obeys_kept old new (side_of node c Right) plan both r) cheap)
      (obeys_one_side old.problem node (paths_of old free) plan c under.agents under.own.agents conflict valid obeys);
}

-- the same where the cache grew before, and the free plan is another one with the same sets, plan and cost
pub branched_before : (most : ℕ) (first old new : PathCache) (begun free : FreePlan) (waiting next : List FreePlan) → Grows first old → free.sets ≡ begun.sets → free.plan ≡ begun.plan → free.cost ≡ begun.cost →
    Branches most old free new waiting next → Branches most first begun new waiting next
branched_before most first old new begun free waiting next grows sets plan cost is = record {
  added = is.added;
  are = is.are;
  free_plans = is.free_plans;
  leads = λ node under other valid obeys cheap.
      is.leads node (free_same old node begun free sets plan cost (free_kept first old node begun grows under)) other (valid_kept first old other grows valid) (obeys_kept first old node other grows obeys) cheap;
}

-- each one that waits is a free plan
abbrev pub AreFree : PathCache → List FreePlan → Type 0
AreFree cache waiting = (f : FreePlan) → Contains waiting f → IsFreePlan cache f

-- each valid plan that costs at most so much and obeys one of these obeys one of those
abbrev pub LeadsTo : ℕ → PathCache → List FreePlan → PathCache → List FreePlan → Type 0
LeadsTo most old waiting new next =
    (plan : List (List ℕ)) → IsValid old.problem.rule old.problem.inst plan → plan_cost plan ≤ most → ObeysOneOf old waiting plan → ObeysOneOf new next plan

-- those that wait stay free plans where the last one is taken
pub free_taken : (cache : PathCache) (all rest : List FreePlan) (free : FreePlan) → all ≡ rest ++ free ∷ [] → AreFree cache all → IsFreePlan cache free
free_taken cache all rest free e are = are free (subst (λ xs. Contains xs free) (sym e) (Contains-push rest free))

-- and where others wait in its place
pub free_next : (most : ℕ) (old new : PathCache) (all rest next : List FreePlan) (free : FreePlan) → all ≡ rest ++ free ∷ [] → Grows old new → Branches most old free new rest next → AreFree old all → AreFree new next
free_next most old new all rest next free e grows is are f h =
    ⊎_elim
    (λ l. let old_one = are f (subst (λ xs. Contains xs f) (sym e) (Contains-append_left rest (free ∷ []) f l)) in
    (old_one.0, free_kept old new old_one.0 f grows old_one.1))
    (is.free_plans f) (Contains-append_cases rest is.added f (subst (λ xs. Contains xs f) is.are h))

-- a plan that obeyed one of those that waited obeys one of those that wait then
pub leads_next : (most : ℕ) (first old new : PathCache) (begun all rest next : List FreePlan) (free : FreePlan) → all ≡ rest ++ free ∷ [] → Grows first old → Grows old new → Branches most old free new rest next →
    LeadsTo most first begun old all → LeadsTo most first begun new next
leads_next most first old new begun all rest next free e before grows is leads plan valid cheap obeys = go (leads plan valid cheap obeys)
  where
    in_next : (f : FreePlan) → Contains (rest ++ is.added) f → Contains next f
    in_next f = subst (λ xs. Contains xs f) (sym is.are)

    of_added : ObeysOneOf new is.added plan → ObeysOneOf new next plan
    of_added one = (one.0, one.1, in_next one.0 (Contains-append_right rest is.added one.0 one.2), one.3, one.4)

    go : ObeysOneOf old all plan → ObeysOneOf new next plan
    go one =
        ⊎_elim
        (λ l. (one.0, one.1, in_next one.0 (Contains-append_left rest is.added one.0 l), free_kept old new one.1 one.0 grows one.3, obeys_kept old new one.1 plan grows one.4))
        (λ same. of_added (is.leads one.1 (subst (λ f. IsFreeUnder old one.1 f) (sym same) one.3) plan (valid_kept first old plan before valid) one.4 cheap))
        (Contains-push_cases rest free one.0 (subst (λ xs. Contains xs one.0) e one.2))

-- what was found of the free plan of a node was found of the node
pub obeyed_by_plan : (cache : PathCache) (node : Node) (free : FreePlan) (waiting : List FreePlan) (most : ℕ) (found : Obeyed) → ((m : PlannedNode) → StandsFor cache.problem node m → IsFreeUnder cache m.0 free) → waiting ≡ free ∷ [] →
    AreObeyed cache waiting most found → IsObeyed cache.problem node most found
obeyed_by_plan cache node free waiting most ByNone under e is =
    λ m stands plan valid obeys cheap.
    is plan valid cheap (free, m.0, subst (λ xs. Contains xs free) (sym e) (Contains-push [] free), under m stands, obeys)
obeyed_by_plan cache node free waiting most (ByPlan paths) under e is = tt
obeyed_by_plan cache node free waiting most Unknown under e is = tt

-- a free plan stays one in a cache that grows, and so is another one with the same sets, plan and cost
pub still_free : (old new : PathCache) (begun free : FreePlan) → Grows old new → free.sets ≡ begun.sets → free.plan ≡ begun.plan → free.cost ≡ begun.cost → IsFreePlan old begun → IsFreePlan new free
still_free old new begun free grows sets plan cost is = (is.0, free_same new is.0 begun free sets plan cost (free_kept old new is.0 begun grows is.1))

-- and its plan has the conflicts that it had
pub conflict_kept : (old new : PathCache) (free : FreePlan) (c : Conflict) → Grows old new → IsFreePlan old free → IsConflict old.problem.rule (paths_of old free) c → IsConflict new.problem.rule (paths_of new free) c
conflict_kept old new free c grows is =
    subst₂ (λ rule plan. IsConflict rule plan c) (sym (ap (λ (p : Problem). p.rule) grows.problem)) (sym (plan_kept old.paths new.paths free.plan.numbers.items grows.paths is.1.plan.inside))

-- tables of the problem of a cache are those of the problem of one that grew from it
pub tables_kept : (old new : PathCache) (first tables : Problem) → Grows old new → tables ≡ first → first ≡ old.problem → tables ≡ new.problem
tables_kept old new first tables grows same of = same ∙ of ∙ sym grows.problem

-- and what is within its bound is so too
pub most_kept : (old new : PathCache) (most : ℕ) → Grows old new → most ≤ old.problem.bound → most ≤ new.problem.bound
most_kept old new most grows = subst (λ (p : Problem). most ≤ p.bound) (sym grows.problem)

-- a cache that grew three times
pub grows_thrice : (first old mid new : PathCache) → Grows first old → Grows old mid → Grows mid new → Grows first new
grows_thrice first old mid new one two three = grows_on first mid new (grows_on first old mid one two) three

-- what was put in one after the other
pub put_both : (waiting one two mid next : List FreePlan) → mid ≡ waiting ++ one → next ≡ mid ++ two → next ≡ waiting ++ (one ++ two)
put_both waiting one two mid next first then = then ∙ ap (λ (xs : List FreePlan). xs ++ two) first ∙ append_assoc waiting one two
