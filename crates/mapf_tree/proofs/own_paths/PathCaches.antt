-- What a path cache remembers.
use Rattle.mapf_tree.proofs.Prelude.{◌≡◌, ◌⊎◌, ℕ, zero, suc, ◌+◌, ◌<◌, ◌≤◌, List, [], ◌∷◌, ◌++◌, length, get_or, set, replicate, Option, Some, None, IsSome, subst, subst₂, sym, refl, ap, ◌∙◌, inl, inr, ⊎_elim, arith, get_or-set_same, get_or-set_other, get_or_from_slice_get, slice_get_within, slice_get-get_or, IfSome_then, below_more, set_cases, same_own, own_set}
use Rattle.std.proofs.lemmas.List.{length-set, length_push, length-append, length-replicate, get_or-replicate, get_or_append_left, get_or_push}
use Rattle.mapf_tree.specs.Prelude.{slice_get, slice_index, option_map, cost, path_of, plan_cost, Conflict, Constraint, Side, Path, NoneWithin, ConstraintSet, Problem, Changed, Node, IsSameSet, IsConflictOf, IsBranching, IsChildOf, IsOwnWithin, Leaves, SideQuery, IsQueryOf, IsFoundBy, IsOwnPathOf, agent_on, constraint_on, constraints_of, PathCache, HasSet, IsExtension, AreExtensions, IsExtended, AreKnown, IsCachedPath, IsOwnIn, IsNumberOf, IsAskedAt, IsTurnAt, HasNoTurnAt, GivesOwn, HasPath, AreFirst, AreSetsOf}
use Rattle.mapf_tree.specs.declared.own_paths.constraint_sets.Extension.{Extension}
use Rattle.mapf_tree.specs.declared.own_paths.constraint_sets.CachedPath.{CachedPath}
use Rattle.mapf_tree.proofs.ConstraintSets.{with_same, IsWith, IsWith-cons}
use Rattle.mapf_tree.proofs.sides.SideNodes.{own_within_lower, within_bound, agent_inside}
use Rattle.mapf_tree.proofs.sides.Queries.{is_child, no_child}

-- two values that are there are one
one_value : {A : Type 0} (x y : A) → ◌≡◌ {A = Option A} (Some x) (Some y) → x ≡ y
one_value x y e = cc

-- an element keeps its place where more are added
slice_get_left : {X : Type 0} (xs ys : List X) (k : ℕ) (x : X) → slice_get xs k ≡ Some x → slice_get (xs ++ ys) k ≡ Some x
slice_get_left xs ys k x e =
    let inside : k < length xs = slice_get_within xs k x e in
    slice_get-get_or (xs ++ ys) k x (omega (arith, inside, length-append xs ys)) ∙ ap Some (get_or_append_left xs ys x k inside ∙ get_or_from_slice_get xs k x x e)

-- and the next place is that of the one that is added
slice_get_push : {X : Type 0} (xs : List X) (y : X) → slice_get (xs ++ y ∷ []) (length xs) ≡ Some y
slice_get_push xs y =
    slice_get-get_or (xs ++ y ∷ []) (length xs) y (omega (arith, length_push xs y)) ∙ ap Some (get_or_push xs y y (length xs) refl)

-- an element of such a list is an old one or the one that is added
of_push : {X : Type 0} (xs : List X) (y : X) (k : ℕ) (x : X) → slice_get (xs ++ y ∷ []) k ≡ Some x → (slice_get xs k ≡ Some x) ⊎ (x ≡ y)
of_push [] y zero x e = inr (one_value x y (sym e))
of_push [] y (suc k) x e = absurd (let m : ◌≡◌ {A = ℕ} 0 1 = cc in omega (arith, m))
of_push (z ∷ xs) y zero x e = inl e
of_push (z ∷ xs) y (suc k) x e = of_push xs y k x e

-- a number is that of one set
pub same_known : (sets : List ConstraintSet) (number : ℕ) (s t : ConstraintSet) → slice_get sets number ≡ Some s → slice_get sets number ≡ Some t → s ≡ t
same_known sets number s t e f = one_value s t (sym e ∙ f)

-- so the agent and the constraints of a number are those of its set
pub same_set : (sets : List ConstraintSet) (number agent : ℕ) (cs : List Constraint) (s : ConstraintSet) → slice_get sets number ≡ Some s → HasSet sets number agent cs → (s.agent ≡ agent) × (s.constraints ≡ cs)
same_set sets number agent cs s at has =
    let one = same_known sets number s has.0 at has.1 in
    (ap (λ (t : ConstraintSet). t.agent) one ∙ has.2, ap (λ (t : ConstraintSet). t.constraints) one ∙ has.3)

-- a number is that of one agent's constraints
same_number : (sets : List ConstraintSet) (number agent other : ℕ) (cs ds : List Constraint) → HasSet sets number agent cs → HasSet sets number other ds → (agent ≡ other) × (cs ≡ ds)
same_number sets number agent other cs ds one has =
    let same = same_set sets number other ds one.0 one.1 has in
    (sym one.2 ∙ same.0, sym one.3 ∙ same.1)

-- an extension tells the set with its constraint more, whichever agent has the first one
pub extension_tells : (sets : List ConstraintSet) (before : ℕ) (constraint : Constraint) (after : ℕ) → IsExtension sets before constraint after → IsExtended sets before constraint after
extension_tells sets before constraint after is agent cs has =
    let one = same_number sets before is.0 agent is.1 cs is.3 has in
    (is.2, subst (λ a. HasSet sets after a is.2) one.0 is.4, subst (λ ds. IsWith constraint ds is.2) one.1 is.5)

-- a set keeps its number where one more is added
pub set_kept : (sets more : List ConstraintSet) (added : ConstraintSet) (number agent : ℕ) (cs : List Constraint) → more ≡ sets ++ added ∷ [] → HasSet sets number agent cs → HasSet more number agent cs
set_kept sets more added number agent cs is has = (has.0, subst (λ l. slice_get l number ≡ Some has.0) (sym is) (slice_get_left sets (added ∷ []) number has.0 has.1), has.2, has.3)

-- and the added one has the next number
pub set_added : (sets more : List ConstraintSet) (added : ConstraintSet) (number : ℕ) → more ≡ sets ++ added ∷ [] → number ≡ length sets → HasSet more number added.agent added.constraints
set_added sets more added number is at = (added, subst₂ (λ l n. slice_get l n ≡ Some added) (sym is) (sym at) (slice_get_push sets added), refl, refl)

-- what an extension tells
abbrev Tells : List ConstraintSet → Extension → Type 0
Tells sets e = IsExtension sets e.before e.constraint e.after × GivesOwn sets e.after e.constraint (option_map (λ c. c.value) e.change)

-- what is remembered of extensions stays so with one more
pub extensions_more : (sets : List ConstraintSet) (old new : List Extension) (e : Extension) → new ≡ old ++ e ∷ [] → AreExtensions sets old → IsExtension sets e.before e.constraint e.after →
    GivesOwn sets e.after e.constraint (option_map (λ c. c.value) e.change) → AreExtensions sets new
extensions_more sets old new e is are one gives number x at =
    ⊎_elim (λ h. are number x h) (λ h. subst (Tells sets) (sym h) (one, gives)) (of_push old e number x (subst (λ xs. slice_get xs number ≡ Some x) is at))

-- and where a set is added
pub extensions_kept : (sets more : List ConstraintSet) (added : ConstraintSet) (all : List Extension) → more ≡ sets ++ added ∷ [] → AreExtensions sets all → AreExtensions more all
unfolding set_kept
extensions_kept sets more added all is are number e at =
    let old = (are number e at).0 in
    let last = set_kept sets more added e.after old.0 old.2 is old.4 in (
      (old.0, old.1, old.2, set_kept sets more added e.before old.0 old.1 is old.3, last, old.5),
      IfSome_then (option_map (λ c. c.value) e.change) (are number e at).1
          (λ x gives. (gives.0, λ s there. gives.1 s (old.4.1 ∙ ap Some (same_known more e.after old.4.0 s (set_kept sets more added e.after old.0 old.2 is old.4).1 there)))),
    )

-- each agent's set after one of them has one constraint more
pub sets_turned_on : (sets : List ConstraintSet) (numbers : List ℕ) (cs : List (List Constraint)) (agent more : ℕ) (constraint : Constraint) → agent < length numbers → AreSetsOf sets numbers cs →
    IsExtended sets (slice_index numbers agent) constraint more → AreSetsOf sets (set numbers agent more) (set cs agent (constraint ∷ get_or cs agent []))
sets_turned_on sets numbers cs agent more constraint inside are has = record {
  each = length-set numbers agent more ∙ are.each ∙ sym (length-set cs agent _);
  same = λ j l. same j (subst (λ n. j < n) (length-set cs agent _) l);
}
  where
    Own : ℕ → ℕ → List Constraint → Type 0
    Own j number xs = (ds : List Constraint) × HasSet sets number j ds × IsSameSet ds xs

    here : Own agent more (constraint ∷ get_or cs agent [])
    here =
        let old = are.same agent (subst (λ n. agent < n) are.each inside) in
        let new = has agent old.0 old.1 in
        (new.0, new.1, IsWith-cons constraint (get_or cs agent []) old.0 new.0 old.2 new.2)

    same : (j : ℕ) → j < length cs → Own j (slice_index (set numbers agent more) j) (get_or (set cs agent (constraint ∷ get_or cs agent [])) j [])
    same j l =
        set_cases (λ xs. Own j (slice_index (set numbers agent more) j) xs) cs agent j (constraint ∷ get_or cs agent []) [] l
        (λ e. subst (λ k. Own k (slice_index (set numbers agent more) k) (constraint ∷ get_or cs agent [])) e
        (subst (λ n. Own agent n (constraint ∷ get_or cs agent [])) (sym (get_or-set_same numbers agent more 0 inside)) here))
        (λ n. subst (λ k. Own j k (get_or cs j [])) (sym (get_or-set_other numbers agent j more 0 (λ e. n (sym e)))) (are.same j l))

-- one number more of a list each of whose numbers has what its place asks for
pub each_more : (P : ℕ → ℕ → Type 0) (xs more : List ℕ) (y n : ℕ) → more ≡ xs ++ y ∷ [] → (length xs ≡ n) × ((k : ℕ) → k < n → P k (slice_index xs k)) → P n y →
    (length more ≡ n + 1) × ((k : ℕ) → k < n + 1 → P k (slice_index more k))
each_more P xs more y n is all one =
    (ap length is ∙ length_push xs y ∙ ap (λ k. k + 1) all.0, below_more (λ k. P k (slice_index more k)) n earlier here)
  where
    earlier : (k : ℕ) → k < n → P k (slice_index more k)
    earlier k l = subst (P k) (sym (ap (λ ns. get_or ns k 0) is ∙ get_or_append_left xs (y ∷ []) 0 k (omega (arith, l, all.0)))) (all.1 k l)

    here : P n (slice_index more n)
    here = subst (P n) (sym (ap (λ ns. get_or ns n 0) is ∙ get_or_push xs y 0 n all.0)) one

-- at first each agent has the empty set
pub sets_begun : (sets : List ConstraintSet) (numbers : List ℕ) (agents : ℕ) → (length numbers ≡ agents) × ((k : ℕ) → k < agents → HasSet sets (slice_index numbers k) k []) →
    AreSetsOf sets numbers (replicate agents [])
sets_begun sets numbers agents are = record {
  each = are.0 ∙ sym (length-replicate agents []);
  same = λ agent l.
      let inside : agent < agents = subst (λ n. agent < n) (length-replicate agents []) l in
      ([], are.1 agent inside, subst (IsSameSet []) (sym (get_or-replicate agents agent [] [] inside)) (λ x. ((λ h. h), (λ h. h))));
}

-- the numbers of each agent's set stay so where a set is added
pub sets_kept : (old new : List ConstraintSet) (numbers : List ℕ) (cs : List (List Constraint)) → ((n a : ℕ) (ds : List Constraint) → HasSet old n a ds → HasSet new n a ds) → AreSetsOf old numbers cs → AreSetsOf new numbers cs
sets_kept old new numbers cs keeps are = record {
  each = are.each;
  same = λ agent l. let set = are.same agent l in (set.0, keeps (slice_index numbers agent) agent set.0 set.1, set.2);
}

-- and so do those of the empty sets
pub firsts_kept : (problem : Problem) (old new : List ConstraintSet) (numbers : List ℕ) → ((n a : ℕ) (ds : List Constraint) → HasSet old n a ds → HasSet new n a ds) → AreFirst problem old numbers → AreFirst problem new numbers
firsts_kept problem old new numbers keeps are = ⊎_elim inl (λ h. inr (sets_kept old new numbers _ keeps h)) are

-- what is remembered of sets stays so where each path keeps its number
pub known_kept : (problem : Problem) (old new : List (List ℕ)) (sets : List ConstraintSet) → ((n : ℕ) (p : List ℕ) → slice_get old n ≡ Some p → slice_get new n ≡ Some p) → AreKnown problem old sets → AreKnown problem new sets
known_kept problem old new sets keeps are number s at = kept s.own (are number s at)
  where
    kept : (own : CachedPath) → IsCachedPath problem old s.agent s.constraints own → IsCachedPath problem new s.agent s.constraints own
    kept (Path n path) known = (keeps n path.value known.0, known.1)
    kept (NoneWithin bound) none = none

-- and with one set more
pub known_more : (problem : Problem) (paths : List (List ℕ)) (old new : List ConstraintSet) (s : ConstraintSet) → new ≡ old ++ s ∷ [] → AreKnown problem paths old → IsCachedPath problem paths s.agent s.constraints s.own →
    AreKnown problem paths new
known_more problem paths old new s is are one number x at =
    ⊎_elim (λ h. are number x h) (λ h. subst (λ (t : ConstraintSet). IsCachedPath problem paths t.agent t.constraints t.own) (sym h) one) (of_push old s number x (subst (λ xs. slice_get xs number ≡ Some x) is at))

-- the path of a set is the own one of whichever agent has the set
own_path_told : (cache : PathCache) (set number agent : ℕ) (cs : List Constraint) (s : ConstraintSet) (path : List ℕ) → AreKnown cache.problem cache.paths cache.sets → slice_get cache.sets set ≡ Some s → HasPath s.own number path →
    HasSet cache.sets set agent cs → (slice_get cache.paths number ≡ Some path) × IsOwnPathOf cache.problem agent cs path
own_path_told cache set number agent cs s path is at own has =
    let known = told s.own (is set s at) own in
    let same = same_set cache.sets set agent cs s at has in
    (known.0, subst₂ (λ i xs. IsOwnPathOf cache.problem i xs path) same.0 same.1 known.1)
  where
    told : (own : CachedPath) → IsCachedPath cache.problem cache.paths s.agent s.constraints own → HasPath own number path → (slice_get cache.paths number ≡ Some path) × IsOwnPathOf cache.problem s.agent s.constraints path
    told (Path n p) known has =
        subst₂ (λ m q. (slice_get cache.paths m ≡ Some q) × IsOwnPathOf cache.problem s.agent s.constraints q) has.0 has.1 known
    told (NoneWithin bound) known none = absurd none

-- a set has one path
pub one_path : (own : CachedPath) (n m : ℕ) (p q : List ℕ) → HasPath own n p → HasPath own m q → p ≡ q
one_path (Path k r) n m p q one other = sym one.1 ∙ other.1
one_path (NoneWithin bound) n m p q none other = absurd none

-- how many agents a node of the tree has
pub agents_at_node : (problem : Problem) (node : Node) → IsBranching problem node → length node.plan ≡ length problem.inst.starts
agents_at_node problem node branching = ap length branching.stands.plan ∙ branching.stands.member.plan.agents

-- the own path under an agent's set is its path at the node, as an agent has one own path under a set
pub path_at_node : (cache : PathCache) (node : Node) (sets : List ℕ) (agent number : ℕ) (s : ConstraintSet) (path : List ℕ) → IsBranching cache.problem node → AreSetsOf cache.sets sets node.constraints →
    agent < length node.plan → AreKnown cache.problem cache.paths cache.sets → slice_get cache.sets (slice_index sets agent) ≡ Some s → HasPath s.own number path → slice_get cache.paths number ≡ Some (path_of node.plan agent)
path_at_node cache node sets agent number s path branching are l is at own =
    let inside : agent < length cache.problem.inst.starts = omega (arith, l, agents_at_node cache.problem node branching) in
    let set = are.same agent (omega (arith, inside, branching.stands.agents)) in
    let known = own_path_told cache (slice_index sets agent) number agent set.0 s path is at own set.1 in
    let all : IsSameSet set.0 (constraints_of branching.of.0 agent) =
    λ x. let one = set.2 x in let two = branching.stands.sets agent inside x in ((λ h. two.0 (one.0 h)), (λ h. one.1 (two.1 h))) in
    let one : path ≡ path_of branching.of.1 agent =
    same_own _ _ _ _ _ _ _ (own_set _ _ _ _ set.0 (constraints_of branching.of.0 agent) path all known.1) (branching.stands.member.plan.own agent inside) in
    known.0 ∙ ap Some (one ∙ ap (λ plan. path_of plan agent) (sym branching.stands.plan))

-- the agent of a query of a node's side is one of the agents
pub query_inside : (node : Node) (q : SideQuery) → IsBranching q.problem node → IsQueryOf node q → q.agent < length node.plan
query_inside node q branching is = told node.conflict refl branching.conflict
  where
    told : (x : Option Conflict) → node.conflict ≡ x → IsSome x → q.agent < length node.plan
    told None e some = absurd (let m : ◌≡◌ {A = ℕ} 0 1 = cc in omega (arith, m))
    told (Some c) e some = omega (arith, is.agent c e, agent_inside q.problem node branching.of c q.side branching.stands e, agents_at_node q.problem node branching)

-- where no agent has a constraint, an agent's path is its own one under the empty set
pub root_own : (problem : Problem) (node : Node) (agent : ℕ) → IsBranching problem node → node.constraints ≡ replicate (length node.plan) [] → agent < length node.plan → IsOwnPathOf problem agent [] (path_of node.plan agent)
root_own problem node agent branching none inside =
    let below : agent < length problem.inst.starts = omega (arith, inside, agents_at_node problem node branching) in
    let empty : get_or node.constraints agent [] ≡ [] = ap (λ l. get_or l agent []) none ∙ get_or-replicate (length node.plan) agent [] [] inside in
    let same : IsSameSet (constraints_of branching.of.0 agent) [] =
    λ x. let one = subst (λ l. IsSameSet l (constraints_of branching.of.0 agent)) empty (branching.stands.sets agent below) x in (one.1, one.0) in
    subst (λ plan. IsOwnPathOf problem agent [] (path_of plan agent)) (sym branching.stands.plan)
    (own_set _ _ _ _ (constraints_of branching.of.0 agent) [] (path_of branching.of.1 agent) same (branching.stands.member.plan.own agent below))

-- the own path of a known set serves a lower bound that it keeps
pub own_in_path : (cache : PathCache) (set number bound : ℕ) (path : List ℕ) (s : ConstraintSet) → AreKnown cache.problem cache.paths cache.sets → slice_get cache.sets set ≡ Some s → HasPath s.own number path →
    bound ≤ cache.problem.bound → cost path ≤ bound → IsOwnIn cache set bound (Some number)
own_in_path cache set number bound path s is at own small within agent cs has =
    let known = own_path_told cache set number agent cs s path is at own has in
    subst (IsOwnWithin cache.problem bound agent cs) (ap Some (sym (get_or_from_slice_get cache.paths number path [] known.0)))
    (own_within_lower _ cs bound cache.problem.bound _ _ path small within known.1)

-- what is known of the agent's set at a node and its constraint is what the side's query asks for
found_at : (cache : PathCache) (node : Node) (side : Side) (sets : List ℕ) (c : Conflict) (agent bound extended : ℕ) (constraint : Constraint) (found : Option ℕ) → AreSetsOf cache.sets sets node.constraints → node.conflict ≡ Some c →
    agent ≡ agent_on c side → constraint ≡ constraint_on c side → agent < length node.constraints → IsExtended cache.sets (slice_index sets agent) constraint extended → Leaves cache.problem node.plan agent bound → IsOwnIn cache extended bound found →
    (q : SideQuery) × IsAskedAt cache node side q × (q.agent ≡ agent) × (q.constraint ≡ constraint) × HasSet cache.sets extended q.agent q.constraints × IsFoundBy q (option_map (λ n. path_of cache.paths n) found)
found_at cache node side sets c agent bound extended constraint found are is on forbids inside has leaves own =
    let set = are.same agent inside in
    let more = has agent set.0 set.1 in (
      record { problem = cache.problem; side = side; agent = agent; constraint = constraint; constraints = more.0; bound = bound },
      (
        refl,
        refl,
        record {
          agent = λ d e. on ∙ ap (λ x. agent_on x side) (one_value c d (sym is ∙ e));
          constraint = λ d e. forbids ∙ ap (λ x. constraint_on x side) (one_value c d (sym is ∙ e));
          constraints = with_same constraint set.0 (get_or node.constraints agent []) more.0 set.2 more.2;
          leaves = leaves;
        },
      ),
      refl,
      refl,
      more.1,
      own agent more.0 more.1,
    )

-- so a set without a path tells that there is none
pub no_turn_at : (cache : PathCache) (node : Node) (side : Side) (sets : List ℕ) (c : Conflict) (agent bound extended : ℕ) (constraint : Constraint) → AreSetsOf cache.sets sets node.constraints → node.conflict ≡ Some c → agent ≡ agent_on c side →
    constraint ≡ constraint_on c side → agent < length node.constraints → IsExtended cache.sets (slice_index sets agent) constraint extended → Leaves cache.problem node.plan agent bound → IsOwnIn cache extended bound None → HasNoTurnAt cache node side
no_turn_at cache node side sets c agent bound extended constraint are is on forbids inside has leaves own =
    let found = found_at cache node side sets c agent bound extended constraint None are is on forbids inside has leaves own in (found.0, found.1, found.5)

-- and the change that gives its path is that of the turn
pub turn_at : (cache : PathCache) (node : Node) (side : Side) (sets : List ℕ) (c : Conflict) (agent bound extended : ℕ) (constraint : Constraint) (number : ℕ) (x : Changed) → AreSetsOf cache.sets sets node.constraints → node.conflict ≡ Some c →
    agent ≡ agent_on c side → constraint ≡ constraint_on c side → agent < length node.constraints → IsExtended cache.sets (slice_index sets agent) constraint extended → Leaves cache.problem node.plan agent bound →
    IsOwnIn cache extended bound (Some number) → AreKnown cache.problem cache.paths cache.sets → IsNumberOf cache.sets extended number → GivesOwn cache.sets extended constraint (Some x) → IsTurnAt cache node side number x
turn_at cache node side sets c agent bound extended constraint number x are is on forbids inside has leaves own known numbered gives =
    let found = found_at cache node side sets c agent bound extended constraint (Some number) are is on forbids inside has leaves own in
    let q = found.0 in
    let s = numbered.0 in
    let given = gives.1 s numbered.1 in
    let path : numbered.2 ≡ x.path = one_path s.own number given.1 numbered.2 x.path numbered.3 given.2 in
    let at : slice_get cache.paths number ≡ Some x.path =
    (own_path_told cache extended number q.agent q.constraints s numbered.2 known numbered.1 numbered.3 found.4).0 ∙ ap Some path in (
      q,
      found.1,
      given.0 ∙ (same_set cache.sets extended q.agent q.constraints s numbered.1 found.4).0,
      gives.0 ∙ sym found.3,
      at,
      subst (λ p. IsFoundBy q (Some p)) (get_or_from_slice_get cache.paths number x.path [] at) found.5,
    )

-- where the query of a side has no own path there is no child
pub none_at : (cache : PathCache) (node : Node) (side : Side) → HasNoTurnAt cache node side → IsChildOf cache.problem node side None
none_at cache node side found = subst₂ (λ p s. IsChildOf p node s None) found.1.0 found.1.1 (no_child node found.0 found.1.2 found.2)

-- with one the child is within the bound
pub small_at : (cache : PathCache) (node : Node) (side : Side) (number : ℕ) (x : Changed) → IsBranching cache.problem node → IsTurnAt cache node side number x →
    (x.agent < length node.plan) × (plan_cost (set node.plan x.agent x.path) ≤ cache.problem.bound)
small_at cache node side number x branching turn =
    let q = turn.0 in
    let inside : q.agent < length node.plan = query_inside node q (subst (λ p. IsBranching p node) (sym turn.1.0) branching) turn.1.2 in (
      subst (λ a. a < length node.plan) (sym turn.2) inside,
      subst₂ (λ a n. plan_cost (set node.plan a x.path) ≤ n) (sym turn.2) (ap (λ (p : Problem). p.bound) turn.1.0) (within_bound q.problem node.plan q.agent q.bound q.constraints x.path inside turn.1.2.leaves turn.5),
    )

-- and the node that has it is the child
pub child_at : (cache : PathCache) (node new : Node) (side : Side) (number : ℕ) (x : Changed) → IsTurnAt cache node side number x → new.name ≡ node.name ++ side ∷ [] → new.changes ≡ node.changes ++ x ∷ [] →
    new.constraints ≡ set node.constraints x.agent (x.constraint ∷ get_or node.constraints x.agent []) → new.plan ≡ set node.plan x.agent x.path → new.rule ≡ node.rule → IsConflictOf node.rule (set node.plan x.agent x.path) new.conflict →
    IsChildOf cache.problem node side (Some new)
child_at cache node new side number x turn name changes constraints plan rule conflict =
    subst₂ (λ p s. IsChildOf p node s (Some new)) turn.1.0 turn.1.1
    (is_child node new turn.0 x turn.1.2 turn.5 turn.2 turn.3 (subst (λ s. new.name ≡ node.name ++ s ∷ []) (sym turn.1.1) name) changes constraints plan rule conflict)
