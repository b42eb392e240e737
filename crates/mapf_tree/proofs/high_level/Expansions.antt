-- One step of a search over nodes.
use Rattle.mapf_tree.proofs.Prelude.{◌≡◌, ◌⊎◌, ℕ, ◌+◌, ◌<◌, ◌≤◌, min, List, [], ◌∷◌, Bool, true, false, Option, Some, None, is_some, IsSome, not, Result, Ok, inl, inr, subst, sym, refl, ap, ◌∙◌, ⊎_elim, arith, Contains, nowhere, here}
use Rattle.mapf_tree.specs.Prelude.{NoMemory, IsLeast, plan_cost, HasNoConflict, IsValid, Conflict, Left, Right}
use Rattle.mapf_tree.specs.declared.search.expansion.Expansion.TheVariants as variant
use Rattle.mapf_tree.specs.Prelude.{root_of, key, IsAnswer, PlannedNode, IsMember, IsRoot, IsBranching, IsChildOf, IsRising, IsAddedIfSome, Answer}
use Rattle.mapf_plan.specs.declared.answer.Answer.TheVariants as answer
use Rattle.mapf_tree.specs.Prelude.{Problem, IsLimit, IsReached, IsWaiting, IsTakenTo, NoneSolves, IsLawful, IsCounted, TakesBetween, most_counted, IsSearchAt, ExpandsLeast, TakesLeast, IsGivenUp, GoesUpTo, TakesOne, Node, node_key, AllStand, HasNodeFor}
use Rattle.mapf_tree.proofs.high_level.SearchLaws.{reached_now, reached_then, next_waits, ends_at_first, ends_at_none, starts}
use Rattle.mapf_tree.proofs.high_level.Limits.{least_is_below, is_cut, solved_before, empty_before, as_stated, as_given_up}
use Rattle.mapf_tree.proofs.high_level.GoingOn.{takes_none, takes_more}
use Rattle.mapf_tree.proofs.high_level.OpenNodes.{key-stands, none_stands, conflict_stands, solved_expansion, branched_expansion, root_node, node_adds, AddsSide}

module _ (p : Problem) (last : Option (List ℕ)) (old : List Node) (taken : IsTakenTo p last old) (none : NoneSolves p last) where
  -- the search over the nodes that wait
  at : IsSearchAt p last (HasNodeFor p old)
  at = record { waits = taken.waits; none_yet = none }

  -- the least that waits costs no more than any plan without conflict
  pub least_below : (x : PlannedNode) → IsLeast key (HasNodeFor p old) x → (plan : List (List ℕ)) → IsValid p.rule p.inst plan → plan_cost x.1 ≤ plan_cost plan
  least_below x least = least_is_below p last (HasNodeFor p old) at x least

  -- if nothing waits, there is no solution
  pub none_left : old ≡ [] → IsAnswer p None
  none_left e = ends_at_none p last (HasNodeFor p old) at (λ x s. nowhere (subst (λ ns. Contains ns s.0) e s.1))

  module _ (new : List Node) (x : PlannedNode) (turn : ExpandsLeast p old new x) where
    -- x waited
    waited : IsWaiting p last x
    waited = (taken.waits x).0 turn.least.member

    -- what is reached then was reached, or is x
    now_or_before : (m : PlannedNode) → IsMember p m → IsReached (Some (key x)) m → IsReached last m ⊎ (m ≡ x)
    now_or_before = reached_now p last (HasNodeFor p old) x at turn.least

    -- x is in the tree
    pub is_member : IsMember p x
    is_member = waited.member

    -- one node more is taken
    pub takes_one : TakesOne p last (Some (key x))
    takes_one = (x, waited.member, waited.open_yet, λ m h. (now_or_before m h, reached_then p last (HasNodeFor p old) x at turn.least m))

    -- what waits then is what is to wait
    pub taken_to : IsTakenTo p (Some (key x)) new
    taken_to =
        record {
          greatest = (x, waited.member, refl);
          none_before = λ m h r n. ⊎_elim (λ s. absurd (none m h s n)) (λ e. ap (λ y. Some (key y)) (sym e)) (now_or_before m h r);
          stand = turn.stand;
          waits = next_waits p last (HasNodeFor p old) x at turn.least (HasNodeFor p new) turn.next;
        }

    -- if the plan of x has a conflict, there is no solution yet
    pub none_solves : ¬ HasNoConflict p.rule x.1 → NoneSolves p (Some (key x))
    none_solves conflict m h r n = ⊎_elim (λ s. none m h s n) (λ e. conflict (subst (λ y. HasNoConflict p.rule y.1) e n)) (now_or_before m h r)

    -- and if it has none, it is the answer
    pub solves : HasNoConflict p.rule x.1 → IsAnswer p (Some x.1)
    solves free = (x.0, ends_at_first p last (HasNodeFor p old) x at turn.least free)

-- the root waits at first, if it is in the tree
pub root_waits : (p : Problem) (o : Option Node) (old new : List Node) → old ≡ [] → IsRoot p o → IsAddedIfSome old o new → IsTakenTo p None new × NoneSolves p None
root_waits p o old new none is given = (record { greatest = tt; none_before = λ m h r n. absurd r; stand = adds.stand; waits = at.waits }, at.none_yet)
  where
    put : IsAddedIfSome [] o new
    put = subst (λ ns. IsAddedIfSome ns o new) none given

    adds : AddsSide p [] new (root_of p)
    adds = node_adds p [] new (root_of p) o (λ n c. absurd (nowhere c)) (root_node p o is) put

    at : IsSearchAt p None (HasNodeFor p new)
    at = starts p (HasNodeFor p new) (λ m. ((λ s. ⊎_elim (λ k. absurd (nowhere k.1)) (λ h. h) ((adds.shows m).0 s)), (λ h. (adds.shows m).1 (inr h))))

-- a node is taken whose plan has no conflict
pub solved_case : (p : Problem) (old new : List Node) (first : Node) (plan : List (List ℕ)) → old ≡ first ∷ new → IsRising old → AllStand p old → first.conflict ≡ None → plan ≡ first.plan → TakesLeast p old new (variant.Solved first plan)
solved_case p old new first plan e rising all none is =
    let x = all first (subst (λ ns. Contains ns first) (sym e) (here new refl)) in
    let free = none_stands p first x.0 x.1 none in
    (x.0, solved_expansion p old new first x.0 e rising all x.1 free, free, key-stands p first x.0 x.1, is ∙ x.1.plan)

-- a conflict that a test found
pub conflict_there : (o q : Option Conflict) (b : Bool) → is_some o ≡ not b → o ≡ q → b ≡ false → (c : Conflict) × (q ≡ Some c)
conflict_there o None b e s f = let k : false ≡ true = sym (ap is_some s) ∙ e ∙ ap not f in cc
conflict_there o (Some c) b e s f = (c, refl)

-- so there is one
pub some_there : (o q : Option Conflict) (b : Bool) → is_some o ≡ not b → o ≡ q → b ≡ false → IsSome q
some_there o q b e s f = let c = conflict_there o q b e s f in subst (λ (x : Option Conflict). IsSome x) (sym c.1) refl

-- and one that it didn't find
pub conflict_absent : (o q : Option Conflict) (b : Bool) → is_some o ≡ not b → o ≡ q → b ≡ true → q ≡ None
conflict_absent o None b e s t = refl
conflict_absent o (Some c) b e s t = let k : true ≡ false = sym (ap is_some s) ∙ e ∙ ap not t in cc

-- the taken node branches, if it has a conflict
pub branches : (p : Problem) (old rest : List Node) (first : Node) → old ≡ first ∷ rest → AllStand p old → IsSome first.conflict → IsBranching p first
branches p old rest first e all some =
    let x = all first (subst (λ ns. Contains ns first) (sym e) (here rest refl)) in
    record { of = x.0; stands = x.1; conflict = some }

-- a node is expanded
pub branched_case : (p : Problem) (old rest mid new : List Node) (first : Node) (l r : Option Node) → old ≡ first ∷ rest → IsRising old → AllStand p old → ((c : Conflict) × (first.conflict ≡ Some c)) → IsChildOf p first Left l → IsChildOf p first Right r → IsAddedIfSome rest l mid → IsAddedIfSome mid r new → TakesLeast p old new (variant.Branched first)
branched_case p old rest mid new first l r e rising all c left right put put' =
    let x = all first (subst (λ ns. Contains ns first) (sym e) (here rest refl)) in
    let f = conflict_stands p first x.0 c.0 x.1 c.1 in
    (x.0, branched_expansion p old rest mid new first x.0 c.0 l r e rising all x.1 c.1 (left x.0 c.0 x.1 c.1) (right x.0 c.0 x.1 c.1) put put', (λ n. n c.0 f.member), key-stands p first x.0 x.1)

-- a search without an answer has no solution yet
going : (p : Problem) (old : List Node) (last : Option (List ℕ)) (outcome : Result (Option Answer) NoMemory) → IsLawful p old last outcome → outcome ≡ Ok None → IsTakenTo p last old × NoneSolves p last
going p old last outcome h e = let k = subst (λ o. IsLawful p old last o) e h in k

-- a node waits, so one more may be taken
one_more : (p : Problem) (old new : List Node) (x : PlannedNode) (k n : ℕ) → GoesUpTo p old k → p.nodes ≡ Some n → ExpandsLeast p old new x → k < n
one_more p old new x k n up e turn =
    ⊎_elim (λ less. less) (λ none. absurd (nowhere (subst (λ ns. Contains ns turn.least.member.0) none turn.least.member.1))) (up n e)

-- the count at first
pub counted_first : (p : Problem) → IsCounted p None 0
counted_first p = ((0, takes_none p None, omega arith), (λ n limit. omega arith))

-- the count after one node more
pub counted_more : (p : Problem) (old new : List Node) (last to : Option (List ℕ)) (x : PlannedNode) (k more : ℕ) → IsCounted p last k → GoesUpTo p old k
    → ExpandsLeast p old new x → TakesOne p last to → more ≡ min (k + 1) most_counted → IsCounted p to more
counted_more p old new last to x k more counted up turn one is = (
  (counted.0.0 + 1, takes_more p None last to counted.0.0 (λ m h r. absurd r) counted.0.1 one, omega (arith, is, counted.0.2)),
  (λ n limit. let less = one_more p old new x k n up limit turn in omega (arith, is, less)),
)

-- with a limit the count is that of the taken nodes, and no more than may be taken
counted_at : (p : Problem) (last : Option (List ℕ)) (k n : ℕ) → IsCounted p last k → IsLimit p.nodes → p.nodes ≡ Some n → TakesBetween p None last k × (k ≤ n)
counted_at p last k n counted few limit =
    let less = counted.1 n limit in
    let all : counted.0.0 ≡ k = omega (arith, less, counted.0.2, (subst IsLimit limit few).1) in
    (subst (TakesBetween p None last) all counted.0.1, less)

-- it goes on once a node is expanded
pub branched_lawful : (p : Problem) (old new : List Node) (last : Option (List ℕ)) (outcome : Result (Option Answer) NoMemory) (node : Node) → IsLawful p old last outcome → outcome ≡ Ok None → TakesLeast p old new (variant.Branched node) → IsLawful p new (Some (node_key node)) outcome × TakesOne p last (Some (node_key node))
branched_lawful p old new last outcome node h e t =
    let s = going p old last outcome h e in
    let to = taken_to p last old s.0 s.1 new t.0 t.1 in
    let none = none_solves p last old s.0 s.1 new t.0 t.1 t.2 in
    let one = takes_one p last old s.0 s.1 new t.0 t.1 in
    (subst (λ o. IsLawful p new (Some (node_key node)) o) (sym e) (subst (λ r. IsTakenTo p (Some r) new × NoneSolves p (Some r)) (sym t.3) (to, none)), subst (λ r. TakesOne p last (Some r)) (sym t.3) one)

-- it has the answer once a solution is taken
pub solved_lawful : (p : Problem) (old new : List Node) (last : Option (List ℕ)) (outcome : Result (Option Answer) NoMemory) (taken : ℕ) (node : Node) (plan : List (List ℕ)) (stated : ℕ) → IsLawful p old last outcome → outcome ≡ Ok None
    → IsCounted p last taken → IsLimit p.nodes → GoesUpTo p old taken → TakesLeast p old new (variant.Solved node plan) → stated ≡ plan_cost plan → IsLawful p new (Some (node_key node)) (Ok (Some (answer.Plan plan stated))) × TakesOne p last (Some (node_key node))
solved_lawful p old new last outcome taken node plan stated h e counted few up t cost =
    let s = going p old last outcome h e in
    let to = taken_to p last old s.0 s.1 new t.0 t.1 in
    let is = solves p last old s.0 s.1 new t.0 t.1 t.2 in
    let one = takes_one p last old s.0 s.1 new t.0 t.1 in
    let states : answer.Plan plan stated ≡ answer.Plan t.0.1 (plan_cost t.0.1) = ap (λ n. answer.Plan plan n) cost ∙ ap (λ q. answer.Plan q (plan_cost q)) t.4 in (
      (
        subst (λ r. IsTakenTo p (Some r) new) (sym t.3) to,
        as_stated p (answer.Plan plan stated)
            (λ n limit. solved_before p last (HasNodeFor p old) (at p last old s.0 s.1) t.0 t.1.least n taken (counted_at p last taken n counted few limit).0 (one_more p old new t.0 taken n up limit t.1) t.2)
            (Some plan, subst (λ q. IsAnswer p (Some q)) (sym t.4) is, ap (λ n. answer.Plan plan n) cost),
        inr (inl (t.0, is_member p last old s.0 s.1 new t.0 t.1, t.2, ap Some t.3, states)),
      ),
      subst (λ r. TakesOne p last (Some r)) (sym t.3) one,
    )

-- and where nothing waits
pub empty_lawful : (p : Problem) (old new : List Node) (last : Option (List ℕ)) (outcome : Result (Option Answer) NoMemory) (taken : ℕ) → IsLawful p old last outcome → outcome ≡ Ok None → IsCounted p last taken → IsLimit p.nodes
    → TakesLeast p old new variant.Empty → IsLawful p new last (Ok (Some (answer.None p.bound)))
empty_lawful p old new last outcome taken h e counted few t =
    let s = going p old last outcome h e in (
      subst (λ ns. IsTakenTo p last ns) (t.0 ∙ sym t.1) s.0,
      as_stated p (answer.None p.bound)
          (λ n limit. let count = counted_at p last taken n counted few limit in
          empty_before p last (HasNodeFor p old) (at p last old s.0 s.1) (λ x has. nowhere (subst (λ ns. Contains ns has.0) t.0 has.1)) n taken count.0 count.1)
          (None, none_left p last old s.0 s.1 t.0, refl),
      inl (t.1, refl),
    )

-- and where it gives up
pub given_up_lawful : (p : Problem) (waiting : List Node) (last : Option (List ℕ)) (outcome : Result (Option Answer) NoMemory) (taken : ℕ) (given : Answer) → IsLawful p waiting last outcome → outcome ≡ Ok None
    → IsCounted p last taken → IsLimit p.nodes → IsGivenUp p waiting taken given → IsLawful p waiting last (Ok (Some given))
given_up_lawful p waiting last outcome taken given h e counted few (n, limit, all, (least, (x, first, cost), said)) =
    let s = going p waiting last outcome h e in
    let count = counted_at p last taken n counted few limit in
    let is : taken ≡ n = omega (arith, count.1, all) in
    let took = subst (TakesBetween p None last) is count.0 in
    let states : given ≡ answer.GaveUp n (plan_cost x.1) = said ∙ ap (λ k. answer.GaveUp n k) cost in (
      s.0,
      as_given_up p n x given limit (is_cut p last (HasNodeFor p waiting) (at p last waiting s.0 s.1) x first n took) states,
      inr (inr (n, limit, took, (x, first, states))),
    )
