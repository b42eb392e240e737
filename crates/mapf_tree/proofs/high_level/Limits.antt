-- The limit on nodes: where a search gives up, and where it doesn't.
use Rattle.mapf_tree.proofs.Prelude.{◌≡◌, ℕ, ◌<◌, ◌≤◌, List, ◌∷◌, length, map, Option, Some, None, inl, inr, subst, sym, refl, ap, ◌∙◌, ⊎_elim, arith, Contains, cases_lt, by_cases, here_or_there, by_compare, irreflexive, asymmetric, transitive, before_le, first_le}
use Rattle.mapf_tree.specs.Prelude.{Precedes, IsLeast, plan_cost, HasNoConflict, IsValid, Answer}
use Rattle.mapf_plan.specs.declared.answer.Answer.TheVariants as answer
use Rattle.mapf_tree.proofs.Prelude.{first_conflict}
use Rattle.mapf_tree.specs.Prelude.{Problem, turn, PlannedNode, IsMember, IsSolution, key, stated, IsStated, IsAnswerUpTo, IsAnswerOf, IsReached, IsWaiting, TakesBetween, IsSearchAt, StatedIsUnique}
use Rattle.mapf_tree.specs.Cut.{IsAtPlace, IsInCut, IsCutAt}
use Rattle.mapf_tree.proofs.solutions.Descent.{cheaper_solution}
use Rattle.mapf_tree.proofs.finite.Distinct.{distinct_le}
use Rattle.mapf_tree.proofs.high_level.SearchLaws.{dec_reached, waits_above, x_waits, none_between, still, ends_at_first}
use Rattle.mapf_tree.proofs.finite.TakenNodes.{distinct}
use Rattle.mapf_tree.proofs.Unique.{same_member, answer_is_unique}

-- a node that no solution comes before costs no more than any valid plan: within the bound a solution costs no more than the plan
pub none_is_cheaper : (p : Problem) (m : PlannedNode) → IsMember p m → ((s : PlannedNode) → IsSolution p s → ¬ Precedes (key s) (key m)) →
    (plan : List (List ℕ)) → IsValid p.rule p.inst plan → plan_cost m.1 ≤ plan_cost plan
none_is_cheaper p m member no_later plan valid =
    ⊎_elim (λ over. omega (arith, over, member.plan.within)) within (cases_lt p.bound (plan_cost plan))
  where
    within : plan_cost plan ≤ p.bound → plan_cost m.1 ≤ plan_cost plan
    within h =
        let w = cheaper_solution p plan valid h in
        let l : plan_cost m.1 ≤ plan_cost w.0.1 =
        first_le (plan_cost m.1) (plan_cost w.0.1) (length m.0.name ∷ map turn m.0.name) (length w.0.0.name ∷ map turn w.0.0.name) (no_later w.0 w.1) in
        omega (arith, l, w.2)

-- no solution comes before a node where a search gives up
none_before_cut : (p : Problem) (n : ℕ) (m : PlannedNode) → IsCutAt p n m → (s : PlannedNode) → IsSolution p s → ¬ Precedes (key s) (key m)
none_before_cut p n m is s solves l = ⊎_elim (λ cut. asymmetric (key s) (key m) l (cut.1 s solves)) (λ first. first.least s solves l) is.1

module _ (p : Problem) (n : ℕ) (m : PlannedNode) (is : IsAtPlace p n m) (xs : List PlannedNode) (all : (y : PlannedNode) → IsMember p y → Precedes (key y) (key m) → Contains xs y) where
  -- a list that has all nodes before the one at place n has n nodes at least
  at_least : n ≤ length xs
  at_least = omega (arith, is.count, distinct_le is.before xs (distinct is.before is.once) (λ y c. let h = (is.each y).0 c in all y h.0 h.1))

  -- and more, if it has that one too
  more_than : Contains xs m → n < length xs
  more_than itself =
      let more : length (m ∷ is.before) ≤ length xs =
      distinct_le (m ∷ is.before) xs ((λ c. irreflexive (key m) ((is.each m).0 c).1), distinct is.before is.once)
      (λ y c. ⊎_elim (λ e. subst (Contains xs) e itself) (λ i. let h = (is.each y).0 i in all y h.0 h.1) (here_or_there is.before c)) in
      omega (arith, is.count, more)

module _ (p : Problem) (last : Option (List ℕ)) (Waits : PlannedNode → Type 0) (at : IsSearchAt p last Waits) where
  module _ (x : PlannedNode) (least : IsLeast key Waits x) where
    waits : IsWaiting p last x
    waits = x_waits p last Waits x at least

    -- what comes before x is taken
    before_is_reached : (y : PlannedNode) → IsMember p y → Precedes (key y) (key x) → IsReached last y
    before_is_reached y h l = by_cases (dec_reached p last y) (λ r. r) (λ n. absurd (none_between p last Waits x at least y h n l))

    -- and what is taken comes before x
    reached_is_before : (y : PlannedNode) → IsMember p y → IsReached last y → Precedes (key y) (key x)
    reached_is_before y h r =
        by_compare (key y) (key x) (λ e. absurd (waits.open_yet (subst (IsReached last) (same_member p y x h waits.member e) r))) (λ l. l)
        (λ l. absurd (still p last Waits x at least last waits.open_yet y r l))

    -- so x is at the place of the number of taken nodes
    at_place : (n : ℕ) → TakesBetween p None last n → IsAtPlace p n x
    at_place n took = record {
      member = waits.member;
      before = took.0;
      once = took.1;
      count = took.2;
      each = λ y. (
        (λ c. let h = (took.3 y).0 c in (h.0, reached_is_before y h.0 h.1)),
        (λ h. (took.3 y).1 (h.0, before_is_reached y h.0 h.1, λ r. r)),
      );
    }

    -- no solution comes before x
    none_solves_before : (s : PlannedNode) → IsSolution p s → ¬ Precedes (key s) (key x)
    none_solves_before s is l = at.none_yet s is.planned (before_is_reached s is.planned l) is.no_conflict

    -- so no plan without conflict costs less than x
    pub least_is_below : (plan : List (List ℕ)) → IsValid p.rule p.inst plan → plan_cost x.1 ≤ plan_cost plan
    least_is_below = none_is_cheaper p x waits.member none_solves_before

    -- a node with a conflict comes before each solution
    in_cut : (¬ HasNoConflict p.rule x.1) → IsInCut p x
    in_cut conflict = (
      waits.member,
      λ s is. by_compare (key x) (key s) (λ e. absurd (conflict (subst (λ y. HasNoConflict p.rule y.1) (sym (same_member p x s waits.member is.planned e)) is.no_conflict)))
          (λ l. l) (λ l. absurd (none_solves_before s is l)),
    )

    -- where as many nodes are taken as may be, the search gives up at x
    pub is_cut : (n : ℕ) → TakesBetween p None last n → IsCutAt p n x
    is_cut n took = (
      at_place n took,
      ⊎_elim (λ c. inl (in_cut (λ free. free c.0 c.1.member))) (λ free. inr (ends_at_first p last Waits x at least free)) (first_conflict p.rule x.1),
    )

    -- where fewer are taken and x is a solution, it doesn't
    pub solved_before : (n k : ℕ) → TakesBetween p None last k → k < n → HasNoConflict p.rule x.1 → (m : PlannedNode) → ¬ IsCutAt p n m
    solved_before n k took less free m is =
        omega (arith, less, took.2, at_least p n m is.0 took.0 (λ y h l. (took.3 y).1 (h, before_is_reached y h (before_le (key y) (key m) (key x) l no_later), λ r. r)))
      where
        no_later : ¬ Precedes (key x) (key m)
        no_later = none_before_cut p n m is x (record { planned = waits.member; no_conflict = free })

  -- where nothing waits and no more are taken than may be, it doesn't either
  pub empty_before : ((x : PlannedNode) → ¬ Waits x) → (n k : ℕ) → TakesBetween p None last k → k ≤ n → (m : PlannedNode) → ¬ IsCutAt p n m
  empty_before empty n k took few m is = omega (arith, few, took.2, more_than p n m is.0 took.0 (λ y h l. taken y h) (taken m is.0.member))
    where
      taken : (y : PlannedNode) → IsMember p y → Contains took.0 y
      taken y h =
          by_cases (dec_reached p last y) (λ r. (took.3 y).1 (h, r, λ s. s))
          (λ n. let w = waits_above p last y.0 y.1 h.inside h.plan n in absurd (empty w.0 ((at.waits w.0).1 w.1)))

-- where the search doesn't give up, the answer is that without a limit
pub as_stated : (p : Problem) (given : Answer) → ((n : ℕ) → p.nodes ≡ Some n → (m : PlannedNode) → ¬ IsCutAt p n m) → IsStated p given → IsAnswerOf p given
as_stated p given never is = go p.nodes refl
  where
    go : (o : Option ℕ) → p.nodes ≡ o → IsAnswerUpTo o p given
    go None e = is
    go (Some n) e = inr (never n e, is)

-- and where it does, the cost of the node is the answer
pub as_given_up : (p : Problem) (n : ℕ) (m : PlannedNode) (given : Answer) → p.nodes ≡ Some n → IsCutAt p n m → given ≡ answer.GaveUp n (plan_cost m.1) → IsAnswerOf p given
as_given_up p n m given e is said = subst (λ o. IsAnswerUpTo o p given) (sym e) (inl (m, is, said))

-- that node costs no more than any valid plan
pub cut_is_below : (p : Problem) (n : ℕ) (m : PlannedNode) → IsCutAt p n m → (plan : List (List ℕ)) → IsValid p.rule p.inst plan → plan_cost m.1 ≤ plan_cost plan
cut_is_below p n m is = none_is_cheaper p m is.0.member (none_before_cut p n m is)

-- one node is at a place: two would be as many as the later one has before it
earlier_at : (p : Problem) (n : ℕ) (a b : PlannedNode) → IsAtPlace p n a → IsAtPlace p n b → ¬ Precedes (key a) (key b)
earlier_at p n a b h k l = omega (arith, k.count, more_than p n a h k.before (λ y i before. (k.each y).1 (i, transitive (key y) (key a) (key b) before l)) ((k.each a).1 (h.member, l)))

same_place : (p : Problem) (n : ℕ) (a b : PlannedNode) → IsAtPlace p n a → IsAtPlace p n b → a ≡ b
same_place p n a b h k =
    by_compare (key a) (key b) (λ e. same_member p a b h.member k.member e) (λ l. absurd (earlier_at p n a b h k l)) (λ l. absurd (earlier_at p n b a k h l))

without_limit : (p : Problem) (a b : Answer) → IsStated p a → IsStated p b → a ≡ b
without_limit p a b (x, is, e) (y, other, f) = e ∙ ap (stated p) (answer_is_unique p x y is other) ∙ sym f

-- so the stated answer is one
pub stated_is_unique : StatedIsUnique
stated_is_unique p a b = go p.nodes
  where
    go : (o : Option ℕ) → IsAnswerUpTo o p a → IsAnswerUpTo o p b → a ≡ b
    go None is other = without_limit p a b is other
    go (Some n) (inl (m, cut, e)) (inl (k, other, f)) = e ∙ ap (λ (x : PlannedNode). answer.GaveUp n (plan_cost x.1)) (same_place p n m k cut.0 other.0) ∙ sym f
    go (Some n) (inl (m, cut, e)) (inr (never, other)) = absurd (never m cut)
    go (Some n) (inr (never, is)) (inl (k, other, f)) = absurd (never k other)
    go (Some n) (inr (never, is)) (inr (none, other)) = without_limit p a b is other
