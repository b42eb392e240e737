-- What an instance's answer means for its text.
use Rattle.std.proofs.Common.{◌≡◌, ◌≢◌, ℕ, suc, ◌<◌, ◌≤◌, ◌⊎◌, List, [], ◌∷◌, length, get_or, slice_index, Option, Some, None, Result, Ok, Err, IfOk, inl, inr, subst, refl, sym, ap, ◌∙◌, arith}
use Rattle.std.specs.List.{AllByRecursion}
use Rattle.std.proofs.lemmas.Option.{same_Some}
use Rattle.mapf_grid.specs.Grid.{HasSizes, cells}
use Rattle.mapf_grid.specs.Instance.{Instance}
use Rattle.mapf_plan.specs.Plan.{plan_cost, path_of, IsValid, IsOptimum}
use Rattle.mapf_plan.specs.declared.answer.TheConstants.{MOST_BOUND}
use Rattle.mapf_plan.specs.Text.{text, CanWrite}
use Rattle.mapf_plan.specs.declared.answer.Answer.{Answer}
use Rattle.mapf_plan.specs.declared.answer.Answer.TheVariants as answer
use Rattle.mapf_plan.proofs.Paths.{cells_below}
use Rattle.mapf_tree.specs.Problem.{Problem, IsLimit}
use Rattle.mapf_tree.specs.Tree.{PlannedNode}
use Rattle.mapf_tree.specs.Cut.{IsCutAt}
use Rattle.mapf_tree.specs.Answered.{stated, IsStated, IsAnswerUpTo, IsAnswerOf}
use Rattle.mapf_tree.proofs.solutions.Descent.{answer_is_optimum, none_is_none}
use Rattle.mapf_tree.proofs.high_level.Limits.{as_given_up, cut_is_below, stated_is_unique}
use Rattle.mapf_optimum.specs.AnyAnswer.{IsAnyAnswer}
use Rattle.mapf_solve.specs.Out.{problem_of, without_limit, IsText, IsBest, KeepsLimit}
use Rattle.mapf_solve.specs.AnyOut.{IsAnyText, KeepsAnyLimit}
use Rattle.mapf_solve.specs.declared.ask.Ask.{Ask}
use Rattle.mapf_solve.proofs.WithoutLimit.{same_answer}

-- what holds of each agent's path holds of the list of paths
all_paths : (P : List ℕ → Type 0) (plan : List (List ℕ)) → ((i : ℕ) → i < length plan → P (path_of plan i)) → AllByRecursion P plan
all_paths P [] each = tt
all_paths P (p ∷ plan) each = (each 0 (omega arith), all_paths P plan (λ i h. each (suc i) (omega (arith, h))))

-- every cell of a valid plan lies on the map
plan_inside : (problem : Problem) (plan : List (List ℕ)) → HasSizes problem.inst.grid → IsValid problem.rule problem.inst plan → AllByRecursion (AllByRecursion (λ c. c < cells problem.inst.grid)) plan
plan_inside problem plan sizes valid =
    all_paths (AllByRecursion (λ c. c < cells problem.inst.grid)) plan (λ i h. path_inside i (subst (λ n. i < n) valid.agents h))
  where
    path_inside : (i : ℕ) → i < length problem.inst.starts → AllByRecursion (λ c. c < cells problem.inst.grid) (path_of plan i)
    path_inside i h =
        subst (λ n. AllByRecursion (λ c. c < n) (path_of plan i)) sizes.each_cell
        (cells_below problem.inst.grid (slice_index problem.inst.starts i) (slice_index problem.inst.goals i) (path_of plan i) (valid.paths i h))

-- so an optimum, none or a lower bound has a text
pub can_write : (problem : Problem) (given : Answer) → HasSizes problem.inst.grid → problem.bound ≤ MOST_BOUND → IsLimit problem.nodes → IsAnyAnswer problem given → CanWrite problem.inst.grid given
can_write problem (answer.Plan plan cost) sizes small limit is =
    let within : plan_cost plan ≤ problem.bound = is.0.within in
    (omega (arith, within, small, is.1), plan_inside problem plan sizes is.0.valid)
can_write problem (answer.None bound) sizes small limit is = omega (arith, small, is.0)
can_write problem (answer.GaveUp nodes least) sizes small limit is =
    let may : IsLimit (Some nodes) = subst IsLimit is.0 limit in (may.0, may.1, omega (arith, is.1, small))

-- a stated answer is an optimum, or none where there is no valid plan within the bound
stated_is_any : (problem : Problem) (given : Answer) → IsStated problem given → IsAnyAnswer problem given
stated_is_any problem given (Some plan, first, e) = subst (IsAnyAnswer problem) (sym e) (answer_is_optimum problem plan first, refl)
stated_is_any problem given (None, never, e) = subst (IsAnyAnswer problem) (sym e) (refl, (none_is_none problem).0 never)

-- and what is stated at the limit costs no more than any valid plan
first_is_any : (problem : Problem) (given : Answer) → IsAnswerOf problem given → IsAnyAnswer problem given
first_is_any problem given = go problem.nodes refl
  where
    go : (o : Option ℕ) → problem.nodes ≡ o → IsAnswerUpTo o problem given → IsAnyAnswer problem given
    go None at is = stated_is_any problem given is
    go (Some n) at (inl (m, cut, e)) =
        subst (IsAnyAnswer problem) (sym e) (at, cut.0.member.plan.within, cut_is_below problem n m cut)
    go (Some n) at (inr (never, is)) = stated_is_any problem given is

-- so is an answer that was found, if one was
pub found_is_any : {E : Type 0} (problem : Problem) (found : Result Answer E) → IfOk found (IsAnswerOf problem) → IfOk found (IsAnyAnswer problem)
found_is_any problem (Ok given) is = first_is_any problem given is
found_is_any problem (Err e) is = tt

-- so the text of the first solution is that of any optimum
text_is_any : (map scen : List ℕ) (ask : Ask) (bytes : List ℕ) → IsText map scen ask bytes → IsAnyText map scen ask bytes
text_is_any map scen ask bytes is = record {
  bound = is.bound;
  workers = is.workers;
  nodes = is.nodes;
  inst = is.inst;
  asked = is.asked;
  given = is.given;
  answer = first_is_any (problem_of is.inst ask) is.given is.answer;
  spelled = is.spelled;
}

-- the text of any optimum, where the search didn't give up, is best
pub any_text_is_best : (map scen : List ℕ) (ask : Ask) (bytes : List ℕ) → ask.nodes ≡ None → IsAnyText map scen ask bytes → IsBest map scen ask bytes
any_text_is_best map scen ask bytes unlimited is = record { inst = is.inst; asked = is.asked; best = best is.given is.answer is.spelled }
  where
    best : (given : Answer) → IsAnyAnswer (problem_of is.inst ask) given → bytes ≡ text is.inst.grid given →
        ((plan : List (List ℕ)) × IsOptimum ask.rule is.inst ask.bound plan × (bytes ≡ text is.inst.grid (answer.Plan plan (plan_cost plan))))
        ⊎ (((plan : List (List ℕ)) → IsValid ask.rule is.inst plan → plan_cost plan ≤ ask.bound → ⊥) × (bytes ≡ text is.inst.grid (answer.None ask.bound)))
    best (answer.Plan plan cost) given e = inl (plan, given.0, e ∙ ap (λ c. text is.inst.grid (answer.Plan plan c)) given.1)
    best (answer.None bound) given e = inr (given.1, e ∙ ap (λ b. text is.inst.grid (answer.None b)) given.0)
    best (answer.GaveUp nodes least) given e = let both : Some nodes ≡ None = sym given.0 ∙ unlimited in cc

-- at a limit it is best, or says that the search gave up
pub any_text_keeps_limit : (map scen : List ℕ) (ask : Ask) (n : ℕ) (bytes : List ℕ) → ask.nodes ≡ Some n → IsAnyText map scen ask bytes → KeepsAnyLimit map scen ask n bytes
any_text_keeps_limit map scen ask n bytes limit is = record { inst = is.inst; asked = is.asked; best = best is.given is.answer is.spelled }
  where
    best : (given : Answer) → IsAnyAnswer (problem_of is.inst ask) given → bytes ≡ text is.inst.grid given →
        ((least : ℕ) × (bytes ≡ text is.inst.grid (answer.GaveUp n least)) × ((plan : List (List ℕ)) → IsValid ask.rule is.inst plan → least ≤ plan_cost plan)) ⊎ IsBest map scen ask bytes
    best (answer.Plan plan cost) given e =
        inr (record { inst = is.inst; asked = is.asked; best = inl (plan, given.0, e ∙ ap (λ c. text is.inst.grid (answer.Plan plan c)) given.1) })
    best (answer.None bound) given e =
        inr (record { inst = is.inst; asked = is.asked; best = inr (given.1, e ∙ ap (λ b. text is.inst.grid (answer.None b)) given.0) })
    best (answer.GaveUp nodes least) given e =
        let same : nodes ≡ n = sym (same_Some n nodes (sym limit ∙ given.0)) in
        inl (least, e ∙ ap (λ k. text is.inst.grid (answer.GaveUp k least)) same, given.2)

-- so the text without a limit is best
pub text_is_best : (map scen : List ℕ) (ask : Ask) (bytes : List ℕ) → ask.nodes ≡ None → IsText map scen ask bytes → IsBest map scen ask bytes
text_is_best map scen ask bytes e is = any_text_is_best map scen ask bytes e (text_is_any map scen ask bytes is)

-- a stated answer isn't that the search gave up: its text has another first byte
none_given_up : (inst : Instance) (ask : Ask) (given : Answer) (n least : ℕ) → IsStated (problem_of inst ask) given → text inst.grid given ≢ text inst.grid (answer.GaveUp n least)
none_given_up inst ask given n least (Some plan, first, e) same =
    let byte : ◌≡◌ {A = ℕ} 112 103 = ap (λ l. get_or l 0 0) (ap (text inst.grid) (sym e) ∙ same) in absurd (omega arith)
none_given_up inst ask given n least (None, never, e) same =
    let byte : ◌≡◌ {A = ℕ} 110 103 = ap (λ l. get_or l 0 0) (ap (text inst.grid) (sym e) ∙ same) in absurd (omega arith)

-- a stated answer is the answer without a limit too
stated_without : (map scen : List ℕ) (ask : Ask) (bytes : List ℕ) (is : IsText map scen ask bytes) → IsStated (problem_of is.inst ask) is.given → IsText map scen (without_limit ask) bytes
stated_without map scen ask bytes is (plan, first, e) = record {
  bound = is.bound;
  workers = is.workers;
  nodes = tt;
  inst = is.inst;
  asked = is.asked;
  given = is.given;
  answer = (plan, same_answer is.inst ask.bound ask.rule ask.nodes None plan first, e ∙ same_stated plan);
  spelled = is.spelled;
}
  where
    same_stated : (p : Option (List (List ℕ))) → stated (problem_of is.inst ask) p ≡ stated (problem_of is.inst (without_limit ask)) p
    same_stated (Some p) = refl
    same_stated None = refl

-- what is answered at a limit of n nodes
module _ (map scen : List ℕ) (ask : Ask) (n : ℕ) (bytes : List ℕ) (e : ask.nodes ≡ Some n) (is : IsText map scen ask bytes) where
  abbrev p : Problem
  p = problem_of is.inst ask

  limited : IsAnswerUpTo (Some n) p is.given
  limited = subst (λ o. IsAnswerUpTo o p is.given) e is.answer

  -- where the tree has that node, the search gave up
  cut_is_stated : (m : PlannedNode) → IsCutAt p n m → bytes ≡ text is.inst.grid (answer.GaveUp n (plan_cost m.1))
  cut_is_stated m cut =
      is.spelled ∙ ap (text is.inst.grid) (stated_is_unique p is.given (answer.GaveUp n (plan_cost m.1)) is.answer (as_given_up p n m (answer.GaveUp n (plan_cost m.1)) e cut refl))

  -- and else it didn't
  else_is_same : ((m : PlannedNode) → ¬ IsCutAt p n m) → IsAnswerUpTo (Some n) p is.given
      → IsText map scen (without_limit ask) bytes × ((least : ℕ) → bytes ≢ text is.inst.grid (answer.GaveUp n least))
  else_is_same never (inl (m, cut, said)) = absurd (never m cut)
  else_is_same never (inr (none, given)) =
      (stated_without map scen ask bytes is given, λ least same. none_given_up is.inst ask is.given n least given (sym is.spelled ∙ same))

  pub text_keeps_limit : KeepsLimit map scen ask n bytes
  unfolding any_text_keeps_limit text_is_any
  text_keeps_limit = record {
    inst = is.inst;
    asked = is.asked;
    cut = cut_is_stated;
    same = λ never. else_is_same never limited;
    best = (any_text_keeps_limit map scen ask n bytes e (text_is_any map scen ask bytes is)).best;
  }

-- so what is answered is best
pub answered_is_best : {T : Type 0} {E : Type 0} (bytes : T → List ℕ) (map scen : List ℕ) (ask : Ask) (r : Result T E) →
    IfOk r (λ t. IsText map scen ask (bytes t)) → IfOk r (λ t. ask.nodes ≡ None → IsBest map scen ask (bytes t))
answered_is_best bytes map scen ask (Ok t) is = λ e. text_is_best map scen ask (bytes t) e is
answered_is_best bytes map scen ask (Err f) is = tt

-- and keeps the limit
pub answered_keeps_limit : {T : Type 0} {E : Type 0} (bytes : T → List ℕ) (map scen : List ℕ) (ask : Ask) (r : Result T E) →
    IfOk r (λ t. IsText map scen ask (bytes t)) → IfOk r (λ t. (n : ℕ) → ask.nodes ≡ Some n → KeepsLimit map scen ask n (bytes t))
answered_keeps_limit bytes map scen ask (Ok t) is = λ n e. text_keeps_limit map scen ask n (bytes t) e is
answered_keeps_limit bytes map scen ask (Err f) is = tt

-- and so it is of any optimum
pub any_answered_is_best : {T : Type 0} {E : Type 0} (bytes : T → List ℕ) (map scen : List ℕ) (ask : Ask) (r : Result T E) →
    IfOk r (λ t. IsAnyText map scen ask (bytes t)) → IfOk r (λ t. ask.nodes ≡ None → IsBest map scen ask (bytes t))
any_answered_is_best bytes map scen ask (Ok t) is = λ e. any_text_is_best map scen ask (bytes t) e is
any_answered_is_best bytes map scen ask (Err f) is = tt

pub any_answered_keeps_limit : {T : Type 0} {E : Type 0} (bytes : T → List ℕ) (map scen : List ℕ) (ask : Ask) (r : Result T E) →
    IfOk r (λ t. IsAnyText map scen ask (bytes t)) → IfOk r (λ t. (n : ℕ) → ask.nodes ≡ Some n → KeepsAnyLimit map scen ask n (bytes t))
any_answered_keeps_limit bytes map scen ask (Ok t) is = λ n e. any_text_keeps_limit map scen ask n (bytes t) e is
any_answered_keeps_limit bytes map scen ask (Err f) is = tt
