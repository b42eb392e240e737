-- A search over many steps, and its answer.
use Rattle.mapf_tree.proofs.Prelude.{◌≡◌, ◌⊎◌, ℕ, ◌+◌, ◌<◌, ◌≤◌, List, [], ◌∷◌, Option, Some, None, Result, Ok, Err, IfOk, inl, inr, subst, sym, refl, ◌∙◌, ⊎_elim, arith, Contains, nowhere, here, there, here_or_there}
use Rattle.mapf_tree.specs.Prelude.{ok_or, NoMemory, Answer, Working, Finished, Problem, PlannedNode, IsMember, IsReached, Searched, IsSearch, IsLawful, IsEnded, TakesBetween, answer_of, IsStated, IsAnswerUpTo, IsAnswerOf, IsBestAnswer, TakesOne, IsStep}
use Rattle.mapf_tree.specs.declared.search.progress.Progress.{Progress}
use Rattle.mapf_tree.proofs.solutions.Descent.{answer_is_optimum, none_is_none}
use Rattle.mapf_tree.proofs.high_level.Limits.{cut_is_below}

-- a search that has taken n nodes above a key, and has no answer yet
pub record GoesOn (p : Problem) (from : Option (List ℕ)) (now : Searched) (n : ℕ) : Type 0 where
  pub same : now.problem ≡ p
  pub going : now.outcome ≡ Ok None
  pub search : IsSearch now
  pub further : (m : PlannedNode) → IsMember p m → IsReached from m → IsReached now.last m
  pub took : TakesBetween p from now.last n

-- no node is taken between a key and itself
pub takes_none : (p : Problem) (last : Option (List ℕ)) → TakesBetween p last last 0
takes_none p last = ([], tt, refl, λ m. ((λ c. absurd (nowhere c)), (λ k. absurd (k.2 k.1))))

-- one node more
pub takes_more : (p : Problem) (from now new : Option (List ℕ)) (n : ℕ) → ((m : PlannedNode) → IsMember p m → IsReached from m → IsReached now m)
    → TakesBetween p from now n → TakesOne p now new → TakesBetween p from new (n + 1)
takes_more p from now new n further took one =
    (one.0 ∷ took.0, (fresh, took.1), omega (arith, took.2), λ m. ((λ c. ⊎_elim (last m) (early m) (here_or_there took.0 c)), (λ k. back m k)))
  where
    fresh : ¬ Contains took.0 one.0
    fresh c = one.2 ((took.3 one.0).0 c).1

    last : (m : PlannedNode) → one.0 ≡ m → IsMember p m × IsReached new m × ¬ IsReached from m
    last m e = subst (λ y. IsMember p y × IsReached new y × ¬ IsReached from y) e (one.1, (one.3 one.0 one.1).1 (inr refl), λ r. one.2 (further one.0 one.1 r))

    early : (m : PlannedNode) → Contains took.0 m → IsMember p m × IsReached new m × ¬ IsReached from m
    early m i = let k = (took.3 m).0 i in (k.0, (one.3 m k.0).1 (inl k.1), k.2)

    back : (m : PlannedNode) → IsMember p m × IsReached new m × ¬ IsReached from m → Contains (one.0 ∷ took.0) m
    back m k = ⊎_elim (λ r. there took.0 ((took.3 m).1 (k.0, r, k.2))) (λ e. here took.0 (sym e)) ((one.3 m k.0).0 k.1)

-- and one more with each step that doesn't finish
pub goes_on : (p : Problem) (from : Option (List ℕ)) (now new : Searched) (n : ℕ) (r : Progress) → ¬ (r ≡ Finished) → GoesOn p from now n → new.problem ≡ now.problem → IsSearch new → IsStep now new (Ok r) → GoesOn p from new (n + 1)
goes_on p from now new n Working not_finished g e h step =
    let one : TakesOne p now.last new.last = subst (λ q. TakesOne q now.last new.last) g.same step.1 in
    record { same = e ∙ g.same; going = step.0; search = h; further = λ m i r. (one.3 m i).1 (inl (g.further m i r)); took = takes_more p from now.last new.last n g.further g.took one }
goes_on p from now new n Finished not_finished g e h step = absurd (not_finished refl)

-- the nodes that were taken
pub taken_between : (p : Problem) (from : Option (List ℕ)) (now : Searched) (n k : ℕ) → GoesOn p from now n → n ≡ k → TakesBetween now.problem from now.last k
taken_between p from now n k g e = subst (λ q. TakesBetween q from now.last k) (sym g.same) (subst (λ j. TakesBetween p from now.last j) e g.took)

-- with the step that gives the answer
pub taken_at_end : (p : Problem) (from : Option (List ℕ)) (now new : Searched) (n turns : ℕ) → GoesOn p from now n → n < turns → new.problem ≡ now.problem → (new.last ≡ now.last) ⊎ TakesOne now.problem now.last new.last →
    (k : ℕ) × (k ≤ turns) × TakesBetween new.problem from new.last k
taken_at_end p from now new n turns g h e (inl same) = (n, omega (arith, h), subst (λ q. TakesBetween q from new.last n) (sym (e ∙ g.same)) (subst (λ l. TakesBetween p from l n) (sym same) g.took))
taken_at_end p from now new n turns g h e (inr one) =
    (n + 1, omega (arith, h), subst (λ q. TakesBetween q from new.last (n + 1)) (sym (e ∙ g.same)) (takes_more p from now.last new.last n g.further g.took (subst (λ q. TakesOne q now.last new.last) g.same one)))

-- what is said of the nodes that a search with an answer took and of those that wait
pub ended : (s : Searched) (given : Answer) → IsSearch s → s.outcome ≡ Ok (Some given) → IsEnded s.problem s.waiting s.last given
ended s given h e = let k = subst (λ o. IsLawful s.problem s.waiting s.last o) e h in k.2

-- what is stated of the answer is best
pub best_stated : (problem : Problem) (given : Answer) → IsStated problem given → IsBestAnswer problem given
best_stated problem given (Some plan, is, e) = subst (λ a. IsBestAnswer problem a) (sym e) (answer_is_optimum problem plan is, refl)
best_stated problem given (None, is, e) = subst (λ a. IsBestAnswer problem a) (sym e) (refl, (none_is_none problem).0 is)

-- and so is what is given up at the limit on nodes
pub best_answer : (problem : Problem) (given : Answer) → IsAnswerOf problem given → IsBestAnswer problem given
best_answer problem given is = go problem.nodes refl is
  where
    go : (o : Option ℕ) → problem.nodes ≡ o → IsAnswerUpTo o problem given → IsBestAnswer problem given
    go None e is = best_stated problem given is
    go (Some n) e (inl (m, cut, said)) = subst (λ a. IsBestAnswer problem a) (sym said) (e, cut_is_below problem n m cut)
    go (Some n) e (inr (never, is)) = best_stated problem given is

-- a search's answer, where it has one
answer_out : (s : Searched) (outcome : Result (Option Answer) NoMemory) (refused : NoMemory) → IsLawful s.problem s.waiting s.last outcome → IfOk (ok_or (answer_of outcome) refused) (IsAnswerOf s.problem)
answer_out s (Ok None) refused h = tt
answer_out s (Ok (Some given)) refused h = h.1
answer_out s (Err e) refused h = tt

-- so what comes out of a search is right
pub right_out : (p : Problem) (s : Searched) (o : Option Answer) (r : Result Answer NoMemory) (refused : NoMemory) → IsSearch s → s.problem ≡ p → o ≡ answer_of s.outcome → r ≡ ok_or o refused → IfOk r (IsAnswerOf p)
right_out p s o r refused h e is out =
    subst (λ x. IfOk x (IsAnswerOf p)) (sym out)
    (subst (λ x. IfOk (ok_or x refused) (IsAnswerOf p)) (sym is)
    (subst (λ q. IfOk (ok_or (answer_of s.outcome) refused) (IsAnswerOf q)) e (answer_out s s.outcome refused h)))

-- and best
pub best_out : (p : Problem) (r : Result Answer NoMemory) → IfOk r (IsAnswerOf p) → IfOk r (IsBestAnswer p)
best_out p (Ok given) h = best_answer p given h
best_out p (Err e) h = tt
