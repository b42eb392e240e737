-- The places of an agent's paths: the agent waits or goes to a neighbour, and from each place the rest of the path is a walk to the goal.
use Rattle.std.proofs.Common.{◌≡◌, ◌≢◌, ◌⊎◌, ◌↔◌, ℕ, zero, suc, ◌+◌, ◌-◌, ◌<◌, ◌≤◌, Bool, true, false, List, [], ◌∷◌, ◌++◌, take, length, get_or, Option, Some, None, MatchOption, Result, Ok, Err, OnOk, Contains, inl, inr, subst, sym, refl, ap, ◌∙◌, arith}
use Rattle.std.proofs.Math.Seq.{take-length}
use Rattle.std.proofs.lemmas.List.{take_more}
use Rattle.std.proofs.lemmas.List.Elements.{Contains-push, Contains-push_cases}
use Rattle.std.proofs.Math.Bool.{not}
use Rattle.std.proofs.Math.Dec.{eqb}
use Rattle.std.proofs.lemmas.Bool.{eqb-true}
use native.Mathlib.Decide.{ℕ_discrete}
use Rattle.mapf_grid.specs.Grid.{Grid, IsFree, Next}
use Rattle.mapf_grid.proofs.Decide.{by_cases}
use Rattle.mapf_plan.specs.Path.{at, cost, IsPath}
use Rattle.mapf_low.specs.Walk.{IsWalk, IsDistance}
use Rattle.mapf_optimum.specs.Together.{Agent, IsPathOf, Steps, StandsAt, HasPlace}
use Rattle.mapf_optimum.specs.declared.together.place.Place.{Place}

-- from each place the rest of the path is a walk to the goal
rest_walks : (g : Grid) (start goal : ℕ) (p : List ℕ) → IsPath g start goal p → (n t : ℕ) → t + n ≡ cost p → IsWalk g (at p t) goal n
rest_walks g start goal p h zero t e = ap (λ k. at p k) (let here : t ≡ cost p = omega (arith, e) in here) ∙ h.ends
rest_walks g start goal p h (suc n) t e = (at p (t + 1), h.steps t (omega (arith, e)), rest_walks g start goal p h n (t + 1) (omega (arith, e)))

module _ (agent : Agent) (p : List ℕ) (path : IsPathOf agent p) where
  -- on its way to the goal
  way : (time cell : ℕ) → at p time ≡ cell → time < cost p → IsWalk agent.grid cell agent.goal (cost p - time)
  way time cell here l =
      subst (λ v. IsWalk agent.grid v agent.goal (cost p - time)) here
      (rest_walks agent.grid agent.start agent.goal p path.path (cost p - time) time (omega (arith, l)))

  -- on its way it isn't where no walk to the goal is
  pub some_walk : (time cell : ℕ) → at p time ≡ cell → time < cost p → (o : Option ℕ) →
      MatchOption o ((n : ℕ) → ¬ IsWalk agent.grid cell agent.goal n) (IsDistance agent.grid agent.goal cell) → ((n : ℕ) → o ≢ Some n) → ⊥
  some_walk time cell here l None d none = d (cost p - time) (way time cell here l)
  some_walk time cell here l (Some n) d none = none n refl

  -- a cell's distance is no more than the rest of the way
  pub rest_least : (time cell : ℕ) → at p time ≡ cell → time < cost p → (o : Option ℕ) (n : ℕ) → o ≡ Some n →
      MatchOption o ((m : ℕ) → ¬ IsWalk agent.grid cell agent.goal m) (IsDistance agent.grid agent.goal cell) → time + n ≤ cost p
  rest_least time cell here l None n is d = absurd (d (cost p - time) (way time cell here l))
  rest_least time cell here l (Some m) n is d =
      let same : m ≡ n = cc in
      let least : m ≤ cost p - time = d.least (cost p - time) (way time cell here l) in
      omega (arith, least, same, l)

  -- on its goal, and on its way, it has to leave it and come back
  pub rest_back : (time cell : ℕ) → at p time ≡ cell → time < cost p → (o : Option ℕ) → o ≡ Some 0 →
      MatchOption o ((m : ℕ) → ¬ IsWalk agent.grid cell agent.goal m) (IsDistance agent.grid agent.goal cell) → time + 2 ≤ cost p
  rest_back time cell here l None is d = absurd (d (cost p - time) (way time cell here l))
  rest_back time cell here l (Some m) is d =
      let none : m ≡ 0 = cc in
      let home : cell ≡ agent.goal = subst (λ n. IsWalk agent.grid cell agent.goal n) none d.walk in
      by_cases (ℕ_discrete (time + 1) (cost p)) (λ e. absurd (path.path.arrives time e (here ∙ home))) (λ n. omega (arith, n, l))

-- a step is one of the grid
pub next_step : (agent : Agent) (p : List ℕ) (time from to : ℕ) → Steps agent p time from to → Next agent.grid from to
next_step agent p time from to h = subst (λ v. Next agent.grid v to) h.from_there (subst (λ v. Next agent.grid (at p (time - 1)) v) there (h.path.path.steps (time - 1) (omega (arith, h.later, h.underway))))
  where
    back : time - 1 + 1 ≡ time
    back = omega (arith, h.later)

    there : at p (time - 1 + 1) ≡ to
    there = ap (λ k. at p k) back ∙ h.to_there

-- the step from one time step to the next
pub step_from : (agent : Agent) (p : List ℕ) (before time from : ℕ) → before + 1 ≡ time → IsPathOf agent p → before < cost p → from ≡ at p before → Steps agent p time from (at p time)
step_from agent p before time from e path l on = record {
  path = path;
  later = omega (arith, e);
  underway = omega (arith, e, l);
  from_there = ap (λ k. at p k) (let back : time - 1 ≡ before = omega (arith, e) in back) ∙ sym on;
  to_there = refl;
}

-- the last step is from another cell to the goal
pub last_step : (agent : Agent) (p : List ℕ) (time from to : ℕ) → Steps agent p time from to → cost p ≤ time → (to ≡ agent.goal) × (from ≢ agent.goal) × (agent.least ≤ time)
last_step agent p time from to h l = (
  sym h.to_there ∙ ap (λ k. at p k) (let last : time ≡ cost p = omega (arith, l, h.underway) in last) ∙ h.path.path.ends,
  (λ e. h.path.path.arrives (time - 1) (omega (arith, l, h.later, h.underway)) (h.from_there ∙ e)),
  omega (arith, h.path.least, h.underway, l),
)

-- more places have the place too
pub has_more : (p : List ℕ) (time : ℕ) (old new : List Place) → ((x : Place) → Contains old x → Contains new x) → HasPlace p time old → HasPlace p time new
has_more p time old new keeps h = (h.0, keeps h.0 h.1, h.2)

-- the last place is that
pub has_pushed : (p : List ℕ) (time : ℕ) (old new : List Place) (x : Place) → new ≡ old ++ x ∷ [] → StandsAt p time x → HasPlace p time new
has_pushed p time old new x is h = (x, subst (λ xs. Contains xs x) (sym is) (Contains-push old x), h)

-- numbers that don't differ
pub no_other : (a b : ℕ) → not (eqb a b) ≡ false → a ≡ b
no_other a b h = eqb-true a b (go (eqb a b) h)
  where
    go : (c : Bool) → not c ≡ false → c ≡ true
    go true e = refl
    go false e = let no : false ≡ true = sym e in cc

-- what follows from two facts, where there is a value
pub both_ok : {T E A B C : Type 0} (r : Result T E) → (A → B → C) → OnOk r A → OnOk r B → OnOk r C
both_ok (Ok x) f a b = f a b
both_ok (Err e) f a b = tt

-- there is a place for each step, on a path that costs no more than so much, by which the agent waits or goes to one of these cells
abbrev pub AreReached : Agent → (time most from : ℕ) → List ℕ → List Place → Type 0
AreReached agent time most from cells places =
    (p : List ℕ) (to : ℕ) → Steps agent p time from to → cost p ≤ most → (from ≡ to) ⊎ Contains cells to → HasPlace p time places

module _ (agent : Agent) (time most from : ℕ) where
  none_in_front : (cells : List ℕ) (v : ℕ) → ¬ Contains (take 0 cells) v
  none_in_front [] v h = omega (arith, h.1)
  none_in_front (x ∷ xs) v h = omega (arith, h.1)

  pub reached_waits : (cells : List ℕ) (places : List Place) → ((p : List ℕ) → Steps agent p time from from → cost p ≤ most → HasPlace p time places) →
      AreReached agent time most from (take 0 cells) places
  reached_waits cells places waits p to h cheap (inl e) = waits p (subst (λ v. Steps agent p time from v) (sym e) h) cheap
  reached_waits cells places waits p to h cheap (inr i) = absurd (none_in_front cells to i)

  pub reached_more : (cells : List ℕ) (old new : List Place) (k v : ℕ) → k < length cells → v ≡ get_or cells k v → ((x : Place) → Contains old x → Contains new x) →
      ((p : List ℕ) → Steps agent p time from v → cost p ≤ most → HasPlace p time new) → AreReached agent time most from (take k cells) old → AreReached agent time most from (take (k + 1) cells) new
  reached_more cells old new k v l is keeps goes before p to h cheap way = either way
    where
      more : take (k + 1) cells ≡ take k cells ++ v ∷ []
      more = take_more cells k v l ∙ ap (λ y. take k cells ++ y ∷ []) (sym is)

      last : Contains (take k cells) to ⊎ (v ≡ to) → HasPlace p time new
      last (inl i) = has_more p time old new keeps (before p to h cheap (inr i))
      last (inr e) = goes p (subst (λ u. Steps agent p time from u) (sym e) h) cheap

      either : (from ≡ to) ⊎ Contains (take (k + 1) cells) to → HasPlace p time new
      either (inl e) = has_more p time old new keeps (before p to h cheap (inl e))
      either (inr i) = last (Contains-push_cases (take k cells) v to (subst (λ xs. Contains xs to) more i))

  -- all steps are waiting or go to a neighbour
  pub reached_all : (g : Grid) (beside cells : List ℕ) (places : List Place) (k : ℕ) → g ≡ agent.grid → IsFree g from → (IsFree g from → (v : ℕ) → Contains beside v ↔ (Next g from v × (from ≢ v))) → cells ≡ beside →
      k ≡ length cells → AreReached agent time most from (take k cells) places → (p : List ℕ) (to : ℕ) → Steps agent p time from to → cost p ≤ most → HasPlace p time places
  reached_all g beside cells places k same free steps is whole h p to s cheap = h p to s cheap (by_cases (ℕ_discrete from to) (λ e. inl e) (λ n. inr (there n)))
    where
      all : take k cells ≡ beside
      all = ap (λ n. take n cells) whole ∙ take-length cells ∙ is

      there : from ≢ to → Contains (take k cells) to
      there n = subst (λ xs. Contains xs to) (sym all) ((steps free to).1 (subst (λ grid. Next grid from to) (sym same) (next_step agent p time from to s), n))
