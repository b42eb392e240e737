-- What was told of one search after another: no valid plan costs less, and the numbers of nodes never fall.
use Rattle.std.specs.List.{AllByRecursion}
use Rattle.std.proofs.Common.{◌≡◌, ℕ, ◌≤◌, List, [], ◌∷◌, ◌++◌, Option, Result, Ok, Err, IfOk, inl, inr, refl, subst, sym, arith}
use Rattle.mapf_grid.specs.declared.fault.NoMemory.{NoMemory}
use Rattle.mapf_plan.specs.declared.answer.Answer.{Answer}
use Rattle.mapf_tree.specs.LowerBound.{IsBelowAll}
use Rattle.mapf_tree.specs.Problem.{Problem}
use Rattle.mapf_tree.specs.Search.{CountsTaken, Searched, most_counted}
use Rattle.mapf_tree.specs.Told.{Hears, IsAccount, Standing, begins, expands, goes, one_more, tells}
use Rattle.mapf_bounds.specs.Told as bounds
use Rattle.mapf_solve.specs.Told.{IsWatched, NodesNeverFall, Tells}

-- no valid plan costs less than a search by bounds tells
account_below : {S : Type 0} (problem : Problem) (Begins : ℕ → S → Type 0) (Goes Expands : S → S → Type 0) (n : ℕ) (heard : List Standing) (s : S) →
    IsAccount Begins Goes Expands (λ waiting. IsBelowAll problem) n heard s → AllByRecursion (λ x. IsBelowAll problem x.least) heard
account_below problem B G E n heard s (begins b) = tt
account_below problem B G E n heard s (goes a step) = account_below problem B G E _ _ _ a
account_below problem B G E n heard s (tells a below) = (below, account_below problem B G E _ _ _ a)
account_below problem B G E n heard s (expands a same step) = account_below problem B G E _ _ _ a

-- what was told is of so many nodes at most
abbrev pub AreUpTo : ℕ → List Standing → Type 0
AreUpTo n = AllByRecursion (λ x. x.nodes ≤ n)

up_to_more : (n m : ℕ) → n ≤ m → (heard : List Standing) → AreUpTo n heard → AreUpTo m heard
up_to_more n m l [] all = tt
up_to_more n m l (x ∷ xs) all = let le : x.nodes ≤ m = omega (arith, l, all.0) in (le, up_to_more n m l xs all.1)

-- what a search told that began after so many nodes, when so many were expanded: numbers between these, which never fall
record Numbers (first n : ℕ) (heard : List Standing) : Type 0 where
  from : first ≤ n
  fits : n ≤ most_counted
  above : AllByRecursion (λ x. first ≤ x.nodes) heard
  up_to : AreUpTo n heard
  never : NodesNeverFall heard

numbers_first : (first n : ℕ) → n ≡ first → first ≤ most_counted → Numbers first n []
numbers_first first n same fits = record { from = omega (arith, same); fits = omega (arith, same, fits); above = tt; up_to = tt; never = tt }

numbers_told : (first n least : ℕ) (heard : List Standing) → Numbers first n heard → Numbers first n (record { nodes = n; least = least } ∷ heard)
numbers_told first n least heard h = record { from = h.from; fits = h.fits; above = (h.from, h.above); up_to = (omega arith, h.up_to); never = (h.up_to, h.never) }

numbers_more : (first n : ℕ) (heard : List Standing) → Numbers first n heard → Numbers first (one_more n) heard
numbers_more first n heard h = record {
  from = omega (arith, h.from, h.fits);
  fits = omega arith;
  above = h.above;
  up_to = up_to_more n (one_more n) (omega (arith, h.fits)) heard h.up_to;
  never = h.never;
}

account_numbers : {S : Type 0} (Begins : ℕ → S → Type 0) (Goes Expands : S → S → Type 0) (Least : S → ℕ → Type 0) (first : ℕ) → ((n : ℕ) (s : S) → Begins n s → n ≡ first) → first ≤ most_counted →
    (n : ℕ) (heard : List Standing) (s : S) → IsAccount Begins Goes Expands Least n heard s → Numbers first n heard
account_numbers B G E L first at fits n heard s (begins b) = numbers_first first n (at n s b) fits
account_numbers B G E L first at fits n heard s (goes a step) = account_numbers B G E L first at fits _ _ _ a
account_numbers B G E L first at fits n heard s (tells a least) = numbers_told first _ _ _ (account_numbers B G E L first at fits _ _ _ a)
account_numbers B G E L first at fits n heard s (expands a same step) = numbers_more first _ _ (account_numbers B G E L first at fits _ _ _ a)

all_append : (P : Standing → Type 0) (first then : List Standing) → AllByRecursion P first → AllByRecursion P then → AllByRecursion P (then ++ first)
all_append P first [] all more = all
all_append P first (x ∷ xs) all more = (more.0, all_append P first xs all more.1)

never_append : (n : ℕ) (first then : List Standing) → AreUpTo n first → NodesNeverFall first → AllByRecursion (λ x. n ≤ x.nodes) then → NodesNeverFall then → NodesNeverFall (then ++ first)
never_append n first [] up_to never above more = never
never_append n first (x ∷ xs) up_to never above more =
    (all_append (λ y. y.nodes ≤ x.nodes) first xs (up_to_more n x.nodes above.0 first up_to) more.0, never_append n first xs up_to never above.1 more.1)

module _ {W : Type 0} (told : W → ℕ → ℕ → W → Type 0) (problem : Problem) where
  -- tellings behind tellings
  hears_append : (old between new : W) (first then : List Standing) → Hears told old first between → Hears told between then new → Hears told old (then ++ first) new
  hears_append old between new first [] h same = subst (Hears told old first) (sym same) h
  hears_append old between new first (x ∷ xs) h (w, rest, tell) = (w, hears_append old between w first xs h rest, tell)

  -- what was told when a search by keys had taken so many nodes
  pub record IsToldTo (n : ℕ) (old new : W) : Type 0 where
    pub heard : List Standing
    pub hears : Hears told old heard new
    pub below : AllByRecursion (λ x. IsBelowAll problem x.least) heard
    pub never : NodesNeverFall heard
    pub up_to : AreUpTo n heard

  pub told_nothing : (n : ℕ) (w : W) → IsToldTo n w w
  told_nothing n w = record { heard = []; hears = refl; below = tt; never = tt; up_to = tt }

  -- it tells more
  pub told_more : (n : ℕ) (s : Searched) (old between new : W) → s.problem ≡ problem → n ≤ s.taken → IsToldTo n old between → Tells told s between new → IsToldTo s.taken old new
  told_more n s old between new same more t (inl nothing) = record {
    heard = t.heard;
    hears = subst (Hears told old t.heard) (sym nothing) t.hears;
    below = t.below;
    never = t.never;
    up_to = up_to_more n s.taken more t.heard t.up_to;
  }
  told_more n s old between new same more t (inr (x, stands, tell)) = record {
    heard = x ∷ t.heard;
    hears = (between, t.hears, tell);
    below = (subst (λ p. IsBelowAll p x.least) same stands.below, t.below);
    never = (up_to_more n x.nodes (omega (arith, more, stands.counted)) t.heard t.up_to, t.never);
    up_to = (omega (arith, stands.counted), up_to_more n s.taken more t.heard t.up_to);
  }

  -- what was told is so, whatever came of it
  pub told_any : (n : ℕ) (old new : W) (r : Result Answer NoMemory) → IsToldTo n old new → IfOk r (λ _. IsWatched told problem old new)
  told_any n old new (Ok given) t = (t.heard, t.hears, t.below, t.never)
  told_any n old new (Err e) t = tt

  -- what a search by bounds tells that goes on from one of the problem
  pub told_on : (q : Problem) (n : ℕ) (old new : W) (r : Result Answer NoMemory) → q ≡ problem → (last : Option (List ℕ)) →
      IfOk r (λ given. CountsTaken q last n × bounds.IsWatched told q n old new given) → IfOk r (λ given. (n ≤ most_counted) × bounds.IsWatched told problem n old new given)
  told_on q n old new (Ok given) same last (counts, more) = (omega (arith, counts.2), subst (λ p. bounds.IsWatched told p n old new given) same more)
  told_on q n old new (Err e) same last w = tt

  -- and behind what was told before
  pub told_both : (n : ℕ) (old between new : W) (r : Result Answer NoMemory) → IsToldTo n old between →
      IfOk r (λ given. (n ≤ most_counted) × bounds.IsWatched told problem n between new given) → IfOk r (λ _. IsWatched told problem old new)
  told_both n old between new (Ok given) t (fits, (most, more)) =
      let then = more.last ∷ more.earlier in
      let numbers = account_numbers _ _ _ _ n (λ k s begun. begun.0) fits _ then more.waiting more.account in (
        then ++ t.heard,
        hears_append old between new t.heard then t.hears more.hears,
        all_append (λ x. IsBelowAll problem x.least) t.heard then t.below (account_below problem _ _ _ _ _ more.waiting more.account),
        never_append n t.heard then t.up_to t.never numbers.above numbers.never,
      )
  told_both n old between new (Err e) t w = tt
