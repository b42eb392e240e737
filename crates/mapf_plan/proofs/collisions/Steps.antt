-- Conflicts at one time step.
use Rattle.std.proofs.Common.{◌≡◌, ℕ, ◌+◌, ◌-◌, ◌<◌, ◌≤◌, List, [], ◌∷◌, length, min, max, inl, inr, ◌⊎◌, MatchOption, refl, subst, sym, ap, ◌∙◌, ⊎_elim, arith}
use Rattle.std.specs.Prelude.{Option, Some, None, ⊤}
use Rattle.std.proofs.lemmas.Bool.{cases_lt}
use Rattle.mapf_plan.specs.declared.conflict.Conflict.{Conflict}
use Rattle.mapf_plan.specs.declared.conflict.Conflict.TheVariants.{Vertex, Swapping, Following}
use Rattle.mapf_plan.specs.declared.rule.Rule.{Rule}
use Rattle.mapf_plan.specs.declared.rule.Rule.TheVariants.{Classical, NoFollowing}
use Rattle.mapf_plan.specs.Path.{at, cost, AreApart}
use Rattle.mapf_plan.specs.Plan.{IsConflict, IsFirstConflict, HasNoConflict, conflict_rank, conflict_time, first_agent, second_agent, path_of, place}
use Rattle.mapf_plan.specs.FirstConflict.{IsConflictOfPair, IsConflictAt, IsConflictBefore, IsEarlier}
use Rattle.mapf_plan.specs.Marks.{beside}
use Rattle.mapf_grid.specs.Least.{Precedes, NoneBefore, IsLeast}
use Rattle.mapf_grid.proofs.Firsts.{before_place}
use Rattle.mapf_plan.proofs.Paths.{at_past}
use Rattle.mapf_plan.proofs.Conflicts.{by_time, not_before, none_after}

-- where none of a set is before a time, each of it is at that time or later
pub not_earlier : (S : Conflict → Type 0) (t : ℕ) (c : Conflict) → NoneBefore conflict_rank S (t ∷ []) → S c → t ≤ conflict_time c
not_earlier S t c none is =
    ⊎_elim (λ h. absurd (none c is (subst (λ r. Precedes r (t ∷ [])) (sym (by_time c)) (inl h)))) (λ h. h) (cases_lt (conflict_time c) t)

-- and what is before a time's rank is before that time
pub earlier_time : (t : ℕ) (c : Conflict) → Precedes (conflict_rank c) (t ∷ []) → conflict_time c < t
earlier_time t c h = before_place (conflict_time c) t _ (subst (λ r. Precedes r (t ∷ [])) (by_time c) h)

-- of two agents with a conflict one finds what the other leaves: its cell, or what is beside it
pub meets : (rule : Rule) (plan : List (List ℕ)) (M : ℕ → Type 0) (c : Conflict) → IsConflict rule plan c
    → M (place plan (first_agent c) (conflict_time c))
    → M (beside rule (place plan (first_agent c) (conflict_time c - 1)) (place plan (first_agent c) (conflict_time c)))
    → M (place plan (second_agent c) (conflict_time c))
    ⊎ M (beside rule (place plan (second_agent c) (conflict_time c - 1)) (place plan (second_agent c) (conflict_time c)))
meets rule plan M (Vertex t i j v) is to other = inl (subst M (is.2 ∙ sym is.3) to)
meets Classical plan M (Swapping t i j u v) is to other = inr (subst M sums other)
  where
    sums : place plan i (t - 1) + place plan i t + 2048 ≡ place plan j (t - 1) + place plan j t + 2048
    sums = omega (arith, is.4, is.5, is.6, is.7)
meets NoFollowing plan M (Swapping t i j u v) is to other = inr (subst M (is.5 ∙ sym is.6) to)
meets Classical plan M (Following t i j v) is to other = absurd (never is.0)
  where
    never : ¬ (Classical ≡ NoFollowing)
    never e = cc
meets NoFollowing plan M (Following t i j v) is to other =
    ⊎_elim
    (λ h.
    let ea : min i j ≡ i = omega (arith, h) in let eb : j ≡ max i j = omega (arith, h) in
    inr (subst M (ap (λ k. place plan k t) ea ∙ is.5 ∙ sym is.6 ∙ ap (λ k. place plan k (t - 1)) eb) to))
    (λ h.
    let ea : min i j ≡ j = omega (arith, h) in let eb : i ≡ max i j = omega (arith, h) in
    inl (subst M (ap (λ k. place plan k (t - 1)) ea ∙ is.6 ∙ sym is.5 ∙ ap (λ k. place plan k t) eb) other))
    (cases_lt i j)

-- and so at a given time
pub meets_at : (rule : Rule) (plan : List (List ℕ)) (M : ℕ → Type 0) (t : ℕ) (c : Conflict) → IsConflictAt rule plan t c
    → M (place plan (first_agent c) t)
    → M (beside rule (place plan (first_agent c) (t - 1)) (place plan (first_agent c) t))
    → M (place plan (second_agent c) t)
    ⊎ M (beside rule (place plan (second_agent c) (t - 1)) (place plan (second_agent c) t))
meets_at rule plan M t c is =
    subst
    (λ t. M (place plan (first_agent c) t) → M (beside rule (place plan (first_agent c) (t - 1)) (place plan (first_agent c) t))
    → M (place plan (second_agent c) t) ⊎ M (beside rule (place plan (second_agent c) (t - 1)) (place plan (second_agent c) t)))
    is.1 (meets rule plan M c is.0)

-- what holds of each number below n, and of n, holds below n + 1
pub one_more : (P : ℕ → Type 0) (n : ℕ) → ((k : ℕ) → k < n → P k) → P n → (k : ℕ) → k < n + 1 → P k
one_more P n all one k l = ⊎_elim (λ h. all k h) (λ h. subst P (same h) one) (cases_lt k n)
  where
    same : n ≤ k → n ≡ k
    same h = omega (arith, h, l)

-- what holds of a known and of a found conflict holds of either
pub of_either : (Q : Conflict → Type 0) (result known found : Option Conflict) → (result ≡ known) ⊎ (result ≡ found)
    → MatchOption known ⊤ Q → MatchOption found ⊤ Q → MatchOption result ⊤ Q
of_either Q result known found either a b =
    ⊎_elim (λ e. subst (λ r. MatchOption r ⊤ Q) (sym e) a) (λ e. subst (λ r. MatchOption r ⊤ Q) (sym e) b) either

module _ (rule : Rule) (plan : List (List ℕ)) (i j e : ℕ) where
  -- what was found of two agents is a conflict of theirs, with what else is known of it
  pub found_that : (Q : Conflict → Type 0) (found : Option Conflict) → MatchOption found ⊤ Q
      → MatchOption found (NoneBefore conflict_rank (IsConflictOfPair rule plan i j) (e ∷ [])) (λ c. IsLeast conflict_rank (IsConflictOfPair rule plan i j) c)
      → MatchOption found ⊤ (λ c. IsConflict rule plan c × Q c)
  found_that Q None q h = tt
  found_that Q (Some c) q h = (h.member.0, q)

  -- none of theirs is before it, where they have one before the end
  pub found_first : (found : Option Conflict) (c : Conflict) → MatchOption found (NoneBefore conflict_rank (IsConflictOfPair rule plan i j) (e ∷ [])) (λ c. IsLeast conflict_rank (IsConflictOfPair rule plan i j) c)
      → IsConflictOfPair rule plan i j c → ¬ NoneBefore conflict_rank (IsConflictOfPair rule plan i j) (e ∷ []) → ¬ IsEarlier c found
  found_first None c h is some before = some h
  found_first (Some d) c h is some before = h.least c is before

  pub some_before : (c : Conflict) → IsConflictOfPair rule plan i j c → conflict_time c < e → ¬ NoneBefore conflict_rank (IsConflictOfPair rule plan i j) (e ∷ [])
  some_before c is l none = none c is (subst (λ r. Precedes r (e ∷ [])) (sym (by_time c)) (inl l))

-- where one of two agents has ended its path, they are apart as long as they aren't on one cell
pub apart_at_rest : (p q : List ℕ) (t : ℕ) → min (cost p) (cost q) < t → ¬ (at p (t - 1) ≡ at q (t - 1)) → ¬ (at p t ≡ at q t) → AreApart p q t
apart_at_rest p q t rests was is =
    ⊎_elim
    (λ l.
    let stays : at p (t - 1) ≡ at p t = at_past p (t - 1) (omega (arith, l)) ∙ sym (at_past p t (omega (arith, l))) in
    record { same = is; one = λ e. was (stays ∙ e); other = λ e. is (sym stays ∙ sym e) })
    (λ l.
    let stays : at q (t - 1) ≡ at q t = at_past q (t - 1) (omega (arith, l, rests)) ∙ sym (at_past q t (omega (arith, l, rests))) in
    record { same = is; one = λ e. is (e ∙ stays); other = λ e. was (sym e ∙ sym stays) })
    (cases_lt (cost p) t)

-- the least of the conflicts at a time before which there is none is the first
pub first_of_time : (rule : Rule) (plan : List (List ℕ)) (t : ℕ) (known : Option Conflict) → NoneBefore conflict_rank (IsConflict rule plan) (t ∷ [])
    → MatchOption known ⊤ (IsConflictAt rule plan t) → ((c : Conflict) → IsConflictAt rule plan t c → ¬ IsEarlier c known)
    → MatchOption known (NoneBefore conflict_rank (IsConflict rule plan) ((t + 1) ∷ [])) (λ c. IsFirstConflict rule plan c)
first_of_time rule plan t None none at first =
    λ c is before. first c (is, omega (arith, earlier_time (t + 1) c before, not_earlier (IsConflict rule plan) t c none is)) tt
first_of_time rule plan t (Some d) none at first = record {
  member = at.0;
  least = λ c is sooner.
      ⊎_elim (λ h. not_before d c (omega (arith, h, at.1)) sooner)
      (λ h. first c (is, omega (arith, h, not_earlier (IsConflict rule plan) t c none is)) sooner) (cases_lt t (conflict_time c));
}

-- what is before an end is before a later one
pub that_is_within : (a b : ℕ) → a ≤ b → (found : Option Conflict) → MatchOption found ⊤ (λ c. conflict_time c < a) → MatchOption found ⊤ (λ c. conflict_time c < b)
that_is_within a b l None h = tt
that_is_within a b l (Some c) h = omega (arith, h, l)

-- and a conflict before an end is one before a later end
pub still_before : (rule : Rule) (plan : List (List ℕ)) (a b : ℕ) → a ≤ b → (found : Option Conflict) → MatchOption found ⊤ (IsConflictBefore rule plan a)
    → MatchOption found ⊤ (IsConflictBefore rule plan b)
still_before rule plan a b l None h = tt
still_before rule plan a b l (Some c) h = (h.0, omega (arith, h.1, l))

-- the least of the conflicts up to the end of the longest path is the first
pub first_of_all : (rule : Rule) (plan : List (List ℕ)) (b : ℕ) (known : Option Conflict) → ((i : ℕ) → i < length plan → cost (path_of plan i) ≤ b)
    → MatchOption known ⊤ (IsConflictBefore rule plan (b + 1)) → ((c : Conflict) → IsConflictBefore rule plan (b + 1) c → ¬ IsEarlier c known)
    → MatchOption known (HasNoConflict rule plan) (λ c. IsFirstConflict rule plan c)
first_of_all rule plan b None costs before first =
    none_after rule plan b (b + 1) costs refl (λ c is sooner. first c (is, earlier_time (b + 1) c sooner) tt)
first_of_all rule plan b (Some d) costs at first = record {
  member = at.0;
  least = λ c is sooner.
      ⊎_elim (λ l. not_before d c l sooner) (λ l. first c (is, omega (arith, l, at.1)) sooner) (cases_lt (conflict_time d) (conflict_time c));
}
