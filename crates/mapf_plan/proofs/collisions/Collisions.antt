-- When two agents collide, by their paths alone, and which conflicts they have then.
use Rattle.std.proofs.Common.{◌≡◌, ◌⊎◌, ℕ, ◌+◌, ◌-◌, ◌<◌, ◌≤◌, List, length, min, max, inl, inr, refl, subst₂, sym, ap, ◌∙◌, ⊎_elim, arith}
use Rattle.std.specs.Prelude.{Option, Some, None}
use Rattle.std.proofs.lemmas.Bool.{cases_lt}
use native.Mathlib.Decide.{ℕ_discrete}
use Rattle.mapf_plan.specs.declared.conflict.Conflict.{Conflict}
use Rattle.mapf_plan.specs.declared.conflict.Conflict.TheVariants.{Vertex, Swapping, Following}
use Rattle.mapf_plan.specs.declared.rule.Rule.{Rule}
use Rattle.mapf_plan.specs.declared.rule.Rule.TheVariants.{Classical, NoFollowing}
use Rattle.mapf_plan.specs.Path.{at, cost, AreApart, IsFirstTime}
use Rattle.mapf_plan.specs.Plan.{conflict_time, path_of, place}
use Rattle.mapf_plan.specs.Collisions.{DoCollide, DoStepsCollide, DontCollideBefore, HaveNoneBefore, IsFirstCollision}
use Rattle.mapf_plan.specs.FirstConflict.{IsConflictOfPair, IsConflictOfTwo, IsFirstOfPair, PairHasNoneBefore}
use Rattle.mapf_plan.proofs.Paths.{at_past}
use Rattle.mapf_plan.proofs.collisions.Steps.{earlier_time, some_before, apart_at_rest}

-- agents on one cell collide
pub together : (rule : Rule) (p q : List ℕ) (t : ℕ) → at p t ≡ at q t → DoCollide rule p q t
together Classical p q t e = inl e
together NoFollowing p q t e = inl e

-- agents that are apart don't
pub not_apart : (rule : Rule) (p q : List ℕ) (t : ℕ) → AreApart p q t → ¬ DoCollide rule p q t
not_apart Classical p q t apart h = ⊎_elim apart.same (λ w. apart.one w.0) h
not_apart NoFollowing p q t apart h = ⊎_elim apart.same (λ w. ⊎_elim apart.one apart.other w) h

-- whether they collide doesn't depend on their order
pub turned : (rule : Rule) (p q : List ℕ) (t : ℕ) → DoCollide rule p q t → DoCollide rule q p t
turned Classical p q t h = ⊎_elim (λ e. inl (sym e)) (λ w. inr (w.1, w.0)) h
turned NoFollowing p q t h = ⊎_elim (λ e. inl (sym e)) (λ w. inr (⊎_elim (λ e. inr e) (λ e. inl e) w)) h

-- so the first time at which two paths conflict doesn't
pub either_order : (rule : Rule) (p q : List ℕ) (found : Option ℕ) → HaveNoneBefore rule p q found → HaveNoneBefore rule q p found
either_order rule p q None none = λ t h. none t (turned rule q p t h)
either_order rule p q (Some time) none = λ t l h. none t l (turned rule q p t h)

-- two agents collide at the time of each conflict that they have
pub collides : (rule : Rule) (plan : List (List ℕ)) (i j : ℕ) (c : Conflict) → IsConflictOfPair rule plan i j c
    → DoCollide rule (path_of plan i) (path_of plan j) (conflict_time c)
collides rule plan i j (Vertex t a b v) is =
    together rule (path_of plan i) (path_of plan j) t (ap (λ k. place plan k t) (sym is.1) ∙ is.0.2 ∙ sym is.0.3 ∙ ap (λ k. place plan k t) is.2)
collides Classical plan i j (Swapping t a b u v) is = inr (
  ap (λ k. place plan k t) (sym is.1) ∙ is.0.5 ∙ sym is.0.6 ∙ ap (λ k. place plan k (t - 1)) is.2,
  ap (λ k. place plan k t) (sym is.2) ∙ is.0.7 ∙ sym is.0.4 ∙ ap (λ k. place plan k (t - 1)) is.1,
)
collides NoFollowing plan i j (Swapping t a b u v) is =
    inr (inl (ap (λ k. place plan k t) (sym is.1) ∙ is.0.5 ∙ sym is.0.6 ∙ ap (λ k. place plan k (t - 1)) is.2))
collides Classical plan i j (Following t a b v) is = absurd (never is.0.0)
  where
    never : ¬ (Classical ≡ NoFollowing)
    never e = cc
collides NoFollowing plan i j (Following t a b v) is =
    ⊎_elim
    (λ h.
    let ea : a ≡ i = omega (arith, h, is.1) in let eb : b ≡ j = omega (arith, h, is.2) in
    inr (inl (ap (λ k. place plan k t) (sym ea) ∙ is.0.5 ∙ sym is.0.6 ∙ ap (λ k. place plan k (t - 1)) eb)))
    (λ h.
    let ea : a ≡ j = omega (arith, h, is.2) in let eb : b ≡ i = omega (arith, h, is.1) in
    inr (inr (ap (λ k. place plan k t) (sym ea) ∙ is.0.5 ∙ sym is.0.6 ∙ ap (λ k. place plan k (t - 1)) eb)))
    (cases_lt a b)

-- whichever of them has the smaller number
pub collides_of_two : (rule : Rule) (plan : List (List ℕ)) (i j : ℕ) (c : Conflict) → IsConflictOfTwo rule plan i j c
    → DoCollide rule (path_of plan i) (path_of plan j) (conflict_time c)
collides_of_two rule plan i j c is =
    ⊎_elim (λ l. collides rule plan i j c (is.0, omega (arith, is.1, l), omega (arith, is.2, l)))
    (λ l. turned rule (path_of plan j) (path_of plan i) (conflict_time c) (collides rule plan j i c (is.0, omega (arith, is.1, l), omega (arith, is.2, l))))
    (cases_lt i j)

-- two agents of a plan have a conflict at a time
abbrev ConflictAt : Rule → List (List ℕ) → (i j t : ℕ) → Type 0
ConflictAt rule plan i j t = (c : Conflict) × IsConflictOfPair rule plan i j c × (conflict_time c ≡ t)

-- they have one where they are on one cell
vertex_at : (rule : Rule) (plan : List (List ℕ)) (i j t : ℕ) → i < j → j < length plan → place plan i t ≡ place plan j t → ConflictAt rule plan i j t
vertex_at rule plan i j t l m e = (Vertex t i j (place plan i t), ((l, m, refl, sym e), refl, refl), refl)

-- and where they swap
swapping_at : (rule : Rule) (plan : List (List ℕ)) (i j t : ℕ) → i < j → j < length plan → place plan i t ≡ place plan j (t - 1) → place plan j t ≡ place plan i (t - 1)
    → ConflictAt rule plan i j t
swapping_at rule plan i j t l m one other = go (ℕ_discrete (place plan i (t - 1)) (place plan i t))
  where
    go : Dec (place plan i (t - 1) ≡ place plan i t) → ConflictAt rule plan i j t
    go (yes e) = vertex_at rule plan i j t l m (sym e ∙ sym other)
    go (no n) =
        let later : 0 < t = ⊎_elim (λ h. h) (λ h. absurd (n (ap (λ s. place plan i s) (omega (arith, h))))) (cases_lt 0 t) in
        (Swapping t i j (place plan i (t - 1)) (place plan i t), ((l, m, later, n, refl, refl, sym one, other), refl, refl), refl)

-- and where one follows the other and that is forbidden
following_at : (plan : List (List ℕ)) (i j t : ℕ) → i < j → j < length plan
    → (place plan i t ≡ place plan j (t - 1)) ⊎ (place plan j t ≡ place plan i (t - 1)) → ConflictAt NoFollowing plan i j t
following_at plan i j t l m follows = ⊎_elim one other follows
  where
    inside : i < length plan
    inside = omega (arith, l, m)

    one : place plan i t ≡ place plan j (t - 1) → ConflictAt NoFollowing plan i j t
    one e =
        ⊎_elim (λ h. (Following t i j (place plan i t), ((refl, (λ k. omega (arith, k, l)), inside, m, h, refl, sym e), omega (arith, l), omega (arith, l)), refl))
        (λ h. vertex_at NoFollowing plan i j t l m (e ∙ ap (λ s. place plan j s) (omega (arith, h)))) (cases_lt 0 t)

    other : place plan j t ≡ place plan i (t - 1) → ConflictAt NoFollowing plan i j t
    other e =
        ⊎_elim (λ h. (Following t j i (place plan j t), ((refl, (λ k. omega (arith, k, l)), m, inside, h, refl, sym e), omega (arith, l), omega (arith, l)), refl))
        (λ h. vertex_at NoFollowing plan i j t l m (sym (e ∙ ap (λ s. place plan i s) (omega (arith, h))))) (cases_lt 0 t)

-- so they have one where they collide
collision : (rule : Rule) (plan : List (List ℕ)) (i j t : ℕ) → i < j → j < length plan → DoCollide rule (path_of plan i) (path_of plan j) t → ConflictAt rule plan i j t
collision Classical plan i j t l m h = ⊎_elim (λ e. vertex_at Classical plan i j t l m e) (λ w. swapping_at Classical plan i j t l m w.0 w.1) h
collision NoFollowing plan i j t l m h = ⊎_elim (λ e. vertex_at NoFollowing plan i j t l m e) (λ w. following_at plan i j t l m w) h

-- agents that have no conflict before a time don't collide before it, and the other way round
pub apart_until : (rule : Rule) (plan : List (List ℕ)) (i j time : ℕ) → i < j → j < length plan → PairHasNoneBefore rule plan i j time
    → DontCollideBefore rule (path_of plan i) (path_of plan j) time
apart_until rule plan i j time l m none t h does =
    let w = collision rule plan i j t l m does in some_before rule plan i j time w.0 w.1 (omega (arith, w.2, h)) none

pub pair_has_none : (rule : Rule) (plan : List (List ℕ)) (i j time : ℕ) → DontCollideBefore rule (path_of plan i) (path_of plan j) time → PairHasNoneBefore rule plan i j time
pair_has_none rule plan i j time none c is before = none (conflict_time c) (earlier_time time c before) (collides rule plan i j c is)

-- what is found at the time at which they collide is their first conflict, wherever the end is
pub found_by_end : (rule : Rule) (plan : List (List ℕ)) (i j t end : ℕ) (found : Option Conflict) → i < j → j < length plan → DoCollide rule (path_of plan i) (path_of plan j) t
    → IsFirstOfPair rule plan i j (t + 1) found → IsFirstOfPair rule plan i j end found
found_by_end rule plan i j t end None l m does none = absurd (apart_until rule plan i j (t + 1) l m none t (omega arith) does)
found_by_end rule plan i j t end (Some c) l m does is = is

-- agents that are at rest collide only where they are on one cell since then
rested : (rule : Rule) (p q : List ℕ) (b t : ℕ) → cost p ≤ b → cost q ≤ b → b < t → DoCollide rule p q t → at p b ≡ at q b
rested rule p q b t hp hq l does = go rule does
  where
    one : (s : ℕ) → b ≤ s → at p b ≡ at p s
    one s h = at_past p b hp ∙ sym (at_past p s (omega (arith, h, hp)))

    other : (s : ℕ) → b ≤ s → at q s ≡ at q b
    other s h = at_past q s (omega (arith, h, hq)) ∙ sym (at_past q b hq)

    follows : at p t ≡ at q (t - 1) → at p b ≡ at q b
    follows e = one t (omega (arith, l)) ∙ e ∙ other (t - 1) (omega (arith, l))

    go : (rule : Rule) → DoCollide rule p q t → at p b ≡ at q b
    go Classical h = ⊎_elim (λ e. one t (omega (arith, l)) ∙ e ∙ other t (omega (arith, l))) (λ w. follows w.0) h
    go NoFollowing h =
        ⊎_elim (λ e. one t (omega (arith, l)) ∙ e ∙ other t (omega (arith, l)))
        (λ w. ⊎_elim follows (λ e. one (t - 1) (omega (arith, l)) ∙ sym e ∙ other t (omega (arith, l))) w) h

-- agents that don't collide before both rest never do
pub found_in_all : (rule : Rule) (p q : List ℕ) (b : ℕ) (found : Option ℕ) → cost p ≤ b → cost q ≤ b → IsFirstCollision rule p q (b + 1) found → HaveNoneBefore rule p q found
found_in_all rule p q b None hp hq none = λ t does.
    ⊎_elim (λ l. none b (omega arith) (together rule p q b (rested rule p q b t hp hq l does))) (λ h. none t (omega (arith, h)) does) (cases_lt b t)
found_in_all rule p q b (Some t) hp hq is = is.2

-- agents that are apart from one time to another don't collide before that
pub still_apart : (rule : Rule) (p q : List ℕ) (s e : ℕ) → DontCollideBefore rule p q s → ((t : ℕ) → s ≤ t → t < e → AreApart p q t) → DontCollideBefore rule p q e
still_apart rule p q s e none apart t l does = ⊎_elim (λ h. none t h does) (λ h. not_apart rule p q t (apart t h l) does) (cases_lt t s)

-- nor do those that aren't on one cell, where one of them is at rest
apart_while : (rule : Rule) (p q : List ℕ) (s e : ℕ) → DontCollideBefore rule p q s → (s < e → min (cost p) (cost q) < s) → ((t : ℕ) → s ≤ t → t < e → ¬ (at p t ≡ at q t))
    → DontCollideBefore rule p q e
apart_while rule p q s e none rests apart = still_apart rule p q s e none (λ t h l. apart_at_rest p q t (omega (arith, rests (omega (arith, h, l)), h)) (was t h l) (apart t h l))
  where
    was : (t : ℕ) → s ≤ t → t < e → ¬ (at p (t - 1) ≡ at q (t - 1))
    was t h l same =
        ⊎_elim (λ m. none (t - 1) m (together rule p q (t - 1) same)) (λ m. apart (t - 1) m (omega (arith, l)) same) (cases_lt (t - 1) s)

-- so the first time at which they are on one cell is the first at which they collide
pub found_at_rest : (rule : Rule) (p q : List ℕ) (s e end : ℕ) (found : Option ℕ) → DontCollideBefore rule p q s → (s < e → min (cost p) (cost q) < s)
    → e ≡ min end (max (cost p) (cost q) + 1) → IsFirstTime (λ t. at p t ≡ at q t) s e found → IsFirstCollision rule p q end found
found_at_rest rule p q s e end None none rests is apart = λ t l does.
    ⊎_elim (λ h. before t h does)
    (λ h.
    let b = max (cost p) (cost q) in
    before b (omega (arith, is, h, l)) (together rule p q b (rested rule p q b t (omega arith) (omega arith) (omega (arith, is, h, l)) does)))
    (cases_lt t e)
  where
    before : DontCollideBefore rule p q e
    before = apart_while rule p q s e none rests apart
found_at_rest rule p q s e end (Some u) none rests is first = (
  omega (arith, is, first.1),
  together rule p q u first.2,
  apart_while rule p q s u none (λ h. rests (omega (arith, h, first.1))) first.3,
)

-- agents that go from one time's cells to the next's collide by their steps as they do by their paths
pub as_steps : (rule : Rule) (p q : List ℕ) (t one_was one_is other_was other_is : ℕ) → one_was ≡ at p (t - 1) → one_is ≡ at p t → other_was ≡ at q (t - 1) → other_is ≡ at q t
    → DoCollide rule p q t → DoStepsCollide rule one_was one_is other_was other_is
as_steps rule p q t a b c d ea eb ec ed does =
    subst₂ (λ a b. DoStepsCollide rule a b c d) (sym ea) (sym eb) (subst₂ (λ c d. DoStepsCollide rule (at p (t - 1)) (at p t) c d) (sym ec) (sym ed) does)

pub as_collision : (rule : Rule) (p q : List ℕ) (t one_was one_is other_was other_is : ℕ) → one_was ≡ at p (t - 1) → one_is ≡ at p t → other_was ≡ at q (t - 1) → other_is ≡ at q t
    → DoStepsCollide rule one_was one_is other_was other_is → DoCollide rule p q t
as_collision rule p q t a b c d ea eb ec ed does =
    subst₂ (λ a b. DoStepsCollide rule a b (at q (t - 1)) (at q t)) ea eb (subst₂ (λ c d. DoStepsCollide rule a b c d) ec ed does)
