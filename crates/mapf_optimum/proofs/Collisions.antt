-- Agents of a plan without conflict never collide.
use Rattle.std.proofs.Common.{◌≡◌, ℕ, ◌<◌, ◌-◌, List, length, refl, sym, ap, ◌∙◌, ⊎_elim, arith}
use Rattle.std.proofs.lemmas.Bool.{cases_lt}
use native.Mathlib.Decide.{ℕ_discrete}
use Rattle.mapf_grid.proofs.Decide.{by_cases}
use Rattle.mapf_plan.specs.declared.conflict.Conflict.TheVariants.{Vertex, Swapping, Following}
use Rattle.mapf_plan.specs.declared.rule.Rule.{Rule}
use Rattle.mapf_plan.specs.declared.rule.Rule.TheVariants.{Classical, NoFollowing}
use Rattle.mapf_plan.specs.Plan.{HasNoConflict, path_of, place}
use Rattle.mapf_optimum.specs.Together.{NeverCollide}

module _ (plan : List (List ℕ)) (i j t : ℕ) (l : i < j) (m : j < length plan) where
  -- at one time or at the time before
  before : (P : Type 0) → (0 < t → P) → (t - 1 ≡ t → P) → P
  before P later first = ⊎_elim later (λ h. first (omega (arith, h))) (cases_lt 0 t)

  no_vertex : (rule : Rule) → HasNoConflict rule plan → ¬ (place plan i t ≡ place plan j t)
  no_vertex rule none e = none (Vertex t i j (place plan i t)) (l, m, refl, sym e)

  no_swapping : (rule : Rule) → HasNoConflict rule plan → ¬ ((place plan i t ≡ place plan j (t - 1)) × (place plan j t ≡ place plan i (t - 1)))
  no_swapping rule none w =
      before ⊥
      (λ later.
      by_cases (ℕ_discrete (place plan i (t - 1)) (place plan i t)) (λ e. no_vertex rule none (sym e ∙ sym w.1))
      (λ n. none (Swapping t i j (place plan i (t - 1)) (place plan i t)) (l, m, later, n, refl, refl, sym w.0, w.1)))
      (λ first. no_vertex rule none (w.0 ∙ ap (λ s. place plan j s) first))

  no_following : HasNoConflict NoFollowing plan → ¬ (place plan i t ≡ place plan j (t - 1))
  no_following none e =
      before ⊥ (λ later. none (Following t i j (place plan i t)) (refl, (λ k. omega (arith, k, l)), omega (arith, l, m), m, later, refl, sym e))
      (λ first. no_vertex NoFollowing none (e ∙ ap (λ s. place plan j s) first))

  no_leading : HasNoConflict NoFollowing plan → ¬ (place plan j t ≡ place plan i (t - 1))
  no_leading none e =
      before ⊥ (λ later. none (Following t j i (place plan j t)) (refl, (λ k. omega (arith, k, l)), m, omega (arith, l, m), later, refl, sym e))
      (λ first. no_vertex NoFollowing none (sym (e ∙ ap (λ s. place plan i s) first)))

-- so they never do
pub never_collide : (rule : Rule) (plan : List (List ℕ)) (i j : ℕ) → HasNoConflict rule plan → i < j → j < length plan → NeverCollide rule (path_of plan i) (path_of plan j)
never_collide Classical plan i j none l m t does = ⊎_elim (no_vertex plan i j t l m Classical none) (no_swapping plan i j t l m Classical none) does
never_collide NoFollowing plan i j none l m t does =
    ⊎_elim (no_vertex plan i j t l m NoFollowing none) (λ w. ⊎_elim (no_following plan i j t l m none) (no_leading plan i j t l m none) w) does
