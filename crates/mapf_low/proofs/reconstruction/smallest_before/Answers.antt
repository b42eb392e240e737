use Rattle.std.proofs.Common.{◌≡◌, ◌↔◌, ◌+◌, ℕ, length, take, Contains, subst, sym, ◌∙◌, arith}
use Rattle.mapf_grid.specs.Grid.{Next}
use Rattle.mapf_low.specs.declared.constraint.Constraint.TheVariants.{Edge}
use Rattle.mapf_low.specs.Query.{Query}
use Rattle.mapf_low.specs.Reached.{ComesFrom}
use Rattle.mapf_low.specs.Best.{IsSmallest}
use Rattle.mapf_low.proofs.Bests.{front_takes, front_keeps, smallest_some, smallest_at}
use Rattle.mapf_low.proofs.Rising.{met_before, not_true}
use Rattle.mapf_low.proofs.reconstruction.smallest_before.Goals as goal
use Rattle.mapf_low.proofs.reconstruction.smallest_before.Goals.{then-has+then-allows_step, else-has, else-has-via-then-has+else-allows_step, else-has-via-else-has}

-- it is one of P, and nothing forbids to step from it to the cell
abbrev Steps : Query → ℕ → (ℕ → Type 0) → ℕ → ℕ → Type 0
Steps query time P cell u = P u × (¬ Contains query.constraints (Edge u cell time))

pub loop-from-preserved : goal.loop-from-preserved
loop-from-preserved g c =
    let items = c.as_slice-from-items.result.now in
    let k = c.loop-from.from-index in
    elim c.if-has.branch [
      | then-has+then-allows_step w ↦
          subst (IsSmallest (λ u. Contains (take (k + 1) items) u × Steps c.args.query.now (c.args.time + 1) (g.R.Reached.has c.args.reached.now c.args.time) c.args.cell u)) (sym (w.smallest-is ∙ w.smaller-smallest.ensures))
          (front_takes (Steps c.args.query.now (c.args.time + 1) (g.R.Reached.has c.args.reached.now c.args.time) c.args.cell) items k c.from-item.result c.loop-from-test.true c.from-item.is c.loop-from.smallest c.loop-from.invariant
          (c.has.ensures.0 w.if-has.true, w.allows_step.ensures.0 w.if-allows_step.true))
      | else-has w ↦
          subst (IsSmallest (λ u. Contains (take (k + 1) items) u × Steps c.args.query.now (c.args.time + 1) (g.R.Reached.has c.args.reached.now c.args.time) c.args.cell u)) (sym w.smallest-is)
          (front_keeps (Steps c.args.query.now (c.args.time + 1) (g.R.Reached.has c.args.reached.now c.args.time) c.args.cell) items k c.from-item.result c.loop-from-test.true c.from-item.is c.loop-from.smallest c.loop-from.invariant
          (elim w.else-has.branch [
            | else-has-via-then-has+else-allows_step x ↦ (λ q. not_true x.allows_step.result (¬ Contains c.args.query.now.constraints (Edge c.from-item.result c.args.cell (c.args.time + 1))) x.allows_step.ensures x.if-allows_step.false q.1)
            | else-has-via-else-has x ↦ (λ q. not_true c.has.result (g.R.Reached.has c.args.reached.now c.args.time c.from-item.result) c.has.ensures x.if-has.false q.0)
          ]))
    ]

pub unwrap-requires : goal.unwrap-requires
unwrap-requires g c =
    let whole : c.loop-from.from-index ≡ length c.as_slice-from-items.result.now = omega arith in
    let steps_from : (v : ℕ) → Contains c.as_slice-from-items.result.now v ↔ Next c.args.query.now.grid c.args.cell v =
    subst (λ xs. (v : ℕ) → Contains xs v ↔ Next c.args.query.now.grid c.args.cell v) (sym c.as_slice-from-items.ensures) c.in_ok-steps_from.ensures in
    smallest_some (λ u. ComesFrom c.args.query.now (c.args.time + 1) (g.R.Reached.has c.args.reached.now c.args.time) c.args.cell u) c.loop-from.smallest
    (met_before c.args.query.now (c.args.time + 1) (g.R.Reached.has c.args.reached.now c.args.time) c.args.cell c.as_slice-from-items.result.now c.loop-from.from-index c.loop-from.smallest whole steps_from c.loop-from.invariant)
    c.requires.some

pub returns : goal.returns
returns g c =
    let whole : c.loop-from.from-index ≡ length c.as_slice-from-items.result.now = omega arith in
    let steps_from : (v : ℕ) → Contains c.as_slice-from-items.result.now v ↔ Next c.args.query.now.grid c.args.cell v =
    subst (λ xs. (v : ℕ) → Contains xs v ↔ Next c.args.query.now.grid c.args.cell v) (sym c.as_slice-from-items.ensures) c.in_ok-steps_from.ensures in
    let found =
    smallest_at (λ u. ComesFrom c.args.query.now (c.args.time + 1) (g.R.Reached.has c.args.reached.now c.args.time) c.args.cell u) c.loop-from.smallest c.unwrap.result c.unwrap.ensures
    (met_before c.args.query.now (c.args.time + 1) (g.R.Reached.has c.args.reached.now c.args.time) c.args.cell c.as_slice-from-items.result.now c.loop-from.from-index c.loop-from.smallest whole steps_from c.loop-from.invariant) in
    record { comes = found.0; smallest = found.1 }
