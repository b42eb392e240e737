use Rattle.std.proofs.Common.{◌≡◌, Contains, subst, sym}
use Rattle.mapf_low.specs.declared.constraint.Constraint.TheVariants.{Edge}
use Rattle.mapf_low.specs.Layers.{MayEnter}
use Rattle.mapf_low.specs.Reached.{IsUsable}
use Rattle.mapf_low.proofs.Rising.{not_true}
use Rattle.mapf_low.proofs.forwards.Grown.{grows_added, grows_not}
use Rattle.mapf_low.proofs.by_layers.generate.Goals as goal
use Rattle.mapf_low.proofs.by_layers.generate.Goals.{else-is_usable-via-then-is_usable+else-allows_step, else-is_usable-via-else-is_usable}

pub returns-in_ok-add : goal.returns-in_ok-add
returns-in_ok-add c =
    grows_added (λ v. MayEnter c.args.query.now c.args.time c.args.from v) c.args.to c.args.reached.now c.add.new.self c.in_ok-add.ensures
    (c.is_usable.ensures.0 c.if-is_usable.true, c.allows_step.ensures.0 c.if-allows_step.true)

pub returns-else-is_usable : goal.returns-else-is_usable
returns-else-is_usable c =
    grows_not (λ v. (c.args.to ≡ v) × MayEnter c.args.query.now c.args.time c.args.from v) c.args.reached.now
    (λ v p. absurd (none (subst (λ w. MayEnter c.args.query.now c.args.time c.args.from w) (sym p.0) p.1)))
  where
    none : ¬ MayEnter c.args.query.now c.args.time c.args.from c.args.to
    none =
        elim c.else-is_usable.branch [
          | else-is_usable-via-then-is_usable+else-allows_step w ↦ (λ m. not_true w.allows_step.result (¬ Contains c.args.query.now.constraints (Edge c.args.from c.args.to c.args.time)) w.allows_step.ensures w.if-allows_step.false m.1)
          | else-is_usable-via-else-is_usable w ↦ (λ m. not_true c.is_usable.result (IsUsable c.args.query.now c.args.query.now.bound c.args.time c.args.to) c.is_usable.ensures w.if-is_usable.false m.0)
        ]
