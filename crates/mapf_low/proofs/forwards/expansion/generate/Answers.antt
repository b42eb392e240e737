use Rattle.mapf_low.specs.Walk.{distance_at}
use Rattle.std.proofs.Common.{◌≡◌, Some, subst, sym}
use Rattle.mapf_low.specs.Forwards.FLevels.{IsAllowedStep, Admits}
use Rattle.mapf_low.proofs.forwards.Grown.{grows_added, grows_not}
use Rattle.mapf_low.proofs.Rising.{not_true}
use Rattle.mapf_low.proofs.forwards.expansion.generate.Goals as goal
use Rattle.mapf_low.proofs.forwards.expansion.generate.Goals.{else-is_at-via-then-is_at+else-allows, else-is_at-via-else-is_at}

pub returns-in_ok-add : goal.returns-in_ok-add
returns-in_ok-add c =
    grows_added (λ v. Admits c.args.query.now c.args.time c.args.far c.args.from v) c.args.to c.args.level.now c.add.new.self c.in_ok-add.ensures
    (c.is_at.ensures.0 c.if-is_at.true, c.allows.ensures.0 c.if-allows.true)

pub returns-else-is_at : goal.returns-else-is_at
returns-else-is_at c =
    grows_not (λ v. (c.args.to ≡ v) × Admits c.args.query.now c.args.time c.args.far c.args.from v) c.args.level.now
    (λ v p. absurd (none (subst (λ w. Admits c.args.query.now c.args.time c.args.far c.args.from w) (sym p.0) p.1)))
  where
    none : ¬ Admits c.args.query.now c.args.time c.args.far c.args.from c.args.to
    none =
        elim c.else-is_at.branch [
          | else-is_at-via-then-is_at+else-allows w ↦ (λ a. not_true w.allows.result (IsAllowedStep c.args.query.now c.args.time c.args.from c.args.to) w.allows.ensures w.if-allows.false a.1)
          | else-is_at-via-else-is_at w ↦ (λ a. not_true c.is_at.result (distance_at c.args.query.now.table c.args.to ≡ Some c.args.far) c.is_at.ensures w.if-is_at.false a.0)
        ]
