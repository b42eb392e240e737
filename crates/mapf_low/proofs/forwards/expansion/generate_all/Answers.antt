use Rattle.std.proofs.Common.{◌≡◌, length, arith}
use Rattle.mapf_low.specs.Forwards.FLevels.{Admits}
use Rattle.mapf_low.proofs.forwards.Grown.{some_none, some_more, some_all, some_itself}
use Rattle.mapf_low.proofs.forwards.expansion.generate_all.Goals as goal

pub loop-to-init : goal.loop-to-init
loop-to-init c = some_none (λ u v. (u ≡ v) × Admits c.args.query.now c.args.time c.args.far c.args.from v) c.args.neighbours.now c.args.level.now

pub loop-to-preserved : goal.loop-to-preserved
loop-to-preserved c =
    some_more (λ u v. (u ≡ v) × Admits c.args.query.now c.args.time c.args.far c.args.from v) c.args.neighbours.now c.args.level.now c.loop-to.level c.generate.new.level c.loop-to.to-index c.to-item.result
    c.loop-to-test.true c.to-item.is c.loop-to.invariant c.in_ok-generate.ensures

pub returns : goal.returns
returns c =
    let whole : c.loop-to.to-index ≡ length c.args.neighbours.now = omega arith in
    some_itself (λ v. Admits c.args.query.now c.args.time c.args.far c.args.from v) c.args.neighbours.now c.args.level.now c.loop-to.level
    (some_all (λ u v. (u ≡ v) × Admits c.args.query.now c.args.time c.args.far c.args.from v) c.args.neighbours.now c.args.level.now c.loop-to.level c.loop-to.to-index whole c.loop-to.invariant)
