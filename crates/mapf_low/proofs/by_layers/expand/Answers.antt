use Rattle.std.proofs.Common.{◌≡◌, ◌↔◌, ℕ, length, Contains, subst, sym, arith}
use Rattle.mapf_low.specs.Distances.Levels.{IsFreeNeighbour}
use Rattle.mapf_low.specs.Layers.{MayEnter}
use Rattle.mapf_low.proofs.forwards.Grown.{some_none, some_more, some_all, some_itself}
use Rattle.mapf_low.proofs.Rising.{expanded_is}
use Rattle.mapf_low.proofs.by_layers.expand.Goals as goal

pub loop-to-init : goal.loop-to-init
loop-to-init c = some_none (λ u v. (u ≡ v) × MayEnter c.args.query.now c.args.time c.args.from v) c.as_slice-to-items.result.now c.generate.new.reached

pub loop-to-preserved : goal.loop-to-preserved
loop-to-preserved c =
    some_more (λ u v. (u ≡ v) × MayEnter c.args.query.now c.args.time c.args.from v) c.as_slice-to-items.result.now c.generate.new.reached c.loop-to.reached c.generate-in-loop-to.new.reached
    c.loop-to.to-index c.to-item.result c.loop-to-test.true c.to-item.is c.loop-to.invariant c.in_ok-generate-2.ensures

pub returns : goal.returns
returns c =
    let whole : c.loop-to.to-index ≡ length c.as_slice-to-items.result.now = omega arith in
    let beside : (v : ℕ) → Contains c.as_slice-to-items.result.now v ↔ IsFreeNeighbour c.args.query.now.grid c.args.from v =
    subst (λ xs. (v : ℕ) → Contains xs v ↔ IsFreeNeighbour c.args.query.now.grid c.args.from v) (sym c.as_slice-to-items.ensures) c.neighbours.ensures in
    expanded_is c.args.query.now c.args.time c.args.from c.as_slice-to-items.result.now c.args.reached.now c.generate.new.reached c.loop-to.reached c.requires beside c.in_ok-generate.ensures
    (some_itself (λ v. MayEnter c.args.query.now c.args.time c.args.from v) c.as_slice-to-items.result.now c.generate.new.reached c.loop-to.reached
    (some_all (λ u v. (u ≡ v) × MayEnter c.args.query.now c.args.time c.args.from v) c.as_slice-to-items.result.now c.generate.new.reached c.loop-to.reached c.loop-to.to-index whole c.loop-to.invariant))
