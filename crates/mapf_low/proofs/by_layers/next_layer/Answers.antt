use Rattle.std.proofs.Common.{◌≡◌, ◌∙◌, [], length, Contains, subst, sym, arith}
use Rattle.mapf_low.specs.Forwards.FLevels.{Grows}
use Rattle.mapf_low.specs.Layers.{IsNextLayer}
use Rattle.mapf_low.specs.Reached.{IsUsable, MayStep}
use Rattle.mapf_low.proofs.Growing.{FromSome}
use Rattle.mapf_low.proofs.Rising.{next_is}
use Rattle.mapf_low.proofs.forwards.Grown.{some_none, some_more, some_all}
use Rattle.mapf_low.proofs.by_layers.next_layer.Goals as goal

pub loop-from-init : goal.loop-from-init
loop-from-init c =
    subst (Grows (FromSome (λ u v. IsUsable c.args.query.now c.args.query.now.bound c.args.time v × MayStep c.args.query.now c.args.time u v) []) []) (sym (c.in_ok-make_room.ensures ∙ c.new-reached.ensures))
    (some_none (λ u v. IsUsable c.args.query.now c.args.query.now.bound c.args.time v × MayStep c.args.query.now c.args.time u v) c.cells-from-items.result.now [])

pub loop-from-preserved : goal.loop-from-preserved
loop-from-preserved c =
    some_more (λ u v. IsUsable c.args.query.now c.args.query.now.bound c.args.time v × MayStep c.args.query.now c.args.time u v) c.cells-from-items.result.now [] c.loop-from.reached c.expand.new.reached
    c.loop-from.from-index c.from-item.result c.loop-from-test.true c.from-item.is c.loop-from.invariant c.in_ok-expand.ensures

pub expand-requires : goal.expand-requires
expand-requires c =
    c.requires c.from-item.result (subst (λ xs. Contains xs c.from-item.result) c.cells-from-items.ensures.cells (c.loop-from.from-index, c.loop-from-test.true, sym c.from-item.is))

pub returns : goal.returns
returns c =
    let whole : c.loop-from.from-index ≡ length c.cells-from-items.result.now = omega arith in
    subst (λ xs. IsNextLayer c.args.query.now c.args.time xs c.loop-from.reached) c.cells-from-items.ensures.cells
    (next_is c.args.query.now c.args.time c.cells-from-items.result.now c.loop-from.reached
    (some_all (λ u v. IsUsable c.args.query.now c.args.query.now.bound c.args.time v × MayStep c.args.query.now c.args.time u v) c.cells-from-items.result.now [] c.loop-from.reached c.loop-from.from-index whole c.loop-from.invariant))
