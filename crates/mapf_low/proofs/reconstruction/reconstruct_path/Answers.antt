use Rattle.std.proofs.Common.{◌≡◌, ◌<◌, ◌+◌, ◌-◌, replicate, slice_index, subst, sym, arith}
use Rattle.mapf_low.specs.Reached.{IsReconstructed}
use Rattle.mapf_low.proofs.Reading.{read_first, read_step, read_needs}
use Rattle.mapf_low.proofs.reconstruction.reconstruct_path.Goals as goal

pub loop-time-init : goal.loop-time-init
loop-time-init g c = read_first c.args.query.now (g.R.Reached.has c.args.reached.now) c.in_ok-cells.cells.items c.args.end
    (subst (λ x. c.in_ok-cells.cells.items ≡ replicate (c.args.end + 1) x) c.goal.ensures.goal (c.in_ok-cells.ensures.items_if_clones_equal (λ y h. h))) c.requires.arrived

pub loop-time-preserved : goal.loop-time-preserved
loop-time-preserved g c =
    let inside : c.loop-time.time - 1 < c.args.end = omega arith in
    let up : c.loop-time.time ≡ c.loop-time.time - 1 + 1 = omega arith in
    read_step c.args.query.now (g.R.Reached.has c.args.reached.now) c.loop-time.cells.items (c.loop-time.time - 1) c.in_ok-cells-2.field-0 c.args.end c.index.result.now
    inside
    (subst (λ t. IsReconstructed c.args.query.now (g.R.Reached.has c.args.reached.now) c.loop-time.cells.items t c.args.end) up c.loop-time.invariant.0)
    c.index.ensures c.in_ok-cells-2.ensures

pub smallest_before-requires : goal.smallest_before-requires
smallest_before-requires g c =
    let inside : c.loop-time.time - 1 < c.args.end = omega arith in
    let up : c.loop-time.time ≡ c.loop-time.time - 1 + 1 = omega arith in
    let needs =
    read_needs c.args.query.now (g.R.Reached.has c.args.reached.now) c.loop-time.cells.items (c.loop-time.time - 1) c.args.end c.index.result.now
    c.requires.linked inside
    (subst (λ t. IsReconstructed c.args.query.now (g.R.Reached.has c.args.reached.now) c.loop-time.cells.items t c.args.end) up c.loop-time.invariant.0)
    (subst (λ t. g.R.Reached.has c.args.reached.now t (slice_index c.loop-time.cells.items t)) up c.loop-time.invariant.1)
    c.index.ensures in
    record { free = needs.0; early = omega arith; some = needs.1 }

pub returns : goal.returns
returns g c =
    let none : c.loop-time.time ≡ 0 = omega arith in
    subst (λ p. IsReconstructed c.args.query.now (g.R.Reached.has c.args.reached.now) p 0 c.args.end) (sym c.of.ensures)
    (subst (λ t. IsReconstructed c.args.query.now (g.R.Reached.has c.args.reached.now) c.loop-time.cells.items t c.args.end) none c.loop-time.invariant.0)
