use Rattle.std.proofs.Common.{◌≡◌, ◌<◌, ◌≤◌, length, get_or, subst, sym, arith}
use Rattle.mapf_grid.specs.Grid.{cells}
use Rattle.mapf_low.proofs.forwards.Closing.{closing_first, closing_next, closing_last, places_few}
use Rattle.mapf_low.proofs.forwards.expansion.expand_level.Goals as goal

pub loop-place-init : goal.loop-place-init
loop-place-init c = closing_first c.args.query.now c.args.sum c.args.level.now c.requires.placed

pub expand_within-requires : goal.expand_within-requires
expand_within-requires c =
    let inside : c.loop-place.place < length c.loop-place.level = subst (λ xs. c.loop-place.place < length xs) c.cells.ensures.cells c.loop-place-test.true in
    let is : c.index-cells-place.result ≡ get_or c.loop-place.level c.loop-place.place c.index-cells-place.result = subst (λ xs. c.index-cells-place.result ≡ get_or xs c.loop-place.place c.index-cells-place.result) c.cells-in-loop-place.ensures.cells c.index-cells-place.is in
    let placed = c.loop-place.invariant.placed c.index-cells-place.result (c.loop-place.place, inside, sym is) in
    record { free = placed.0; near = placed.2; sum = c.requires.sum }

pub loop-place-smaller : goal.loop-place-smaller
loop-place-smaller c =
    let inside : c.loop-place.place < length c.loop-place.level = subst (λ xs. c.loop-place.place < length xs) c.cells.ensures.cells c.loop-place-test.true in
    let few : length c.loop-place.level ≤ cells c.args.query.now.grid = places_few c.args.query.now c.args.sum c.loop-place.level c.cells.ensures.once c.loop-place.invariant.placed in
    omega (arith, inside, few)

pub loop-place-preserved : goal.loop-place-preserved
loop-place-preserved c =
    let inside : c.loop-place.place < length c.loop-place.level = subst (λ xs. c.loop-place.place < length xs) c.cells.ensures.cells c.loop-place-test.true in
    let is : c.index-cells-place.result ≡ get_or c.loop-place.level c.loop-place.place c.index-cells-place.result = subst (λ xs. c.index-cells-place.result ≡ get_or xs c.loop-place.place c.index-cells-place.result) c.cells-in-loop-place.ensures.cells c.index-cells-place.is in
    closing_next c.args.query.now c.args.sum c.args.level.now c.loop-place.level c.expand_within.new.level c.loop-place.place c.index-cells-place.result
    c.requires.posed.sizes inside is c.loop-place.invariant c.in_ok-expand_within.ensures

pub returns-clause-closes : goal.returns-clause-closes
returns-clause-closes c =
    let past : length c.loop-place.level ≤ c.loop-place.place = subst (λ xs. length xs ≤ c.loop-place.place) c.cells.ensures.cells c.loop-place-test.false in
    closing_last c.args.query.now c.args.sum c.args.level.now c.loop-place.level c.loop-place.place past c.loop-place.invariant
