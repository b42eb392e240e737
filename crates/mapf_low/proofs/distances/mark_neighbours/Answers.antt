use Rattle.std.proofs.Common.{sym, ◌∙◌, arith}
use Rattle.mapf_low.specs.Distances.Levels.{IsFreeNeighbour, distances_of}
use Rattle.mapf_low.proofs.distances.Marking.{Marks-same, Marks-four, neighbours-four, same_left, same_right}
use Rattle.mapf_low.proofs.Places.{free_below}
use Rattle.mapf_low.proofs.distances.mark_neighbours.Goals as goal

pub mark_in_row-requires-clause-left : goal.mark_in_row-requires-clause-left
mark_in_row-requires-clause-left c =
    λ u. free_below c.args.map.now c.of-at_left.result c.requires.sizes ((c.in_ok-mark_neighbour.ensures.unseen c.args.map.now c.requires.unseen c.of-at_left.result).0 u).0

pub returns-clause-marks : goal.returns-clause-marks
returns-clause-marks c =
    let grid = c.args.map.now in
    let cell = c.args.cell in
    let left = c.of-at_left.result in
    let right = c.of-at_right.result in
    Marks-four _ _ _ _ (IsFreeNeighbour grid cell) c.args.distance
    (distances_of c.args.marks.now) (distances_of c.mark_neighbour.new.marks) (distances_of c.mark_in_row.new.marks) (distances_of c.mark_in_row-2.new.marks) (distances_of c.mark_neighbour-2.new.marks)
    c.args.next.now.items c.mark_neighbour.new.next.items c.mark_in_row.new.next.items c.mark_in_row-2.new.next.items c.mark_neighbour-2.new.next.items
    (neighbours-four grid cell c.cell_above.result c.cell_below.result c.cell_above.ensures c.cell_below.ensures)
    (c.in_ok-mark_neighbour.ensures.marks grid c.requires.unseen)
    (Marks-same _ _ c.args.distance _ _ _ _
    (same_left grid cell left c.requires.sizes (λ v l. (λ e. omega (arith, sym c.of-at_left.ensures ∙ e, c.number.ensures, l), λ e. c.of-at_left.ensures ∙ omega (arith, c.number.ensures, e, l))))
    c.in_ok-mark_in_row.ensures.marks)
    (Marks-same _ _ c.args.distance _ _ _ _ (same_right grid cell right (c.of-at_right.ensures ∙ omega (arith, c.number-2.ensures))) c.in_ok-mark_in_row-2.ensures.marks)
    (c.in_ok-mark_neighbour-2.ensures.marks grid c.in_ok-mark_in_row-2.ensures.unseen)
