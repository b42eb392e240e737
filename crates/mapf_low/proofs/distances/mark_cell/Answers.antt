use Rattle.std.proofs.Common.{◌≡◌, None, get_or, ◌∙◌, ap, arith}
use Rattle.std.proofs.lemmas.List.{length-map}
use Rattle.mapf_low.specs.Distances.Mark.{distance_of}
use Rattle.mapf_low.specs.Distances.Levels.{distances_of}
use Rattle.mapf_low.proofs.distances.Marking.{Marks-first}
use Rattle.mapf_low.proofs.distances.Telling.{distance_at_mark, distances_seen, unseen_inside, tell_seen}
use Rattle.mapf_low.proofs.distances.mark_cell.Goals as goal

pub returns-clause-marks : goal.returns-clause-marks
returns-clause-marks c =
    let marks = c.args.marks.now in
    let cell = c.args.cell in
    let inside = unseen_inside marks cell c.requires.cell in
    let none : get_or (distances_of marks) cell None ≡ None = distance_at_mark marks cell ∙ ap distance_of c.requires.cell in
    rw (c.in_ok-push.ensures.items, c.number.ensures, c.of_distance.ensures, distances_seen marks cell c.args.distance)
    (Marks-first cell c.args.distance (distances_of marks) c.args.next.now.items (omega (arith, length-map marks distance_of, inside)) none)

pub returns-clause-unseen : goal.returns-clause-unseen
returns-clause-unseen c = λ g tell.
    rw (c.number.ensures, c.of_distance.ensures) (tell_seen g c.args.marks.now c.args.cell c.args.distance c.requires.cell tell)
