use Rattle.std.proofs.Common.{◌≤◌, false, length, map, sym, ◌∙◌, arith}
use Rattle.std.proofs.Math.ListN.{get_or-map}
use Rattle.std.proofs.lemmas.List.{ext_get_or, length-map}
use Rattle.mapf_low.specs.Distances.Mark.{blocked, first_mark}
use Rattle.mapf_low.proofs.distances.first_marks.Goals as goal

pub returns : goal.returns
returns c =
    let free = c.args.free.now in
    let whole : length free ≤ c.loop-place.place = omega arith in
    ext_get_or blocked c.loop-place.marks.items (map first_mark free) (c.loop-place.invariant.each ∙ sym (length-map free first_mark))
    (λ k h. c.loop-place.invariant.so_far k (omega (arith, h, whole, c.loop-place.invariant.each)) ∙ sym (get_or-map first_mark free k false))
