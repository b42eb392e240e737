use Rattle.std.proofs.Common.{Some, set, ap, ◌∙◌}
use Rattle.mapf_low.proofs.distances.Telling.{distances_seen}
use Rattle.mapf_low.proofs.distances.table.Table.set.Goals as goal

pub returns : goal.returns
returns c =
    rw (c.number.ensures, c.of_distance.ensures)
    (distances_seen c.self.inside.marks.items c.args.cell c.args.number ∙ ap (λ table. set table c.args.cell (Some c.args.number)) c.self.view_is)
