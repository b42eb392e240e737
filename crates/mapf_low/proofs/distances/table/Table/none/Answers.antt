use Rattle.std.proofs.Common.{ap, ◌∙◌, rules}
use Rattle.mapf_low.specs.Distances.Levels.{distances_of}
use Rattle.mapf_low.proofs.distances.Telling.{distances_blocked}
use Rattle.mapf_low.proofs.distances.table.Table.none.Goals as goal

pub returns : goal.returns
returns c =
    let blocked = rw c.first.ensures at c.in_ok-vec.ensures.items_if_clones_equal (λ y h. search rules) in
    ap distances_of blocked ∙ distances_blocked c.args.cells
