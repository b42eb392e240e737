use Rattle.std.proofs.Common.{false, refl, arith}
use Rattle.std.proofs.lemmas.Grind.{common_steps}
use Rattle.mapf_grid.proofs.map.RowStarts.{row_starts-row}
use Rattle.mapf_grid.proofs.map.row_starts.add_row.Goals as goal

pub returns-clause-starts : goal.returns-clause-starts
returns-clause-starts c = row_starts-row c.args.width c.args.starts.now.items c.resize.new.self.items c.requires.some c.requires.whole c.requires.starts
    (grind (arith, common_steps))
    (λ k first. rw c.in_ok-push.ensures.items at (c.in_ok-resize.ensures.by_index.0 k false (grind (arith, common_steps)) (grind (arith, common_steps))))
    (λ k later inside. c.in_ok-resize.ensures.by_index.1 k false refl (grind (arith, common_steps)) (grind (arith, common_steps)))
