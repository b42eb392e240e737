use Rattle.std.proofs.Common.{subst, sym, ap, ◌∙◌}
use Rattle.mapf_grid.specs.Grid.{Grid}
use Rattle.mapf_grid.specs.Instance.{Instance}
use Rattle.mapf_plan.specs.Text.{CanWrite}
use Rattle.mapf_solve.proofs.Answering.{can_write}
use Rattle.mapf_solve.proofs.asked.spell.Goals as goal

pub write-requires : goal.write-requires
write-requires c =
    subst (λ (g : Grid). CanWrite g c.args.answer.now) (sym (c.map.ensures.map ∙ ap (λ (i : Instance). i.grid) c.instance.ensures.instance))
    (can_write c.args.problem.now c.args.answer.now c.instance.ensures.sound.sizes c.requires.bound c.requires.limit c.requires.answer)
