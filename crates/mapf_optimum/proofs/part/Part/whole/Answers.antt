use Rattle.std.proofs.Common.{◌≡◌, ap, ◌∙◌, subst, length}
use Rattle.mapf_grid.specs.Instance.{Instance}
use Rattle.mapf_tree.specs.Problem.{Problem}
use Rattle.mapf_optimum.proofs.Parts.{whole_is}
use Rattle.mapf_optimum.proofs.part.Part.whole.Goals as goal

pub returns-clause-all : goal.returns-clause-all
returns-clause-all c =
    whole_is c.args.low.now c.in_ok-agents.agents.items c.agents.result c.in_ok-agents.ensures.long c.in_ok-agents.ensures.each
    (c.agents.ensures.agents ∙ ap (λ (i : Instance). length i.starts) (c.instance.ensures.instance ∙ ap (λ (p : Problem). p.inst) c.problem.ensures))
    (subst (λ (i : Instance). length i.goals ≡ length i.starts) (c.instance.ensures.instance ∙ ap (λ (p : Problem). p.inst) c.problem.ensures) c.agents.ensures.sound.goals)
