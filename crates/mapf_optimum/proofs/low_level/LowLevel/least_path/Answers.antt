use Rattle.std.proofs.Common.{ap, ◌∙◌, subst, get_or}
use Rattle.mapf_grid.specs.Instance.{Instance}
use Rattle.mapf_tree.specs.Problem.{Problem}
use Rattle.mapf_optimum.specs.FreeSearch.{HasStartTables}
use Rattle.mapf_optimum.proofs.StartTables.{from_start}
use Rattle.mapf_optimum.proofs.low_level.LowLevel.least_path.Goals as goal

pub cheapest_backwards-requires-clause-from_start : goal.cheapest_backwards-requires-clause-from_start
cheapest_backwards-requires-clause-from_start c =
    let same = c.instance-instance.ensures.instance ∙ ap (λ (p : Problem). p.inst) c.self.view_is in
    from_start c.args.self.now.inst c.self.inside.from_starts.items c.map.result.now c.args.agent c.start-start.result c.index.result.now
    (subst (λ (p : Problem). HasStartTables p.inst c.self.inside.from_starts.items) c.self.view_is c.self.invariant) c.requires.agent
    (c.map.ensures.map ∙ ap (λ (i : Instance). i.grid) same) (c.start-start.ensures.start ∙ ap (λ (i : Instance). get_or i.starts c.args.agent 0) same) c.index.ensures
