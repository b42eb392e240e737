use Rattle.std.proofs.lemmas.Result.{on_ok_weaker}
use Rattle.mapf_plan.specs.Path.{at}
use Rattle.mapf_optimum.proofs.AgentPlaces.{step_from}
use Rattle.mapf_optimum.proofs.together.agent.Agent.add_next_places.Goals as goal

pub returns-clause-adds : goal.returns-clause-adds
returns-clause-adds c =
    on_ok_weaker c.add_moves.result
    (λ moves p before e path cheap stands. moves p (at p c.args.time) (step_from c.args.self.now p before c.args.time c.args.from.cell e path (stands.away c.if-from.false) stands.on) cheap)
    c.add_moves.ensures.adds
