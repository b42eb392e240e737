use Rattle.std.proofs.Common.{ℕ, arith, ap, ◌∙◌}
use Rattle.mapf_grid.specs.Grid.{Grid}
use Rattle.mapf_solve.specs.Rounds.{WantedTable, wanted_table}
use Rattle.mapf_solve.proofs.AgentJobs.{as_many, jobs_more}
use Rattle.mapf_solve.proofs.rounds.goals.goal_jobs.Goals as goal

pub push_reserved-requires : goal.push_reserved-requires
push_reserved-requires c = omega (arith, as_many (wanted_table c.args.instance.now) c.loop-agent.agent c.loop-agent.jobs.items c.loop-agent.invariant.0, c.loop-agent.invariant.1)

pub loop-agent-preserved : goal.loop-agent-preserved
loop-agent-preserved c =
    let asked : Grid → ℕ → WantedTable = λ grid cell. record { grid = grid; goal = cell; number = c.loop-agent.agent } in (
      jobs_more (wanted_table c.args.instance.now) c.loop-agent.agent _ _ c.of.result
          (c.of.ensures ∙ ap (λ grid. asked grid c.goal.result) c.map.ensures.map ∙ ap (asked c.args.instance.now.grid) c.goal.ensures.goal) c.push_reserved.ensures.items c.loop-agent.invariant.0,
      omega (arith, c.push_reserved.ensures.capacity, c.loop-agent.invariant.1),
    )

pub returns-clause-count : goal.returns-clause-count
returns-clause-count c =
    omega (arith, as_many (wanted_table c.args.instance.now) c.loop-agent.agent c.loop-agent.jobs.items c.loop-agent.invariant.0, c.loop-agent.auto.agent-end, c.agents-agents.ensures.agents, c.agents-agents.ensures.sound.few)
