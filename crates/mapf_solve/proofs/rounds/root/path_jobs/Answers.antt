use Rattle.std.proofs.Common.{ℕ, arith, ap, ◌∙◌}
use Rattle.mapf_solve.specs.Rounds.{WantedPath, wanted_path}
use Rattle.mapf_solve.proofs.AgentJobs.{as_many, jobs_more}
use Rattle.mapf_solve.proofs.rounds.root.path_jobs.Goals as goal

pub push_reserved-requires : goal.push_reserved-requires
push_reserved-requires c = omega (arith, as_many (wanted_path c.args.problem.now c.args.first) c.loop-agent.agent c.loop-agent.jobs.items c.loop-agent.invariant.0, c.loop-agent.invariant.1)

pub loop-agent-preserved : goal.loop-agent-preserved
loop-agent-preserved c =
    let numbered : ℕ → WantedPath = λ n. record { problem = c.args.problem.now; agent = c.loop-agent.agent; number = n } in (
      jobs_more (wanted_path c.args.problem.now c.args.first) c.loop-agent.agent _ _ c.of.result (c.of.ensures ∙ ap numbered c.saturating_add-number.ensures) c.push_reserved.ensures.items c.loop-agent.invariant.0,
      omega (arith, c.push_reserved.ensures.capacity, c.loop-agent.invariant.1),
    )

pub returns-clause-count : goal.returns-clause-count
returns-clause-count c =
    omega (arith, as_many (wanted_path c.args.problem.now c.args.first) c.loop-agent.agent c.loop-agent.jobs.items c.loop-agent.invariant.0, c.loop-agent.auto.agent-end, c.agents-agents.ensures.agents, c.agents-agents.ensures.sound.few)
