use Rattle.std.proofs.Common.{◌+◌, ◌≡◌, inl, ⊎_elim, arith}
use Rattle.std.proofs.lemmas.Bool.{cases_lt}
use Rattle.mapf_plan.specs.Plan.{conflict_time, first_agent}
use Rattle.mapf_plan.specs.FirstConflict.{IsConflictBefore, IsOfAgent}
use Rattle.mapf_plan.proofs.Conflicts.{agents_of}
use Rattle.mapf_plan.proofs.collisions.Steps.{of_either, still_before, first_of_all}
use Rattle.mapf_plan.proofs.collisions.first_conflict.first_by_pairs.Goals as goal

pub loop-agent-preserved : goal.loop-agent-preserved
loop-agent-preserved g c =
    let rule = c.args.rule in let plan = g.P.AgentPaths.paths c.args.plan.now in let agent = c.loop-agent.agent in let end = c.longest-end.result + 1 in
    let until = c.end_by-until.result in let found = c.first_of_agent-found.result in (
      of_either (IsConflictBefore rule plan end) c.earlier-known.result c.loop-agent.known found c.earlier-known.ensures.either c.loop-agent.invariant.0
          (still_before rule plan until end c.end_by-until.ensures.within found c.first_of_agent-found.ensures.conflict),
      λ d is l before.
          let sooner = c.earlier-known.ensures.known d before in
          ⊎_elim (λ h. c.loop-agent.invariant.1 d is h sooner)
          (λ h.
          let e : first_agent d ≡ agent = omega (arith, l, h) in
          let with_larger : IsOfAgent agent (agent + 1) d = inl (e, omega (arith, e, (agents_of rule plan d is.0).0)) in
          ⊎_elim (λ m. c.first_of_agent-found.ensures.first d (is.0, m) with_larger (c.earlier-known.ensures.found d before))
          (λ m. c.end_by-until.ensures.later d is.1 m sooner) (cases_lt (conflict_time d) until))
          (cases_lt (first_agent d) agent),
    )

pub returns : goal.returns
returns g c =
    let rule = c.args.rule in let plan = g.P.AgentPaths.paths c.args.plan.now in
    first_of_all rule plan c.longest-end.result c.loop-agent.known c.longest-end.ensures.costs c.loop-agent.invariant.0
    (λ d is. let l = agents_of rule plan d is.0 in c.loop-agent.invariant.1 d is (grind (arith, l.0, l.1)))
