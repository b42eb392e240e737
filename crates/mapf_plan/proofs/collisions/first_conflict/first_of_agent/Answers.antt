use Rattle.std.proofs.Common.{◌<◌, ⊎_elim, arith}
use Rattle.std.proofs.lemmas.Bool.{cases_lt}
use Rattle.mapf_plan.specs.Plan.{conflict_time, first_agent, second_agent}
use Rattle.mapf_plan.specs.FirstConflict.{IsConflictBefore, IsConflictOfPair}
use Rattle.mapf_plan.proofs.Conflicts.{agents_of}
use Rattle.mapf_plan.proofs.collisions.Steps.{of_either, found_that, found_first, some_before, that_is_within}
use Rattle.mapf_plan.proofs.collisions.first_conflict.first_of_agent.Goals as goal

pub loop-other-preserved : goal.loop-other-preserved
loop-other-preserved g c =
    let rule = c.args.rule in let plan = g.P.AgentPaths.paths c.args.plan.now in let agent = c.args.agent in let other = c.loop-other.other in
    let i = c.min-first.result in let j = c.max-second.result in let until = c.end_by-until.result in let found = c.first_of_pair.result in (
      of_either (IsConflictBefore rule plan c.args.end) c.earlier-known.result c.loop-other.known found c.earlier-known.ensures.either c.loop-other.invariant.0
          (found_that rule plan i j until (λ d. conflict_time d < c.args.end) found
          (that_is_within until c.args.end c.end_by-until.ensures.within found c.first_of_pair.ensures.time) c.first_of_pair.ensures.conflict),
      λ k s l n d is soon before.
          let sooner = c.earlier-known.ensures.known d before in
          ⊎_elim (λ h. c.loop-other.invariant.1 k s h n d is soon sooner)
          (λ h.
          let of_pair : IsConflictOfPair rule plan i j d = (is.0, omega (arith, is.1, l, h, c.min-first.ensures), omega (arith, is.2, l, h, c.max-second.ensures)) in
          found_first rule plan i j until found d c.first_of_pair.ensures.conflict of_pair
          (λ none. ⊎_elim (λ m. some_before rule plan i j until d of_pair m none) (λ m. c.end_by-until.ensures.later d soon m sooner) (cases_lt (conflict_time d) until))
          (c.earlier-known.ensures.found d before))
          (cases_lt k other),
    )

pub returns-clause-first : goal.returns-clause-first
returns-clause-first g c d is of before =
    let rule = c.args.rule in let plan = g.P.AgentPaths.paths c.args.plan.now in let agent = c.args.agent in
    let i = first_agent d in let j = second_agent d in let l = agents_of rule plan d is.0 in
    let inside : j < c.loop-other.other = grind (arith, l.1) in
    ⊎_elim
    (λ h. c.loop-other.invariant.1 j h.1 inside (λ e. omega (arith, e, h.0, l.0)) d (is.0, omega (arith, h.0, l.0), omega (arith, h.0, l.0)) is.1 before)
    (λ h. c.loop-other.invariant.1 i h.1 (omega (arith, inside, l.0)) (λ e. omega (arith, e, h.0, l.0)) d (is.0, omega (arith, h.0, l.0), omega (arith, h.0, l.0)) is.1 before)
    of
