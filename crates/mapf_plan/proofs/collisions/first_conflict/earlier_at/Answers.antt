use Rattle.std.proofs.Common.{⊎_elim, arith, ◌+◌, ◌≡◌}
use Rattle.std.proofs.lemmas.Bool.{cases_lt}
use Rattle.mapf_plan.specs.Plan.{first_agent, conflict_time}
use Rattle.mapf_plan.specs.FirstConflict.{IsConflictAt, IsConflictOfPair}
use Rattle.mapf_plan.proofs.collisions.Steps.{of_either, found_that, found_first, some_before}
use Rattle.mapf_plan.proofs.collisions.first_conflict.earlier_at.Goals as goal

pub loop-other-preserved : goal.loop-other-preserved
loop-other-preserved g c =
    let rule = c.args.rule in let plan = g.P.AgentPaths.paths c.args.plan.now in let t = c.args.time in let i = c.loop-other.other in
    let found = c.pair_at.result in (
      of_either (IsConflictAt rule plan t) c.earlier-earliest.result c.loop-other.earliest found c.earlier-earliest.ensures.either c.loop-other.invariant.0
          (found_that rule plan i c.args.agent (t + 1) (λ d. conflict_time d ≡ t) found c.pair_at.ensures.time c.pair_at.ensures.conflict),
      (λ d before. c.loop-other.invariant.1 d (c.earlier-earliest.ensures.known d before)),
      λ d is e l before.
          ⊎_elim (λ h. c.loop-other.invariant.2 d is e h (c.earlier-earliest.ensures.known d before))
          (λ h.
          let of_pair : IsConflictOfPair rule plan i c.args.agent d = (is.0, omega (arith, l, h), e) in
          found_first rule plan i c.args.agent (t + 1) found d c.pair_at.ensures.conflict of_pair
          (some_before rule plan i c.args.agent (t + 1) d of_pair (omega (arith, is.1))) (c.earlier-earliest.ensures.found d before)) (cases_lt (first_agent d) i),
    )
