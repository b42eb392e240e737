use Rattle.std.proofs.Common.{subst₂, sym}
use Rattle.mapf_plan.specs.Collisions.{DoCollide, DontCollideBefore}
use Rattle.mapf_plan.proofs.collisions.Collisions.{apart_until, pair_has_none, found_by_end}
use Rattle.mapf_plan.proofs.collisions.first_of_pair.first_of_pair.Goals as goal

pub first_collision-requires : goal.first_collision-requires
first_collision-requires g c =
    subst₂ (λ p q. DontCollideBefore c.args.rule p q c.args.from) (sym c.path.ensures) (sym c.path-2.ensures)
    (apart_until c.args.rule (g.P.AgentPaths.paths c.args.plan.now) c.args.first c.args.second c.args.from c.requires.agents.0 c.requires.agents.1 c.requires.before)

pub pair_at-requires-clause-before : goal.pair_at-requires-clause-before
pair_at-requires-clause-before g c =
    pair_has_none c.args.rule (g.P.AgentPaths.paths c.args.plan.now) c.args.first c.args.second c.in_ok-time.time
    (subst₂ (λ p q. DontCollideBefore c.args.rule p q c.in_ok-time.time) c.path.ensures c.path-2.ensures c.in_ok-time.ensures.2)

pub returns-clause-conflict : goal.returns-clause-conflict
returns-clause-conflict g c =
    found_by_end c.args.rule (g.P.AgentPaths.paths c.args.plan.now) c.args.first c.args.second c.in_ok-time.time c.args.end c.pair_at.result c.requires.agents.0 c.requires.agents.1
    (subst₂ (λ p q. DoCollide c.args.rule p q c.in_ok-time.time) c.path.ensures c.path-2.ensures c.in_ok-time.ensures.1) c.pair_at.ensures.conflict

pub returns-in_err-time-clause-conflict : goal.returns-in_err-time-clause-conflict
returns-in_err-time-clause-conflict g c =
    rw c.from_residual.ensures (pair_has_none c.args.rule (g.P.AgentPaths.paths c.args.plan.now) c.args.first c.args.second c.args.end
    (subst₂ (λ p q. DontCollideBefore c.args.rule p q c.args.end) c.path.ensures c.path-2.ensures c.in_err-time.ensures))
