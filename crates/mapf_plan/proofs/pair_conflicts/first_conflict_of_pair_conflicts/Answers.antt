use Rattle.mapf_plan.proofs.collisions.OfPairConflicts.{none_before_pair_conflicts}
use Rattle.mapf_plan.proofs.pair_conflicts.first_conflict_of_pair_conflicts.Goals as goal

pub first_at_pair_conflicts-requires-clause-before : goal.first_at_pair_conflicts-requires-clause-before
first_at_pair_conflicts-requires-clause-before g c =
    none_before_pair_conflicts c.args.rule (g.P.AgentPaths.paths c.args.plan.now) c.args.conflicts.now c.in_ok-time.time c.requires c.in_ok-time.ensures

pub first_conflict_from-requires : goal.first_conflict_from-requires
first_conflict_from-requires g c =
    none_before_pair_conflicts c.args.rule (g.P.AgentPaths.paths c.args.plan.now) c.args.conflicts.now c.in_ok-time.time c.requires c.in_ok-time.ensures
