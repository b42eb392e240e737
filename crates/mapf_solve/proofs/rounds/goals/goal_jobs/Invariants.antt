use Rattle.std.proofs.Common.{◌≡◌, ◌≤◌, map}
use Rattle.std.specs.Vec.{vec_capacity}
use Rattle.std.specs.List.{range_with_len}
use Rattle.mapf_solve.specs.Rounds.{wanted_table}
use Rattle.mapf_solve.proofs.rounds.goals.goal_jobs.Given as goal

abbrev pub invariant-loop-agent : goal.invariant-loop-agent
invariant-loop-agent l = (l.jobs.items ≡ map (wanted_table l.instance) (range_with_len 0 l.agent)) × (l.agents ≤ vec_capacity l.jobs)
