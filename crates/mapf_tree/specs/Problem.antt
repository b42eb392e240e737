-- What a search solves: an instance, a bound on the sum of costs, a limit on how many nodes are taken, if there is one, and the
-- rule by which plans have conflicts.
use Rattle.std.specs.Prelude.{◌≡◌, ℕ, ◌<◌, ◌≤◌, List, [], length, slice_index, slice_index_or, Option, IfSome}
use Rattle.mapf_grid.specs.Instance.{Instance}
use Rattle.mapf_grid.specs.InstanceLaws.{IsSound}
use Rattle.mapf_low.specs.Walk.{AreDistances}
use Rattle.mapf_plan.specs.declared.rule.Rule.{Rule}
use Rattle.mapf_plan.specs.declared.answer.TheConstants.{MOST_BOUND, MOST_NODES}

pub record Problem : Type 0 where
  pub inst : Instance
  pub bound : ℕ
  pub nodes : Option ℕ
  pub rule : Rule

-- one table for each agent, with the distances of the agent's goal
pub record HasDistances (inst : Instance) (distances : List (List (Option ℕ))) : Type 0 where
  pub each : length distances ≡ length inst.starts
  pub shortest : (i : ℕ) → i < length inst.starts → AreDistances inst.grid (slice_index inst.goals i) (slice_index_or distances i [])

-- a limit is at least 1
abbrev pub IsLimit : Option ℕ → Type 0
IsLimit nodes = IfSome nodes (λ n. (0 < n) × (n ≤ MOST_NODES))

-- what always holds of a problem and its tables
pub record IsReady (problem : Problem) (distances : List (List (Option ℕ))) : Type 0 where
  pub agents : IsSound problem.inst
  pub small : problem.bound ≤ MOST_BOUND
  pub limit : IsLimit problem.nodes
  pub tables : HasDistances problem.inst distances
