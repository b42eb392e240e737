-- What the child on a side of a node's conflict asks of the low level (Sharon et al. 2015): the agent on that side has one
-- constraint more, and the other agents keep their paths.
use Rattle.std.specs.Prelude.{◌≡◌, ℕ, ◌<◌, ◌≤◌, ◌↔◌, ◌⊎◌, List, [], length, slice_index, slice_index_or, Option, Some, None, IfSome, Contains}
use Rattle.mapf_plan.specs.Path.{cost}
use Rattle.mapf_plan.specs.declared.conflict.Conflict.{Conflict}
use Rattle.mapf_low.specs.declared.constraint.Constraint.{Constraint}
use Rattle.mapf_plan.specs.declared.answer.TheConstants.{MOST_BOUND}
use Rattle.mapf_low.specs.Kept.{HasTwoEnds}
use Rattle.mapf_low.specs.Walk.{AreDistances}
use Rattle.mapf_tree.specs.declared.tree.side.Side.{Side}
use Rattle.mapf_tree.specs.Problem.{Problem}
use Rattle.mapf_tree.specs.Tree.{IsAllowedFor, agent_on, constraint_on}
use Rattle.mapf_tree.specs.Nodes.{Node}
use Rattle.mapf_tree.specs.Family.{IsOwnWithin, Leaves}

-- a side, its agent, what that is forbidden more, all that it is forbidden then, and what its path may cost
pub record SideQuery : Type 0 where
  pub problem : Problem
  pub side : Side
  pub agent : ℕ
  pub constraint : Constraint
  pub constraints : List Constraint
  pub bound : ℕ

-- the query of a side of a node: its path may cost what the other agents' paths leave of the bound
pub record IsQueryOf (node : Node) (query : SideQuery) : Type 0 where
  pub agent : (c : Conflict) → node.conflict ≡ Some c → query.agent ≡ agent_on c query.side
  pub constraint : (c : Conflict) → node.conflict ≡ Some c → query.constraint ≡ constraint_on c query.side
  pub constraints : (x : Constraint) → Contains query.constraints x ↔ ((x ≡ query.constraint) ⊎ Contains (slice_index_or node.constraints query.agent []) x)
  pub leaves : Leaves query.problem node.plan query.agent query.bound

-- the own path that a query asks for, or none where there is none
abbrev pub IsFoundBy : SideQuery → Option (List ℕ) → Type 0
IsFoundBy query = IsOwnWithin query.problem query.bound query.agent query.constraints

-- each path that the query's agent may take costs at least this
abbrev pub CostsAtLeast : SideQuery → ℕ → Type 0
CostsAtLeast query least =
    (path : List ℕ) → IsAllowedFor (record query.problem { bound = query.bound }) query.agent query.constraints path → least ≤ cost path

-- the table, if there is one, has the distances from an agent's start
abbrev pub AreFromStart : Problem → ℕ → Option (List (Option ℕ)) → Type 0
AreFromStart problem agent table = IfSome table (AreDistances problem.inst.grid (slice_index problem.inst.starts agent))

-- and each agent's table those from that agent's start
abbrev pub AreTables : Problem → List (Option (List (Option ℕ))) → Type 0
AreTables problem tables = (agent : ℕ) → AreFromStart problem agent (slice_index_or tables agent None)

-- what always holds of a query: its agent is one of the problem's, the bound is no larger than bounds are, a swap that it forbids
-- is between two cells, its path costs at least so much, and the table, if there is one, has the distances from the agent's start
pub record IsAsked (query : SideQuery) (least : ℕ) (table : Option (List (Option ℕ))) : Type 0 where
  pub inside : query.agent < length query.problem.inst.starts
  pub bound : query.problem.bound ≤ MOST_BOUND
  pub small : query.bound ≤ MOST_BOUND
  pub ends : HasTwoEnds query.constraint
  pub costs : CostsAtLeast query least
  pub from_start : AreFromStart query.problem query.agent table
