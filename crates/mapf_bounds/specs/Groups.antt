-- What groups of agents say of all that lies below a node of the constraint tree (Li et al. 2019: weighted dependency graphs, here by
-- groups).
use Rattle.std.specs.Prelude.{◌≡◌, ℕ, ◌<◌, List, [], length, slice_index, slice_index_or}
use Rattle.mapf_low.specs.declared.constraint.Constraint.{Constraint}
use Rattle.mapf_tree.specs.Problem.{Problem}
use Rattle.mapf_tree.specs.Nodes.{Node, IsSameSet}
use Rattle.mapf_optimum.specs.declared.group_bound.GroupBound.{GroupBound}
use Rattle.mapf_optimum.specs.FreeTree.{AreGroupBounds}

-- what is known of groups of agents at a node
abbrev pub AreKnownAt : Problem → Node → List GroupBound → Type 0
AreKnownAt problem node = AreGroupBounds problem node.constraints

-- the second ones are bounds wherever the first ones are
abbrev pub Follow : List GroupBound → List GroupBound → Type 0
Follow first second = (problem : Problem) (sets : List (List Constraint)) → AreGroupBounds problem sets first → AreGroupBounds problem sets second

-- the third ones are bounds wherever the first and the second ones are
abbrev pub FollowBoth : List GroupBound → List GroupBound → List GroupBound → Type 0
FollowBoth first second third =
    (problem : Problem) (sets : List (List Constraint)) → AreGroupBounds problem sets first → AreGroupBounds problem sets second → AreGroupBounds problem sets third

-- what some agents are forbidden at a node, in whatever order
pub record AreSetsOf (node : Node) (agents : List ℕ) (sets : List (List Constraint)) : Type 0 where
  pub long : length sets ≡ length agents
  pub each : (k : ℕ) → k < length agents → IsSameSet (slice_index_or sets k []) (slice_index_or node.constraints (slice_index agents k) [])
