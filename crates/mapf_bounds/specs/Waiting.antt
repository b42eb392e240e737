-- The nodes that wait in a search by bounds, each under a key of a bound.
use Rattle.std.specs.BTreeMap.{insert_entry}
use Rattle.std.specs.Cmp.Lexicographic.{slice_cmp}
use Rattle.std.specs.Ordering.{nat_cmp}
use Rattle.std.specs.declared.cmp.Ordering.{Ordering}
use Rattle.std.specs.Prelude.{◌≡◌, ◌⊎◌, ◌<◌, ℕ, ◌+◌, min, max, length, Bool, true, false, List, [], ◌∷◌, Option, Some, None, Contains}
use Rattle.mapf_plan.specs.Plan.{HasNoConflict, plan_cost}
use Rattle.mapf_optimum.specs.declared.group_bound.GroupBound.{GroupBound}
use Rattle.mapf_tree.specs.declared.tree.key.Key.{Key}
use Rattle.mapf_tree.specs.declared.tree.side.Side.{Side}
use Rattle.mapf_tree.specs.declared.tree.side.Side.TheVariants.{Left, Right}
use Rattle.mapf_tree.specs.Answered.{IsStated}
use Rattle.mapf_tree.specs.Family.{IsBranching, IsChildOf}
use Rattle.mapf_tree.specs.FreePlans.{NoneObeys}
use Rattle.mapf_tree.specs.LowerBound.{IsBelowAll}
use Rattle.mapf_tree.specs.Problem.{Problem}
use Rattle.mapf_tree.specs.Tree.{PlannedNode, key, key_rank}
use Rattle.mapf_tree.specs.Nodes.{Node, StandsFor, AllStand, HasNodeFor}
use Rattle.mapf_bounds.specs.declared.lower_bound.LowerBound.{LowerBound}
use Rattle.mapf_bounds.specs.declared.waiting.Stage.{Stage}
use Rattle.mapf_bounds.specs.declared.waiting.Stage.TheVariants.{Own, Inherited, Handed}
use Rattle.mapf_bounds.specs.declared.turn.Outcome.{Outcome}
use Rattle.mapf_bounds.specs.declared.turn.Outcome.TheVariants.{Raised, Expanded, Ended}
use Rattle.mapf_bounds.specs.Below.{IsBounded, CoversUpTo}
use Rattle.mapf_bounds.specs.Groups.{AreKnownAt}
use Rattle.mapf_bounds.specs.Bounds.{IsBoundOf, IsOfTree, IsRaised, node_bound}

-- the bound is a node's own, from its own groups
abbrev pub is_own : Stage → Bool
is_own Own = true
is_own Inherited = false
is_own Handed = false

-- the entry of a node that waits
pub record WaitingNode : Type 0 where
  pub node : Node
  pub stage : Stage
  pub groups : List GroupBound

-- the same node, whose bound is its own, from these groups
abbrev pub IsByGroups : WaitingNode → List GroupBound → WaitingNode → Type 0
IsByGroups old groups new = new ≡ record { node = old.node; stage = Own; groups = groups }

-- the bound in a key, and the key of a bound and a name
abbrev pub key_bound : Key → LowerBound
key_bound k = record { cost = k.cost; depth = k.depth }

abbrev pub bound_key : LowerBound → List Side → Key
bound_key b name = record { cost = b.cost; depth = b.depth; name = name }

-- a key of a node by a bound: no solution at or below the node comes before it, and a node without a conflict has its own
pub record IsBoundKey (problem : Problem) (k : Key) (m : PlannedNode) : Type 0 where
  pub bounded : IsBounded problem m (key_bound k)
  pub name : k.name ≡ m.0.name
  pub exact : HasNoConflict problem.rule m.1 → key_rank k ≡ key m

-- such a key of the node of the tree that a node stands for
abbrev pub IsKeyOf : Problem → Key → Node → Type 0
IsKeyOf problem k n = (m : PlannedNode) → StandsFor problem n m → IsBoundKey problem k m

-- one of those that wait stands for this node of the tree
abbrev pub HasEntryFor : Problem → List (Key × WaitingNode) → PlannedNode → Type 0
HasEntryFor problem waiting m = (e : Key × WaitingNode) × Contains waiting e × StandsFor problem e.1.node m

-- each is a node of the tree, under a key by a bound, and what is known of its groups is so
pub record AreKeyed (problem : Problem) (waiting : List (Key × WaitingNode)) : Type 0 where
  pub stand : (e : Key × WaitingNode) → Contains waiting e → IsOfTree problem e.1.node
  pub keys : (e : Key × WaitingNode) → Contains waiting e → IsKeyOf problem e.0 e.1.node
  pub groups : (e : Key × WaitingNode) → Contains waiting e → AreKnownAt problem e.1.node e.1.groups

-- and all solutions that cost at most so much are at or below those that wait
pub record IsCovering (problem : Problem) (most : ℕ) (waiting : List (Key × WaitingNode)) : Type 0 where
  pub keyed : AreKeyed problem waiting
  pub covers : CoversUpTo problem most (HasEntryFor problem waiting)

-- some nodes still wait by their keys, and others by bounds already
pub record IsMoving (problem : Problem) (most : ℕ) (open_yet : List Node) (waiting : List (Key × WaitingNode)) : Type 0 where
  pub stand : AllStand problem open_yet
  pub keyed : AreKeyed problem waiting
  pub covers : CoversUpTo problem most (λ m. HasNodeFor problem open_yet m ⊎ HasEntryFor problem waiting m)

-- keys are compared by cost, then by depth, then by name
abbrev pub key_cmp : Key → Key → Ordering
key_cmp a b = slice_cmp nat_cmp (key_rank a) (key_rank b)

-- it waits under the key of this bound, or is left out, since that costs more than `most`
abbrev pub IsAdmitted : ℕ → List (Key × WaitingNode) → LowerBound → WaitingNode → List (Key × WaitingNode) → Type 0
IsAdmitted most old b w new = (new ≡ insert_entry key_cmp old (bound_key b w.node.name) w) ⊎ ((most < b.cost) × (new ≡ old))

-- a node waits by its own cost and depth, where all solutions cost at least so much; nothing is known of groups
pub record IsAdmittedOwn (most least : ℕ) (old : List (Key × WaitingNode)) (node : Node) (new : List (Key × WaitingNode)) : Type 0 where
  pub entry : WaitingNode
  pub is : entry.node ≡ node
  pub unknown : entry.groups ≡ []
  pub puts : IsAdmitted most old (record { cost = max (plan_cost node.plan) least; depth = length node.name }) entry new

-- a child, if there is one, waits by its own cost and depth, or by what is known of its parent where that is above these; what is known
-- of groups is what was known there
pub data IsAdmittedChild (most : ℕ) (old : List (Key × WaitingNode)) (known : LowerBound) (groups : List GroupBound) : Option Node → List (Key × WaitingNode) → Type 0 where
  absent : {new : List (Key × WaitingNode)} → new ≡ old → IsAdmittedChild most old known groups None new
  present : {node : Node} {new : List (Key × WaitingNode)} (b : LowerBound) (w : WaitingNode) → IsRaised (node_bound node) known b →
      w.node ≡ node → w.groups ≡ groups → is_own w.stage ≡ false → IsAdmitted most old b w new → IsAdmittedChild most old known groups (Some node) new

-- the children of a node of the tree wait, of which this bound and what is known of groups hold
pub record Expands (problem : Problem) (most : ℕ) (known : LowerBound) (entry : WaitingNode) (old new : List (Key × WaitingNode)) : Type 0 where
  pub left : Option Node
  pub right : Option Node
  pub is_left : IsChildOf problem entry.node Left left
  pub is_right : IsChildOf problem entry.node Right right
  pub middle : List (Key × WaitingNode)
  pub puts_left : IsAdmittedChild most old known entry.groups left middle
  pub puts_right : IsAdmittedChild most middle known entry.groups right new

-- the first of those that wait has a conflict, and its children in the tree wait in its place
pub record Branches (problem : Problem) (most : ℕ) (old new : List (Key × WaitingNode)) : Type 0 where
  pub first : Key × WaitingNode
  pub rest : List (Key × WaitingNode)
  pub was : old ≡ first ∷ rest
  pub conflict : IsBranching problem first.1.node
  pub entry : WaitingNode
  pub same : entry.node ≡ first.1.node
  pub known : AreKnownAt problem first.1.node entry.groups
  pub expands : Expands problem most (key_bound first.0) entry rest new

-- the first of those that wait has a conflict, and waits by a bound of its own now
pub record Raises (problem : Problem) (most : ℕ) (old new : List (Key × WaitingNode)) : Type 0 where
  pub first : Key × WaitingNode
  pub rest : List (Key × WaitingNode)
  pub was : old ≡ first ∷ rest
  pub conflict : IsBranching problem first.1.node
  pub unknown : is_own first.1.stage ≡ false
  pub again : WaitingNode
  pub same : again.node ≡ first.1.node
  pub own : is_own again.stage ≡ true
  pub known : AreKnownAt problem first.1.node again.groups
  pub to : LowerBound
  pub bound : IsBoundOf problem first.1.node to
  pub puts : IsAdmitted most rest to again new

-- no valid plan that costs at most so much obeys the node of the tree that a node stands for
abbrev pub HoldsNone : Problem → Node → ℕ → Type 0
HoldsNone problem node most = (m : PlannedNode) → StandsFor problem node m → NoneObeys problem m.0 most

-- the first of those that wait is left out, since no valid plan that obeys it costs so little
pub record Drops (problem : Problem) (most : ℕ) (old new : List (Key × WaitingNode)) : Type 0 where
  pub first : Key × WaitingNode
  pub rest : List (Key × WaitingNode)
  pub was : old ≡ first ∷ rest
  pub none : HoldsNone problem first.1.node most
  pub left : new ≡ rest

-- the first of those that wait waits by a bound of its own now, or is left out
abbrev pub GoesOn : Problem → ℕ → List (Key × WaitingNode) → List (Key × WaitingNode) → Type 0
GoesOn problem most old new = Raises problem most old new ⊎ Drops problem most old new

-- a node that waited, and is taken, is left out, or its children wait
abbrev pub IsLeftOrExpanded : Problem → ℕ → LowerBound → WaitingNode → List (Key × WaitingNode) → List (Key × WaitingNode) → Outcome → Type 0
IsLeftOrExpanded problem most known entry old new (Expanded least) = Expands problem most known entry old new × (least ≡ min known.cost (problem.bound + 1))
IsLeftOrExpanded problem most known entry old new Raised = HoldsNone problem entry.node most × (new ≡ old)
IsLeftOrExpanded problem most known entry old new (Ended given) = ⊥

-- what came of a turn: the search goes on with the children of the first of those that wait, where no valid plan costs less than it says,
-- or with a bound of it, or without it, or it has the answer
abbrev pub IsTurn : Problem → ℕ → List (Key × WaitingNode) → List (Key × WaitingNode) → Outcome → Type 0
IsTurn problem most old new (Expanded least) = Branches problem most old new × IsBelowAll problem least
IsTurn problem most old new Raised = GoesOn problem most old new
IsTurn problem most old new (Ended given) = IsStated problem given
