-- The open list: the nodes that wait, in the order in which a search takes them.
use Rattle.std.specs.List.{AllByRecursion}
use Rattle.std.specs.Borrow.{Bor}
use Rattle.std.specs.Prelude.{◌≡◌, ◌≢◌, List, [], ◌∷◌, ◌⊎◌, ◌↔◌, Option, Some, None, Contains}
use Rattle.mapf_grid.specs.Least.{Precedes}
use Rattle.mapf_tree.specs.Nodes.{Node, node_key}

-- each node comes before all later ones, by key
abbrev pub IsRising : List Node → Type 0
IsRising [] = Unit {0}
IsRising (n ∷ ns) = AllByRecursion (λ m. Precedes (node_key n) (node_key m)) ns × IsRising ns

-- the new list has this node, and the old ones with other keys
abbrev pub IsPut : List Node → Node → List Node → Type 0
IsPut old node new = (n : Node) → Contains new n ↔ ((n ≡ node) ⊎ (Contains old n × (node_key n ≢ node_key node)))

-- the node is added, if there is one
abbrev pub IsAddedIfSome : List Node → Option Node → List Node → Type 0
IsAddedIfSome old None new = new ≡ old
IsAddedIfSome old (Some node) new = IsPut old node new

-- the first node leaves, and the others stay
abbrev pub IsTaken : List Node → Option Node → List Node → Type 0
IsTaken old (Some first) new = old ≡ first ∷ new
IsTaken old None new = (old ≡ []) × (new ≡ [])

-- an iterator gives the first of the nodes that are left, and the others are left then
abbrev pub GivesFirst : List Node → Option (Bor Node) → List Node → Type 0
GivesFirst old None new = (old ≡ []) × (new ≡ [])
GivesFirst old (Some n) new = old ≡ n.now ∷ new
