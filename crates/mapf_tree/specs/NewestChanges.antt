-- The changes that a node has by itself, from how they are held.
use Rattle.std.specs.Prelude.{List, [], map}
use Rattle.std.specs.Arc.{arc_value}
use Rattle.mapf_tree.specs.Nodes.{Changed}
use Rattle.mapf_tree.specs.declared.node.newest_changes.Held.{Held}
use Rattle.mapf_tree.specs.declared.node.newest_changes.Held.TheVariants.{Nothing, One, Two, Three}

-- the changes, in their order
abbrev pub held_in : Held → List Changed
held_in Nothing = []
held_in (One changes) = map arc_value changes
held_in (Two changes) = map arc_value changes
held_in (Three changes) = map arc_value changes
