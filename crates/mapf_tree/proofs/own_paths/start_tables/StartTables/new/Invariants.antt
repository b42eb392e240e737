use Rattle.std.proofs.Common.{◌≡◌, ◌≤◌, length, map}
use Rattle.std.specs.Vec.{vec_capacity}
use Rattle.mapf_tree.specs.Prelude.{option_map, arc_value, AreTables}
use Rattle.mapf_tree.proofs.own_paths.start_tables.StartTables.new.Given as goal

abbrev pub invariant-loop-agent : goal.invariant-loop-agent
invariant-loop-agent l =
    AreTables l.problem (map (option_map arc_value) l.tables.items) × (length l.tables.items ≡ l._agent) × (l.agents ≤ vec_capacity l.tables)
