use Rattle.mapf_tree.proofs.Prelude.{map, subst, sym, map-set}
use Rattle.mapf_tree.specs.Prelude.{option_map, arc_value, AreFromStart, AreTables}
use Rattle.mapf_tree.proofs.own_paths.StartTables.{right_with_other}
use Rattle.mapf_tree.proofs.own_paths.start_tables.StartTables.make_table.Goals as goal

pub invariant_of-self : goal.invariant_of-self
invariant_of-self c =
    let problem = c.self.inside.problem.now in
    let tables = map (option_map arc_value) c.self.inside.tables.items in
    subst (AreTables problem) (sym (map-set (option_map arc_value) c.self.inside.tables.items c.args.agent c.table_of.result))
    (right_with_other (AreFromStart problem) tables c.args.agent (option_map arc_value c.table_of.result) c.self.invariant c.table_of.ensures)
