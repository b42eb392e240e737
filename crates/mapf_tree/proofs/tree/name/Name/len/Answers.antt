use Rattle.std.proofs.Common.{length, ap, arith}
use Rattle.mapf_tree.proofs.tree.NameTurns.{length_kept}
use Rattle.mapf_tree.proofs.tree.name.Name.len.Goals as goal

pub returns : goal.returns
returns c = omega (arith, ap length c.as_slice.ensures, length_kept c.self.inside.first c.self.inside.few c.self.inside.suffix c.self.invariant, ap length c.self.view_is)
