use Rattle.std.proofs.Common.{◌<◌, length, slice_index, subst}
use Rattle.mapf_tree.specs.Prelude.{AreDistances, Problem}
use Rattle.mapf_tree.proofs.tree.Tables.{table_at}
use Rattle.mapf_tree.proofs.tree.problem.Problem.distances.Goals as goal

pub returns : goal.returns
returns c =
    subst (λ (p : Problem). c.args.agent < length p.inst.starts → AreDistances p.inst.grid (slice_index p.inst.goals c.args.agent) c.index.result.now)
    c.self.view_is
    (λ h. table_at (record { inst = c.self.inside.instance; bound = c.self.inside.bound; nodes = c.self.inside.nodes; rule = c.self.inside.rule }) c.self.inside.distances.items c.self.invariant c.args.agent h c.index.result.now c.index.ensures)
    c.requires
