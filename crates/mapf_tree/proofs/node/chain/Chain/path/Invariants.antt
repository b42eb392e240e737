use Rattle.std.proofs.Common.{◌≡◌, take}
use Rattle.mapf_tree.specs.Prelude.{path_of, changed_plan}
use Rattle.mapf_tree.proofs.node.chain.Chain.path.Given as goal

abbrev pub invariant-loop-turn : goal.invariant-loop-turn
invariant-loop-turn l = l.path ≡ path_of (changed_plan l.self.root (take l.turn l.self.changes)) l.agent
