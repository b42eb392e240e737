use Rattle.std.proofs.Common.{ℕ, ◌<◌, [], take, replicate, get_or}
use Rattle.mapf_tree.specs.Prelude.{IsSameSet, changed_sets}
use Rattle.mapf_tree.proofs.node.chain.Chain.constraints.Given as goal

abbrev pub invariant-loop-turn : goal.invariant-loop-turn
invariant-loop-turn l =
    (agents : ℕ) → l.agent < agents → IsSameSet l.constraints (get_or (changed_sets (replicate agents []) (take l.turn l.self.changes)) l.agent [])
