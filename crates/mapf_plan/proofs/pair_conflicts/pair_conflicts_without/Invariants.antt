use Rattle.std.proofs.Common.{◌≡◌, ◌≢◌, ℕ, ◌+◌, ◌<◌, ◌≤◌, length, get_or, Contains, vec_len, vec_capacity}
use Rattle.mapf_plan.specs.declared.pair_conflicts.PairConflict.{PairConflict}
use Rattle.mapf_plan.proofs.pair_conflicts.pair_conflicts_without.Given as goal

abbrev pub invariant-loop-conflict : goal.invariant-loop-conflict
invariant-loop-conflict l =
    ((m : PairConflict) (k : ℕ) → k < l.conflict-index → get_or l.conflicts k m ≡ m → m.first ≢ l.agent → m.second ≢ l.agent → Contains l.left.items m)
    × (vec_len l.left + length l.conflicts ≤ vec_capacity l.left + l.conflict-index)
