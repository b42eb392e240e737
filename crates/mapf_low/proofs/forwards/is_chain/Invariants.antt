use Rattle.std.proofs.Common.{◌≡◌, ℕ, ◌-◌, ◌<◌, slice_index, Some}
use Rattle.mapf_low.specs.Walk.{distance_at}
use Rattle.mapf_low.proofs.forwards.is_chain.Given as goal

abbrev pub invariant-loop-place : goal.invariant-loop-place
invariant-loop-place l = (t : ℕ) → t < l.place → distance_at l.query.table (slice_index l.cells t) ≡ Some (l.sum - t)
