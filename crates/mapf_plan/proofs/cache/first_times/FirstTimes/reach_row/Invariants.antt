use Rattle.std.proofs.Common.{◌≡◌, ◌≤◌, ℕ, map, length}
use Rattle.mapf_plan.specs.KnownPaths.{row_in}
use Rattle.mapf_plan.proofs.cache.first_times.FirstTimes.reach_row.Given as goal

abbrev pub invariant-loop-row : goal.invariant-loop-row
invariant-loop-row l =
    (l._row ≤ length l.self-inside.rows.items) × ((i : ℕ) → row_in (map (λ row. row.items) l.self-inside.rows.items) i ≡ row_in l.fn.self i)
