use Rattle.std.proofs.Common.{◌≡◌}
use Rattle.mapf_bounds.specs.Waiting.{IsCovering}
use Rattle.mapf_bounds.proofs.Telling.{IsTellingBy}
use Rattle.mapf_bounds.proofs.Weights.{total}
use Rattle.mapf_bounds.proofs.solving.search_by_bounds.Given as goal

abbrev pub invariant-turns : goal.invariant-turns
invariant-turns g l =
    IsCovering l.bounds.problem l.bounds.most l.waiting.entries × (l.paths ≡ l.bounds.problem) × (l.bounds ≡ l.fn.bounds)
    × IsTellingBy g.W.Watch.told l.fn.bounds l.fn.nodes l.nodes l.fn.watch l.watch l.waiting.entries

abbrev pub decreases-turns : goal.decreases-turns
decreases-turns g l = total l.bounds.problem l.waiting.entries
