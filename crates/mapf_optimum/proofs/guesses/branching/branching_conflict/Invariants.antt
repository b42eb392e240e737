use Rattle.std.proofs.Common.{MatchOption}
use Rattle.std.specs.Prelude.{⊤}
use Rattle.mapf_optimum.specs.FreeTree.{IsChoice}
use Rattle.mapf_optimum.specs.Groups.{alone}
use Rattle.mapf_optimum.proofs.guesses.branching.branching_conflict.Given as goal

abbrev pub invariant-loop-conflict : goal.invariant-loop-conflict
invariant-loop-conflict l = MatchOption l.best ⊤ (IsChoice (alone l.part) l.plan)
