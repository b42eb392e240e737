use Rattle.mapf_optimum.specs.FreeSearch.{IsUnderWay}
use Rattle.mapf_optimum.specs.Groups.{AreKnown}
use Rattle.mapf_optimum.proofs.Telling.{IsTelling}
use Rattle.mapf_optimum.proofs.Work.{work}
use Rattle.mapf_optimum.proofs.solving.search.Given as goal

abbrev pub invariant-steps : goal.invariant-steps
invariant-steps g l = record { way : IsUnderWay l.low l.waiting; known : AreKnown l.low l.known; told : IsTelling g.W.Watch.told l.low l.most l.nodes l.fn.watch l.watch l.waiting }

abbrev pub decreases-steps : goal.decreases-steps
decreases-steps g l = work l.low l.waiting
