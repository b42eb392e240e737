use Rattle.std.proofs.Common.{[], take}
use Rattle.mapf_low.specs.Forwards.FLevels.{Grows}
use Rattle.mapf_low.specs.Reached.{IsUsable, MayStep}
use Rattle.mapf_low.proofs.Growing.{FromSome}
use Rattle.mapf_low.proofs.by_layers.next_layer.Given as goal

abbrev pub invariant-loop-from : goal.invariant-loop-from
invariant-loop-from l = Grows (FromSome (λ u v. IsUsable l.query l.query.bound l.time v × MayStep l.query l.time u v) (take l.from-index l.from-items)) [] l.reached
