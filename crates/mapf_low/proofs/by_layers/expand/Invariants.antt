use Rattle.std.proofs.Common.{◌≡◌, take}
use Rattle.mapf_low.specs.Forwards.FLevels.{Grows}
use Rattle.mapf_low.specs.Layers.{MayEnter}
use Rattle.mapf_low.proofs.Growing.{FromSome}
use Rattle.mapf_low.proofs.by_layers.expand.Given as goal

abbrev pub invariant-loop-to : goal.invariant-loop-to
invariant-loop-to l = Grows (FromSome (λ u v. (u ≡ v) × MayEnter l.query l.time l.from v) (take l.to-index l.to-items)) l.initial.reached l.reached
