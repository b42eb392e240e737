use Rattle.std.proofs.Common.{◌≡◌, take}
use Rattle.mapf_low.specs.Forwards.FLevels.{Grows, Admits}
use Rattle.mapf_low.proofs.Growing.{FromSome}
use Rattle.mapf_low.proofs.forwards.expansion.generate_all.Given as goal

abbrev pub invariant-loop-to : goal.invariant-loop-to
invariant-loop-to l = Grows (FromSome (λ u v. (u ≡ v) × Admits l.query l.time l.far l.from v) (take l.to-index l.neighbours)) l.fn.level l.level
