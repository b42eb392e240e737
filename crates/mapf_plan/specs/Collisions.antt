-- When two agents collide, by their paths alone.
use Rattle.std.specs.Prelude.{◌≡◌, ◌⊎◌, ℕ, ◌-◌, ◌<◌, List, Option, Some, None}
use Rattle.mapf_plan.specs.Path.{at}
use Rattle.mapf_plan.specs.declared.rule.Rule.{Rule}
use Rattle.mapf_plan.specs.declared.rule.Rule.TheVariants.{Classical, NoFollowing}

-- agents that go from the cells where they were to those where they are collide
abbrev pub DoStepsCollide : Rule → (one_was one_is other_was other_is : ℕ) → Type 0
DoStepsCollide Classical one_was one_is other_was other_is =
    (one_is ≡ other_is) ⊎ ((one_is ≡ other_was) × (other_is ≡ one_was))
DoStepsCollide NoFollowing one_was one_is other_was other_is =
    (one_is ≡ other_is) ⊎ ((one_is ≡ other_was) ⊎ (other_is ≡ one_was))

-- agents on two paths collide at a time
abbrev pub DoCollide : Rule → List ℕ → List ℕ → ℕ → Type 0
DoCollide rule p q t = DoStepsCollide rule (at p (t - 1)) (at p t) (at q (t - 1)) (at q t)

-- they don't before a time; or never, where there is no time
abbrev pub DontCollideBefore : Rule → List ℕ → List ℕ → ℕ → Type 0
DontCollideBefore rule p q time = (t : ℕ) → t < time → ¬ DoCollide rule p q t

abbrev pub HaveNoneBefore : Rule → List ℕ → List ℕ → Option ℕ → Type 0
HaveNoneBefore rule p q None = (t : ℕ) → ¬ DoCollide rule p q t
HaveNoneBefore rule p q (Some time) = DontCollideBefore rule p q time

-- the first time at which they do, if it is before an end
abbrev pub IsFirstCollision : Rule → List ℕ → List ℕ → ℕ → Option ℕ → Type 0
IsFirstCollision rule p q end None = DontCollideBefore rule p q end
IsFirstCollision rule p q end (Some t) = (t < end) × DoCollide rule p q t × DontCollideBefore rule p q t
