-- What a search by bounds tells of itself.
use Rattle.std.specs.Prelude.{◌≡◌, ℕ, List}
use Rattle.mapf_plan.specs.declared.answer.Answer.{Answer}
use Rattle.mapf_tree.specs.declared.tree.key.Key.{Key}
use Rattle.mapf_tree.specs.LowerBound.{IsBelowAll}
use Rattle.mapf_tree.specs.Problem.{Problem}
use Rattle.mapf_tree.specs.Told as tree
use Rattle.mapf_bounds.specs.Waiting.{WaitingNode, Branches, GoesOn, IsCovering}

-- so many nodes were expanded when all solutions up to this cost were at or below those that wait
abbrev pub Begins : Problem → ℕ → ℕ → ℕ → List (Key × WaitingNode) → Type 0
Begins problem most taken nodes waiting = (nodes ≡ taken) × IsCovering problem most waiting

-- what the watch was told of the search that began after so many nodes and gave this answer
abbrev pub IsWatched : {W : Type 0} → (W → ℕ → ℕ → W → Type 0) → Problem → ℕ → W → W → Answer → Type 0
IsWatched told problem taken old new given =
    (most : ℕ) × tree.IsWatched told (Begins problem most taken) (GoesOn problem most) (Branches problem most) (λ waiting. IsBelowAll problem) old new given
