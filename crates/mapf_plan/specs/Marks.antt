-- What agents leave behind in a round in which their steps to one time step are looked at.
use Rattle.std.specs.Prelude.{◌≡◌, ℕ, ◌+◌, ◌%◌, List, slice_index_or}
use Rattle.mapf_plan.specs.declared.rule.Rule.{Rule}
use Rattle.mapf_plan.specs.declared.rule.Rule.TheVariants.{Classical, NoFollowing}

-- a number's place has this round
abbrev pub IsMarked : List ℕ → ℕ → ℕ → Type 0
IsMarked rounds round number = slice_index_or rounds (number % 4096) 0 ≡ round

-- what a step leaves beside its new cell: two agents that swap have the same sum of cells, which is kept apart from cells by
-- 2048, and a follower is where its leader was
abbrev pub beside : Rule → ℕ → ℕ → ℕ
beside Classical from to = from + to + 2048
beside NoFollowing from to = from
