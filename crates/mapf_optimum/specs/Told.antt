-- What a search for any optimum tells of itself.
use Rattle.std.specs.Prelude.{◌≡◌, ◌⊎◌, ℕ, ◌+◌, ◌≤◌, List, [], ◌++◌, Option, Some, IsPermutation}
use Rattle.std.specs.Option.{option_to_list}
use Rattle.mapf_plan.specs.declared.answer.Answer.{Answer}
use Rattle.mapf_tree.specs.Problem.{Problem}
use Rattle.mapf_tree.specs.Told as tree
use Rattle.mapf_optimum.specs.FreeTree.{FreeNode}
use Rattle.mapf_optimum.specs.FreeSearch.{Bounds, Expands, IsRootOf, IsTaken}

-- the root alone waits, if there is one
abbrev pub IsBegun : Problem → List FreeNode → Type 0
IsBegun problem waiting = (root : Option FreeNode) × IsRootOf problem root × IsPermutation (option_to_list root ++ []) waiting

-- no node was expanded yet
abbrev pub Begins : Problem → ℕ → List FreeNode → Type 0
Begins problem nodes waiting = (nodes ≡ 0) × IsBegun problem waiting

-- the least label of the nodes that wait; or more than the bound, where none waits
abbrev pub IsLeastLabel : Problem → List FreeNode → ℕ → Type 0
IsLeastLabel problem waiting least =
    ((waiting ≡ []) × (least ≡ problem.bound + 1)) ⊎ ((x : FreeNode) × (rest : List FreeNode) × IsTaken waiting (Some x) rest × (least ≡ x.label))

-- what the watch was told of the search that gave this answer, and that no more nodes were expanded than the limit, if there is one
pub record IsWatched {W : Type 0} (told : W → ℕ → ℕ → W → Type 0) (problem : Problem) (limit : Option ℕ) (old new : W) (given : Answer) : Type 0 where
  pub tells : tree.IsWatched told (Begins problem) (Bounds problem) (Expands problem) (IsLeastLabel problem) old new given
  pub within : (most : ℕ) → limit ≡ Some most → tells.last.nodes ≤ most
