-- What a search in sessions tells of itself, between these and then by bounds.
use Rattle.std.specs.List.{AllByRecursion}
use Rattle.std.specs.Prelude.{◌≡◌, ◌⊎◌, ◌≤◌, ℕ, List, [], ◌∷◌}
use Rattle.mapf_tree.specs.LowerBound.{IsBelowAll, IsLowerBound}
use Rattle.mapf_tree.specs.Problem.{Problem}
use Rattle.mapf_tree.specs.Search.{CountsTaken, Searched}
use Rattle.mapf_tree.specs.Told.{Hears, Standing}

-- a search by keys took so many nodes, and this is its lower bound
pub record StandsAt (s : Searched) (x : Standing) : Type 0 where
  pub counted : x.nodes ≡ s.taken
  pub took : CountsTaken s.problem s.last x.nodes
  pub is : IsLowerBound s.problem s.waiting s.outcome x.least
  pub below : IsBelowAll s.problem x.least

-- the watch was told so, or of nothing
abbrev pub Tells : {W : Type 0} → (W → ℕ → ℕ → W → Type 0) → Searched → W → W → Type 0
Tells told s old new = (new ≡ old) ⊎ ((x : Standing) × StandsAt s x × told old x.nodes x.least new)

-- of what was told, the newest first, none has fewer nodes than any before
abbrev pub NodesNeverFall : List Standing → Type 0
NodesNeverFall [] = Unit {0}
NodesNeverFall (x ∷ earlier) = AllByRecursion (λ y. y.nodes ≤ x.nodes) earlier × NodesNeverFall earlier

-- whatever the watch was told, no valid plan costs less, and the number of nodes never fell
abbrev pub IsWatched : {W : Type 0} → (W → ℕ → ℕ → W → Type 0) → Problem → W → W → Type 0
IsWatched told problem old new =
    (heard : List Standing) × Hears told old heard new × AllByRecursion (λ x. IsBelowAll problem x.least) heard × NodesNeverFall heard
