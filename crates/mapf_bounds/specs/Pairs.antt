-- Disjoint pairs of agents that collide in a node's plan.
use Rattle.std.specs.Prelude.{◌≡◌, ◌≢◌, ℕ, ◌<◌, Bool, true, false, List, [], ◌∷◌, length, slice_index_or, slice_set}
use Rattle.std.specs.List.{AllByRecursion}
use Rattle.mapf_plan.specs.Collisions.{DoCollide}
use Rattle.mapf_plan.specs.Plan.{path_of}
use Rattle.mapf_plan.specs.declared.rule.Rule.{Rule}
use Rattle.mapf_bounds.specs.declared.collisions.AgentPair.{AgentPair}

-- two pairs have no agent in common
pub record AreApart (p q : AgentPair) : Type 0 where
  pub first_first : p.first ≢ q.first
  pub first_second : p.first ≢ q.second
  pub second_first : p.second ≢ q.first
  pub second_second : p.second ≢ q.second

-- of so many agents none is in two of the pairs
abbrev pub AreDisjoint : ℕ → List AgentPair → Type 0
AreDisjoint n [] = Unit {0}
AreDisjoint n (p ∷ ps) = (p.first < p.second) × (p.second < n) × AllByRecursion (AreApart p) ps × AreDisjoint n ps

-- the agents of the pair had no marks, and have some then
pub record Takes (pair : AgentPair) (old new : List Bool) : Type 0 where
  pub two : pair.first < pair.second
  pub inside : pair.second < length old
  pub first_free : slice_index_or old pair.first false ≡ false
  pub second_free : slice_index_or old pair.second false ≡ false
  pub marked : new ≡ slice_set (slice_set old pair.first true) pair.second true

-- both agents of the pair have marks
abbrev pub AreTaken : List Bool → AgentPair → Type 0
AreTaken taken p = (slice_index_or taken p.first false ≡ true) × (slice_index_or taken p.second false ≡ true)

-- so many disjoint pairs of n agents were chosen, of each of which P holds and whose agents have marks
pub record AreChosenBy (n : ℕ) (P : AgentPair → Type 0) (taken : List Bool) (count : ℕ) : Type 0 where
  pub chosen : List AgentPair
  pub few : length taken ≡ n
  pub disjoint : AreDisjoint n chosen
  pub many : length chosen ≡ count
  pub within : AllByRecursion P chosen
  pub marked : AllByRecursion (AreTaken taken) chosen

-- the two agents of the pair collide at some time
pub record IsCollidingPair (rule : Rule) (plan : List (List ℕ)) (pair : AgentPair) : Type 0 where
  pub first : pair.first < length plan
  pub second : pair.second < length plan
  pub time : ℕ
  pub collide : DoCollide rule (path_of plan pair.first) (path_of plan pair.second) time

-- so many disjoint pairs collide
abbrev pub HaveCollisions : Rule → List (List ℕ) → ℕ → Type 0
HaveCollisions rule plan count =
    (pairs : List AgentPair) × AreDisjoint (length plan) pairs × (length pairs ≡ count) × AllByRecursion (IsCollidingPair rule plan) pairs
