-- What a watch is told of a search: after how many expanded nodes, and what no valid plan costs less than.
use Rattle.std.specs.Prelude.{◌≡◌, ℕ, ◌+◌, min, List, [], ◌∷◌}
use Rattle.mapf_plan.specs.declared.answer.Answer.{Answer}
use Rattle.mapf_plan.specs.declared.answer.Answer.TheVariants as answer
use Rattle.mapf_tree.specs.Search.{most_counted}

-- so many nodes were expanded, and no valid plan costs less than so much
pub record Standing : Type 0 where
  pub nodes : ℕ
  pub least : ℕ

-- the watch was told of these, the newest first, and by each became another
abbrev pub Hears : {W : Type 0} → (W → ℕ → ℕ → W → Type 0) → W → List Standing → W → Type 0
Hears told old [] new = new ≡ old
Hears {W} told old (x ∷ earlier) new = (between : W) × Hears told old earlier between × told between x.nodes x.least new

-- one node more, where a number that has reached the greatest stays there
abbrev pub one_more : ℕ → ℕ
one_more n = min (n + 1) most_counted

-- a search that goes on from what waits by steps, some of which expand a node: so many nodes were expanded, these were the tellings, and this
-- waits now. Before a node is expanded it is told how many were before it, with what no valid plan costs less than
pub data IsAccount {S : Type 0} (Begins : ℕ → S → Type 0) (Goes Expands : S → S → Type 0) (Least : S → ℕ → Type 0) : ℕ → List Standing → S → Type 0 where
  begins : {n : ℕ} {s : S} → Begins n s → IsAccount Begins Goes Expands Least n [] s
  goes : {n : ℕ} {heard : List Standing} {s t : S} → IsAccount Begins Goes Expands Least n heard s → Goes s t → IsAccount Begins Goes Expands Least n heard t
  tells : {n : ℕ} {heard : List Standing} {s : S} {least : ℕ} → IsAccount Begins Goes Expands Least n heard s → Least s least →
      IsAccount Begins Goes Expands Least n (record { nodes = n; least = least } ∷ heard) s
  expands : {n : ℕ} {x : Standing} {heard : List Standing} {s t : S} → IsAccount Begins Goes Expands Least n (x ∷ heard) s → x.nodes ≡ n → Expands s t →
      IsAccount Begins Goes Expands Least (one_more n) (x ∷ heard) t

-- the answer states what was told last; that the search gave up, after so many nodes
abbrev pub IsEndOf : Standing → Answer → Type 0
IsEndOf last (answer.Plan plan cost) = last.least ≡ cost
IsEndOf last (answer.None bound) = last.least ≡ bound + 1
IsEndOf last (answer.GaveUp nodes least) = (last.least ≡ least) × (last.nodes ≡ nodes)

-- what a watch was told of a search by such steps that gave this answer, last of its end
pub record IsWatched {W S : Type 0} (told : W → ℕ → ℕ → W → Type 0) (Begins : ℕ → S → Type 0) (Goes Expands : S → S → Type 0) (Least : S → ℕ → Type 0) (old new : W) (given : Answer) : Type 0 where
  pub last : Standing
  pub earlier : List Standing
  pub waiting : S
  pub account : IsAccount Begins Goes Expands Least last.nodes (last ∷ earlier) waiting
  pub hears : Hears told old (last ∷ earlier) new
  pub ends : IsEndOf last given
