-- The least of a set, by a rank: the one order that faults, paths, conflicts and nodes are compared by.
use Rattle.std.specs.Prelude.{◌≡◌, ℕ, ◌<◌, ◌⊎◌, List, [], ◌∷◌}

-- as words in a dictionary: the first difference decides, and an end comes first
abbrev pub Precedes : List ℕ → List ℕ → Type 0
Precedes [] [] = ⊥
Precedes [] (b ∷ q) = Unit {0}
Precedes (a ∷ p) [] = ⊥
Precedes (a ∷ p) (b ∷ q) = (a < b) ⊎ ((a ≡ b) × Precedes p q)

-- x is in the set S, and the rank of no member precedes its rank
pub record IsLeast {A : Type 0} (rank : A → List ℕ) (S : A → Type 0) (x : A) : Type 0 where
  pub member : S x
  pub least : (y : A) → S y → ¬ Precedes (rank y) (rank x)

-- no member's rank precedes this rank
abbrev pub NoneBefore : {A : Type 0} (rank : A → List ℕ) (S : A → Type 0) → List ℕ → Type 0
NoneBefore {A} rank S r = (y : A) → S y → ¬ Precedes (rank y) r
