-- A list of cells that grows by one side of a cell.
use Rattle.std.specs.Prelude.{◌≡◌, ℕ, ◌⊎◌, List, [], ◌∷◌, ◌++◌, Option, Some}
use Rattle.mapf_grid.specs.Grid.{Grid, IsFree}

-- the new list is the old one, with the side behind it if that is a free cell
abbrev pub PushesFree : Grid → Option ℕ → List ℕ → List ℕ → Type 0
PushesFree g side old new =
    ((c : ℕ) × (side ≡ Some c) × IsFree g c × (new ≡ old ++ c ∷ []))
    ⊎ (((c : ℕ) → side ≡ Some c → ¬ IsFree g c) × (new ≡ old))
