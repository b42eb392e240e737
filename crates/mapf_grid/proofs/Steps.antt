-- It can be decided whether two cells are a step of the grid.
use Rattle.std.proofs.Common.{◌≡◌, ◌⊎◌, ℕ, ◌+◌, ◌/◌, Bool, true, false, Option, Some, None, refl}
use native.Mathlib.Decide.{ℕ_discrete}
use Rattle.mapf_grid.specs.Grid.{Grid, IsFree, IsRightOrBelow, Next}
use Rattle.mapf_grid.proofs.Decide.{dec_map, dec_and, dec_or}

-- whether there is a value, and it is true
dec_some_true : (o : Option Bool) → Dec (o ≡ Some true)
dec_some_true None = no (λ e. cc)
dec_some_true (Some true) = yes refl
dec_some_true (Some false) = no (λ e. cc)

-- whether a cell is free
pub dec_free : (g : Grid) (c : ℕ) → Dec (IsFree g c)
dec_free g c = dec_some_true _

-- whether v is at the right of u, or below it
dec_side : (g : Grid) (u v : ℕ) → Dec (IsRightOrBelow g u v)
dec_side g u v = dec_or (dec_and (ℕ_discrete v (u + 1)) (ℕ_discrete (v / g.width) (u / g.width))) (ℕ_discrete v (u + g.width))

-- whether two cells are a step
pub dec_next : (g : Grid) (u v : ℕ) → Dec (Next g u v)
dec_next g u v =
    let d : Dec (IsFree g u × (IsFree g v × ((u ≡ v) ⊎ (IsRightOrBelow g u v ⊎ IsRightOrBelow g v u)))) =
    dec_and (dec_free g u) (dec_and (dec_free g v) (dec_or (ℕ_discrete u v) (dec_or (dec_side g u v) (dec_side g v u)))) in
    dec_map (λ h. (h.0, h.1.0, h.1.1)) (λ h. (h.0, (h.1, h.2))) d
