-- The table of an agent's start.
use Rattle.std.proofs.Common.{◌≡◌, ℕ, ◌+◌, ◌<◌, List, [], ◌∷◌, ◌++◌, length, get_or, Option, subst, subst₂, sym, ap, ◌∙◌, arith, below_more}
use Rattle.std.proofs.lemmas.List.{get_or_append_left, get_or_default, get_or_push}
use Rattle.mapf_grid.specs.Grid.{Grid}
use Rattle.mapf_grid.specs.Instance.{Instance}
use Rattle.mapf_low.specs.Walk.{AreDistances}
use Rattle.mapf_optimum.specs.FreeSearch.{HasStartTables}

pub from_start : (inst : Instance) (tables : List (List (Option ℕ))) (g : Grid) (a start : ℕ) (table : List (Option ℕ)) → HasStartTables inst tables → a < length inst.starts →
    g ≡ inst.grid → start ≡ get_or inst.starts a 0 → table ≡ get_or tables a table → AreDistances g start table
from_start inst tables g a start table has inside eg es et =
    subst₂ (λ h s. AreDistances h s table) (sym eg) (sym es) (subst (AreDistances inst.grid (get_or inst.starts a 0)) (sym (et ∙ get_or_default tables a table [] (omega (arith, inside, has.each)))) (has.shortest a inside))

-- one more table is that of the next agent's start
pub more_tables : (inst : Instance) (tables new : List (List (Option ℕ))) (n : ℕ) (g : Grid) (start : ℕ) (table : List (Option ℕ)) → length tables ≡ n → new ≡ tables ++ table ∷ [] → g ≡ inst.grid → start ≡ get_or inst.starts n 0 → AreDistances g start table →
    ((i : ℕ) → i < n → AreDistances inst.grid (get_or inst.starts i 0) (get_or tables i [])) → (i : ℕ) → i < n + 1 → AreDistances inst.grid (get_or inst.starts i 0) (get_or new i [])
more_tables inst tables new n g start table long is eg es here below =
    below_more (λ i. AreDistances inst.grid (get_or inst.starts i 0) (get_or new i [])) n
    (λ i low. subst (AreDistances inst.grid (get_or inst.starts i 0)) (sym (ap (λ ts. get_or ts i []) is ∙ get_or_append_left tables (table ∷ []) [] i (omega (arith, low, long)))) (below i low))
    (subst (AreDistances inst.grid (get_or inst.starts n 0)) (sym (ap (λ ts. get_or ts n []) is ∙ get_or_push tables table [] n long)) (subst₂ (λ h s. AreDistances h s table) eg es here))
