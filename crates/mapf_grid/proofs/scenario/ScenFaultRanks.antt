-- Faults of a scenario file that have one rank are one.
use Rattle.std.proofs.Common.{◌≡◌, ℕ, List, length, get_or, refl, ap, ap₂, arith}
use Rattle.mapf_grid.specs.ScenarioFile.{HasScenFault, scen_fault_rank}
use Rattle.mapf_grid.specs.declared.fault.ScenFault.{ScenFault}
use Rattle.mapf_grid.specs.declared.fault.ScenFault.TheVariants.{Version, FieldCount, Number}

-- faults of one rank are one
pub scen_fault_by_rank : (lines : List (List ℕ)) (a b : ScenFault) → HasScenFault lines a → HasScenFault lines b → scen_fault_rank a ≡ scen_fault_rank b → a ≡ b
scen_fault_by_rank lines Version Version p q e = refl
scen_fault_by_rank lines (FieldCount j) (FieldCount k) p q e = ap FieldCount (ap (λ l. get_or l 0 0) e)
scen_fault_by_rank lines (Number j f) (Number k g) p q e = ap₂ Number (ap (λ l. get_or l 0 0) e) (ap (λ l. get_or l 1 0) e)
scen_fault_by_rank lines Version (FieldCount k) p q e = absurd (omega (arith, ap (λ l. get_or l 0 0) e, q.0))
scen_fault_by_rank lines (FieldCount j) Version p q e = absurd (omega (arith, ap (λ l. get_or l 0 0) e, p.0))
scen_fault_by_rank lines a b p q e = absurd (omega (arith, ap length e))
