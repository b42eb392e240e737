-- Faults of an instance's rows that have one rank are one.
use Rattle.std.proofs.Common.{◌≡◌, ℕ, List, length, get_or, refl, sym, ap, ap₂, ◌∙◌, arith}
use Rattle.mapf_grid.specs.Grid.{Grid}
use Rattle.mapf_grid.specs.Instance.{HasInstanceFault, instance_fault_rank}
use Rattle.mapf_grid.specs.declared.scenario.Row.{Row}
use Rattle.mapf_grid.specs.declared.fault.InstanceFault.{InstanceFault}
use Rattle.mapf_grid.specs.declared.fault.InstanceFault.TheVariants.{AgentCount, TooFewRows, WrongSize, StartNotFree, GoalNotFree, SharedStart, SharedGoal, NoMemory}

-- faults of one rank are one
pub instance_fault_by_rank : (g : Grid) (rows : List Row) (n : ℕ) (a b : InstanceFault) → HasInstanceFault g rows n a → HasInstanceFault g rows n b → instance_fault_rank a ≡ instance_fault_rank b → a ≡ b
instance_fault_by_rank g rows n AgentCount AgentCount p q e = refl
instance_fault_by_rank g rows n (TooFewRows s) (TooFewRows t) p q e = ap TooFewRows (p.0 ∙ sym q.0)
instance_fault_by_rank g rows n (WrongSize r) (WrongSize s) p q e = ap WrongSize (ap (λ l. get_or l 1 0) e)
instance_fault_by_rank g rows n (StartNotFree r) (StartNotFree s) p q e = ap StartNotFree (ap (λ l. get_or l 1 0) e)
instance_fault_by_rank g rows n (GoalNotFree r) (GoalNotFree s) p q e = ap GoalNotFree (ap (λ l. get_or l 1 0) e)
instance_fault_by_rank g rows n (SharedStart c r) (SharedStart d s) p q e = ap₂ SharedStart (ap (λ l. get_or l 3 0) e) (ap (λ l. get_or l 1 0) e)
instance_fault_by_rank g rows n (SharedGoal c r) (SharedGoal d s) p q e = ap₂ SharedGoal (ap (λ l. get_or l 3 0) e) (ap (λ l. get_or l 1 0) e)
instance_fault_by_rank g rows n a NoMemory p q e = absurd q
instance_fault_by_rank g rows n a b p q e = absurd (omega (arith, ap length e, ap (λ l. get_or l 0 0) e, ap (λ l. get_or l 2 0) e))
