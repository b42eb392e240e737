-- A scenario's instance has no fault, and there is one at most.
use Rattle.std.proofs.Common.{◌≡◌, ℕ, List, slice_index, refl, sym, ap, ◌∙◌, subst, inl, inr, arith}
use Rattle.std.proofs.lemmas.List.{ext_get_or}
use Rattle.mapf_grid.specs.Grid.{Grid, HasSizes, IsFree}
use Rattle.mapf_grid.specs.Instance.{Instance, IsAgent, IsInstance, HasInstanceFault, IsInstanceFault}
use Rattle.mapf_grid.specs.InstanceLaws.{IsSound}
use Rattle.mapf_grid.specs.declared.scenario.Row.{Row}
use Rattle.mapf_grid.specs.declared.fault.InstanceFault.{InstanceFault}
use Rattle.mapf_grid.specs.declared.fault.InstanceFault.TheVariants.{AgentCount, TooFewRows, WrongSize, StartNotFree, GoalNotFree, SharedStart, SharedGoal, NoMemory}
use Rattle.mapf_grid.proofs.instance.AgentRows.{AreAgents}
use Rattle.mapf_grid.proofs.instance.AgentFaults.{row_of, start_of, goal_of, no_wrong_size, no_start_fault, no_goal_fault, no_shared_start, no_shared_goal}

-- an instance on another name of its grid
on_grid : {g : Grid} {rows : List Row} {n : ℕ} {inst : Instance} → IsInstance g rows n inst → (record { grid = g; starts = inst.starts; goals = inst.goals }) ≡ inst
on_grid {inst = inst} is = ap (λ h. record { grid = h; starts = inst.starts; goals = inst.goals }) (sym is.grid)

-- the agents of an instance
AreAgents-instance : {g : Grid} {rows : List Row} {n : ℕ} {inst : Instance} → IsInstance g rows n inst → AreAgents g rows n inst.starts inst.goals
AreAgents-instance {inst = inst} is = record {
  start_count = is.starts;
  goal_count = is.goals;
  agents = λ i row below e. subst (λ a. IsAgent a i row) (sym (on_grid is)) (is.agents i row below e);
  starts_differ = is.starts_differ;
  goals_differ = is.goals_differ;
}

-- an instance has no fault
pub no_fault : {g : Grid} {rows : List Row} {n : ℕ} {inst : Instance} → IsInstance g rows n inst → (y : InstanceFault) → HasInstanceFault g rows n y → ⊥
no_fault is AgentCount h = let some = is.some in let few = is.few in elim h [ inl e ↦ absurd (omega arith) | inr l ↦ absurd (omega arith) ]
no_fault is (TooFewRows t) h = let there = is.there in let e = h.0 in let below = h.1 in absurd (omega arith)
no_fault {n = n} is (WrongSize q) h = no_wrong_size n q (AreAgents-instance is) h h.1
no_fault {n = n} is (StartNotFree q) h = no_start_fault n q (AreAgents-instance is) h h.1
no_fault {n = n} is (GoalNotFree q) h = no_goal_fault n q (AreAgents-instance is) h h.1
no_fault {n = n} is (SharedStart e q) h = no_shared_start n e q (AreAgents-instance is) h h.1.1
no_fault {n = n} is (SharedGoal e q) h = no_shared_goal n e q (AreAgents-instance is) h h.1.1
no_fault is NoMemory h = h

-- where there is an instance, `NoMemory` alone is left
pub only_no_memory : {g : Grid} {rows : List Row} {n : ℕ} {inst : Instance} → IsInstance g rows n inst → (e : InstanceFault) → ((e ≡ NoMemory → ⊥) → IsInstanceFault g rows n e) → e ≡ NoMemory
only_no_memory is NoMemory fault = refl
only_no_memory is e fault = absurd (no_fault is e (fault (λ same. cc)).member)

-- two instances of the same rows have the same starts and goals
pub one_instance : {g : Grid} {rows : List Row} {n : ℕ} {a b : Instance} → IsInstance g rows n a → IsInstance g rows n b → a ≡ b
one_instance {g} {rows} {n} {a} {b} isa isb =
    let those = AreAgents-instance isa in
    let bs = AreAgents-instance isb in
    let there = isa.there in
    let na = isa.starts in
    let nb = isb.starts in
    let ma = isa.goals in
    let mb = isb.goals in
    let starts : a.starts ≡ b.starts = ext_get_or 0 a.starts b.starts (omega arith) (λ i inside.
    let found = row_of rows i (omega arith) in
    start_of those i found.0 (omega arith) found.1 ∙ sym (start_of bs i found.0 (omega arith) found.1)) in
    let goals : a.goals ≡ b.goals = ext_get_or 0 a.goals b.goals (omega arith) (λ i inside.
    let found = row_of rows i (omega arith) in
    goal_of those i found.0 (omega arith) found.1 ∙ sym (goal_of bs i found.0 (omega arith) found.1)) in
    sym (on_grid isa) ∙ ap (λ s. record { grid = g; starts = s; goals = a.goals }) starts ∙ ap (λ t. record { grid = g; starts = b.starts; goals = t }) goals ∙ on_grid isb

-- an instance on a map has what always holds
pub IsSound-instance : {g : Grid} {rows : List Row} {n : ℕ} {inst : Instance} → HasSizes g → IsInstance g rows n inst → IsSound inst
IsSound-instance {g} {rows} {n} {inst} sizes is =
    let are = AreAgents-instance is in
    let there = is.there in
    let some = is.some in
    let few = is.few in
    let starts = is.starts in
    let goals = is.goals in
    record {
      sizes = subst HasSizes (sym is.grid) sizes;
      some = omega arith;
      few = omega arith;
      goals = omega arith;
      starts_free = λ i inside.
          let found = row_of rows i (omega arith) in
          let agent = are.agents i found.0 (omega arith) found.1 in
          subst (λ h. IsFree h (slice_index inst.starts i)) (sym is.grid) (subst (IsFree g) (sym (start_of are i found.0 (omega arith) found.1)) agent.start_free.2);
      goals_free = λ i inside.
          let found = row_of rows i (omega arith) in
          let agent = are.agents i found.0 (omega arith) found.1 in
          subst (λ h. IsFree h (slice_index inst.goals i)) (sym is.grid) (subst (IsFree g) (sym (goal_of are i found.0 (omega arith) found.1)) agent.goal_free.2);
      starts_differ = is.starts_differ;
      goals_differ = is.goals_differ;
    }
