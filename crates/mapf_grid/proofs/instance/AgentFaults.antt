-- The first fault of the rows of an instance.
use Rattle.std.proofs.Common.{◌≡◌, ℕ, ◌/◌, ◌%◌, ◌<◌, ◌≤◌, zero, suc, List, [], ◌∷◌, length, slice_get, slice_index, get_or, drop, Some, refl, sym, ap, ◌∙◌, subst, inl, inr, arith}
use Rattle.std.proofs.lemmas.Option.{same_Some, get_or_from_slice_get}
use Rattle.std.proofs.lemmas.Nat.{div-mul-add, mod-mul-add}
use Rattle.mapf_grid.specs.Grid.{Grid}
use Rattle.mapf_grid.specs.Least.{Precedes, NoneBefore}
use Rattle.mapf_grid.specs.Instance.{cell_at, IsFreePlace, IsSizeOf, OfRow, HasInstanceFault, IsInstanceFault, instance_fault_rank}
use Rattle.mapf_grid.specs.declared.instance.TheConstants.{MOST_AGENTS}
use Rattle.mapf_grid.specs.NewAgent.{IsNewPlace, IsFirstAt, HasAgentFault}
use Rattle.mapf_grid.specs.declared.scenario.Row.{Row}
use Rattle.mapf_grid.specs.declared.fault.InstanceFault.{InstanceFault}
use Rattle.mapf_grid.specs.declared.fault.InstanceFault.TheVariants.{AgentCount, TooFewRows, WrongSize, StartNotFree, GoalNotFree, SharedStart, SharedGoal, NoMemory}
use Rattle.mapf_grid.proofs.instance.AgentRows.{AreAgents}
use Rattle.mapf_grid.proofs.Firsts.{not_before_end, NoneAt, none_before-next, none_before-there}

-- agent i's start and goal, by its row
pub start_of : {g : Grid} {rows : List Row} {n : ℕ} {starts goals : List ℕ} → AreAgents g rows n starts goals → (i : ℕ) (row : Row) → i < n → slice_get rows i ≡ Some row → slice_index starts i ≡ cell_at g row.start_x row.start_y
start_of {starts = starts} are i row below e = get_or_from_slice_get starts i _ 0 (are.agents i row below e).start

pub goal_of : {g : Grid} {rows : List Row} {n : ℕ} {starts goals : List ℕ} → AreAgents g rows n starts goals → (i : ℕ) (row : Row) → i < n → slice_get rows i ≡ Some row → slice_index goals i ≡ cell_at g row.goal_x row.goal_y
goal_of {goals = goals} are i row below e = get_or_from_slice_get goals i _ 0 (are.agents i row below e).goal

same_cell : (g : Grid) (x y u v : ℕ) → x ≡ u → y ≡ v → cell_at g x y ≡ cell_at g u v
same_cell g x y u v p q = cc

-- rows that are agents have no fault
pub no_wrong_size : {g : Grid} {rows : List Row} {m : ℕ} {starts goals : List ℕ} (n q : ℕ) → AreAgents g rows m starts goals → HasInstanceFault g rows n (WrongSize q) → q < m → ⊥
no_wrong_size n q are h below = h.3 (are.agents q h.0 below h.2).size

pub no_start_fault : {g : Grid} {rows : List Row} {m : ℕ} {starts goals : List ℕ} (n q : ℕ) → AreAgents g rows m starts goals → HasInstanceFault g rows n (StartNotFree q) → q < m → ⊥
no_start_fault n q are h below = h.3 (are.agents q h.0 below h.2).start_free

pub no_goal_fault : {g : Grid} {rows : List Row} {m : ℕ} {starts goals : List ℕ} (n q : ℕ) → AreAgents g rows m starts goals → HasInstanceFault g rows n (GoalNotFree q) → q < m → ⊥
no_goal_fault n q are h below = h.3 (are.agents q h.0 below h.2).goal_free

pub no_shared_start : {g : Grid} {rows : List Row} {m : ℕ} {starts goals : List ℕ} (n e q : ℕ) → AreAgents g rows m starts goals → HasInstanceFault g rows n (SharedStart e q) → q < m → ⊥
no_shared_start {g} {rows} {m} {starts} n e q are h below =
    let row = h.1.0 in
    let other = h.1.3.0 in
    let before = h.0 in
    let long = are.start_count in
    are.starts_differ e q before (omega arith)
    (start_of are e other (omega arith) h.1.3.2 ∙ same_cell g other.start_x other.start_y row.start_x row.start_y h.1.3.3.0 h.1.3.3.1 ∙ sym (start_of are q row below h.1.2))

pub no_shared_goal : {g : Grid} {rows : List Row} {m : ℕ} {starts goals : List ℕ} (n e q : ℕ) → AreAgents g rows m starts goals → HasInstanceFault g rows n (SharedGoal e q) → q < m → ⊥
no_shared_goal {g} {rows} {m} {goals = goals} n e q are h below =
    let row = h.1.0 in
    let other = h.1.3.0 in
    let before = h.0 in
    let long = are.goal_count in
    are.goals_differ e q before (omega arith)
    (goal_of are e other (omega arith) h.1.3.2 ∙ same_cell g other.goal_x other.goal_y row.goal_x row.goal_y h.1.3.3.0 h.1.3.3.1 ∙ sym (goal_of are q row below h.1.2))

-- two places in a map with one number are one place
one_place : (g : Grid) (x y u v : ℕ) → x < g.width → u < g.width → cell_at g x y ≡ cell_at g u v → (x ≡ u) × (y ≡ v)
one_place g x y u v left right e = (
  sym (mod-mul-add y g.width x left) ∙ ap (λ c. c % g.width) e ∙ mod-mul-add v g.width u right,
  sym (div-mul-add y g.width x left) ∙ ap (λ c. c / g.width) e ∙ div-mul-add v g.width u right,
)

pub row_of : (rows : List Row) (i : ℕ) → i < length rows → (row : Row) × (slice_get rows i ≡ Some row)
row_of [] i inside = absurd (omega arith)
row_of (row ∷ rows) zero inside = (row, refl)
row_of (row ∷ rows) (suc i) inside = row_of rows i (omega arith)

-- an earlier row with this start
earlier_start : {g : Grid} {rows : List Row} {r : ℕ} {starts goals : List ℕ} (n e : ℕ) (row : Row) → AreAgents g rows r starts goals → r < n → n ≤ length rows → IsFreePlace g row.start_x row.start_y → IsFirstAt starts (cell_at g row.start_x row.start_y) e
    → OfRow rows n e (λ other. (other.start_x ≡ row.start_x) × (other.start_y ≡ row.start_y))
earlier_start {g} {rows} {r} {starts} n e row are here there free first =
    let count = are.start_count in
    let inside = first.there in
    let found = row_of rows e (omega arith) in
    let other = found.0 in
    let agent = are.agents e other (omega arith) found.1 in
    let cell : cell_at g other.start_x other.start_y ≡ cell_at g row.start_x row.start_y = sym (start_of are e other (omega arith) found.1) ∙ first.at in
    (other, omega arith, found.1, one_place g other.start_x other.start_y row.start_x row.start_y agent.start_free.0 free.0 cell)

earlier_goal : {g : Grid} {rows : List Row} {r : ℕ} {starts goals : List ℕ} (n e : ℕ) (row : Row) → AreAgents g rows r starts goals → r < n → n ≤ length rows → IsFreePlace g row.goal_x row.goal_y → IsFirstAt goals (cell_at g row.goal_x row.goal_y) e
    → OfRow rows n e (λ other. (other.goal_x ≡ row.goal_x) × (other.goal_y ≡ row.goal_y))
earlier_goal {g} {rows} {r} {goals = goals} n e row are here there free first =
    let count = are.goal_count in
    let inside = first.there in
    let found = row_of rows e (omega arith) in
    let other = found.0 in
    let agent = are.agents e other (omega arith) found.1 in
    let cell : cell_at g other.goal_x other.goal_y ≡ cell_at g row.goal_x row.goal_y = sym (goal_of are e other (omega arith) found.1) ∙ first.at in
    (other, omega arith, found.1, one_place g other.goal_x other.goal_y row.goal_x row.goal_y agent.goal_free.0 free.0 cell)

not_first : (places : List ℕ) (cell e f : ℕ) → IsFirstAt places cell f → slice_index places e ≡ cell → Precedes (e ∷ []) (f ∷ []) → ⊥
not_first places cell e f first at p = elim p [ inl less ↦ first.none_before e less at | inr same ↦ same.1 ]

-- a fault of a row that precedes the tests of row r is one of an earlier row
row_before : (q r j : ℕ) (s : List ℕ) → 22 < j → Precedes (2 ∷ q ∷ j ∷ s) (2 ∷ r ∷ 23 ∷ []) → q < r
row_before q r j s high p = elim p [
  | inl l ↦ absurd (omega arith)
  | inr b ↦ elim b.1 [ inl less ↦ less | inr c ↦ elim c.1 [ inl l ↦ absurd (omega arith) | inr d ↦ absurd (not_before_end s d.1) ] ]
]

-- row r, behind rows that are agents
module _ {g : Grid} {rows : List Row} {r : ℕ} {starts goals : List ℕ} {row : Row} (n : ℕ) (few : n ≤ MOST_AGENTS) (there : n ≤ length rows) (in_n : r < n) (are : AreAgents g rows r starts goals) (here : slice_get rows r ≡ Some row) where
  abbrev Has : InstanceFault → Type 0
  Has = HasInstanceFault g rows n

  abbrev NoFaultBefore : List ℕ → Type 0
  NoFaultBefore p = NoneBefore instance_fault_rank Has p

  same_row : (q : ℕ) (other : Row) → q ≡ r → slice_get rows q ≡ Some other → row ≡ other
  same_row q other same e = same_Some row other (sym here ∙ ap (slice_get rows) (sym same) ∙ e)

  before_size : NoFaultBefore (2 ∷ r ∷ 23 ∷ [])
  before_size AgentCount h p = elim h [ inl e ↦ absurd (omega arith) | inr l ↦ absurd (omega arith) ]
  before_size (TooFewRows t) h p = absurd (omega (arith, h.0, h.1))
  before_size (WrongSize q) h p = no_wrong_size n q are h (row_before q r 23 [] (omega arith) p)
  before_size (StartNotFree q) h p = no_start_fault n q are h (row_before q r 24 [] (omega arith) p)
  before_size (GoalNotFree q) h p = no_goal_fault n q are h (row_before q r 25 [] (omega arith) p)
  before_size (SharedStart e q) h p = no_shared_start n e q are h (row_before q r 26 (e ∷ []) (omega arith) p)
  before_size (SharedGoal e q) h p = no_shared_goal n e q are h (row_before q r 27 (e ∷ []) (omega arith) p)
  before_size NoMemory h p = h

  before_start : IsSizeOf g row → NoFaultBefore (2 ∷ r ∷ 24 ∷ [])
  before_start size = none_before-next instance_fault_rank Has (2 ∷ r ∷ []) 23 before_size none
    where
      none : NoneAt instance_fault_rank Has (2 ∷ r ∷ 23 ∷ [])
      none (WrongSize q) u h e = h.3 (subst (IsSizeOf g) (same_row q h.0 (ap (λ l. get_or l 1 0) e) h.2) size)
      none y u h e = absurd (omega (arith, ap (λ l. get_or l 2 0) e))

  before_goal : IsSizeOf g row → IsFreePlace g row.start_x row.start_y → NoFaultBefore (2 ∷ r ∷ 25 ∷ [])
  before_goal size start = none_before-next instance_fault_rank Has (2 ∷ r ∷ []) 24 (before_start size) none
    where
      none : NoneAt instance_fault_rank Has (2 ∷ r ∷ 24 ∷ [])
      none (StartNotFree q) u h e = h.3 (subst (λ w. IsFreePlace g w.start_x w.start_y) (same_row q h.0 (ap (λ l. get_or l 1 0) e) h.2) start)
      none y u h e = absurd (omega (arith, ap (λ l. get_or l 2 0) e))

  before_shared_start : IsSizeOf g row → IsFreePlace g row.start_x row.start_y → IsFreePlace g row.goal_x row.goal_y → NoFaultBefore (2 ∷ r ∷ 26 ∷ [])
  before_shared_start size start goal = none_before-next instance_fault_rank Has (2 ∷ r ∷ []) 25 (before_goal size start) none
    where
      none : NoneAt instance_fault_rank Has (2 ∷ r ∷ 25 ∷ [])
      none (GoalNotFree q) u h e = h.3 (subst (λ w. IsFreePlace g w.goal_x w.goal_y) (same_row q h.0 (ap (λ l. get_or l 1 0) e) h.2) goal)
      none y u h e = absurd (omega (arith, ap (λ l. get_or l 2 0) e))

  -- an agent that shares its start with row r is one of the earlier ones, and starts on its cell
  shares_start : (e q : ℕ) → q ≡ r → Has (SharedStart e q) → (e < r) × (slice_index starts e ≡ cell_at g row.start_x row.start_y)
  shares_start e q same h =
      let other = h.1.3.0 in
      let is = same_row q h.1.0 same h.1.2 in
      let early : e < r = omega (arith, h.0, same) in
      (early, start_of are e other early h.1.3.2 ∙ same_cell g other.start_x other.start_y row.start_x row.start_y (h.1.3.3.0 ∙ ap (λ w. w.start_x) (sym is)) (h.1.3.3.1 ∙ ap (λ w. w.start_y) (sym is)))

  shares_goal : (e q : ℕ) → q ≡ r → Has (SharedGoal e q) → slice_index goals e ≡ cell_at g row.goal_x row.goal_y
  shares_goal e q same h =
      let other = h.1.3.0 in
      let is = same_row q h.1.0 same h.1.2 in
      goal_of are e other (omega (arith, h.0, same)) h.1.3.2 ∙ same_cell g other.goal_x other.goal_y row.goal_x row.goal_y (h.1.3.3.0 ∙ ap (λ w. w.goal_x) (sym is)) (h.1.3.3.1 ∙ ap (λ w. w.goal_y) (sym is))

  before_shared_goal : IsSizeOf g row → IsNewPlace g starts row.start_x row.start_y (cell_at g row.start_x row.start_y) → IsFreePlace g row.goal_x row.goal_y → NoFaultBefore (2 ∷ r ∷ 27 ∷ [])
  before_shared_goal size start goal = none_before-next instance_fault_rank Has (2 ∷ r ∷ []) 26 (before_shared_start size start.free goal) none
    where
      none : NoneAt instance_fault_rank Has (2 ∷ r ∷ 26 ∷ [])
      none (SharedStart e q) u h eq =
          let shares = shares_start e q (ap (λ l. get_or l 1 0) eq) h in start.new e (omega (arith, shares.0, are.start_count)) shares.1
      none y u h e = absurd (omega (arith, ap (λ l. get_or l 2 0) e))

  first_start : (f : ℕ) → IsFirstAt starts (cell_at g row.start_x row.start_y) f → (y : InstanceFault) (u : List ℕ) → Has y → instance_fault_rank y ≡ 2 ∷ r ∷ 26 ∷ u → ¬ Precedes u (f ∷ [])
  first_start f first (SharedStart e q) u h eq p =
      not_first starts _ e f first (shares_start e q (ap (λ l. get_or l 1 0) eq) h).1 (subst (λ l. Precedes l (f ∷ [])) (sym (ap (drop 3) eq)) p)
  first_start f first y u h eq p = absurd (omega (arith, ap (λ l. get_or l 2 0) eq))

  first_goal : (f : ℕ) → IsFirstAt goals (cell_at g row.goal_x row.goal_y) f → (y : InstanceFault) (u : List ℕ) → Has y → instance_fault_rank y ≡ 2 ∷ r ∷ 27 ∷ u → ¬ Precedes u (f ∷ [])
  first_goal f first (SharedGoal e q) u h eq p =
      not_first goals _ e f first (shares_goal e q (ap (λ l. get_or l 1 0) eq) h) (subst (λ l. Precedes l (f ∷ [])) (sym (ap (drop 3) eq)) p)
  first_goal f first y u h eq p = absurd (omega (arith, ap (λ l. get_or l 2 0) eq))

  -- the first fault of the next row is that of the instance
  pub agent_fault : (e : InstanceFault) → HasAgentFault g starts goals row r e → IsInstanceFault g rows n e
  agent_fault (WrongSize q) h =
      subst (λ i. IsInstanceFault g rows n (WrongSize i)) (sym h.0) (record { member = (row, in_n, here, h.1); least = before_size })
  agent_fault (StartNotFree q) h =
      subst (λ i. IsInstanceFault g rows n (StartNotFree i)) (sym h.0) (record { member = (row, in_n, here, h.2); least = before_start h.1 })
  agent_fault (GoalNotFree q) h =
      subst (λ i. IsInstanceFault g rows n (GoalNotFree i)) (sym h.0) (record { member = (row, in_n, here, h.3); least = before_goal h.1 h.2 })
  agent_fault (SharedStart f q) h =
      subst (λ i. IsInstanceFault g rows n (SharedStart f i)) (sym h.0) (record {
        member = (omega (arith, h.4.there, are.start_count), (row, in_n, here, earlier_start n f row are in_n there h.2 h.4));
        least = none_before-there instance_fault_rank Has (2 ∷ r ∷ 26 ∷ []) (f ∷ []) (before_shared_start h.1 h.2 h.3) (first_start f h.4);
      })
  agent_fault (SharedGoal f q) h =
      subst (λ i. IsInstanceFault g rows n (SharedGoal f i)) (sym h.0) (record {
        member = (omega (arith, h.4.there, are.goal_count), (row, in_n, here, earlier_goal n f row are in_n there h.3 h.4));
        least = none_before-there instance_fault_rank Has (2 ∷ r ∷ 27 ∷ []) (f ∷ []) (before_shared_goal h.1 h.2 h.3) (first_goal f h.4);
      })
  agent_fault y h = absurd h
