-- Groups of agents, each by itself: what each costs at least comes to a lower bound of all together (Standley 2010: independent groups;
-- here at each node of a search).
use Rattle.std.specs.Prelude.{◌≡◌, ℕ, ◌-◌, ◌≤◌, Bool, true, false, List, [], length, map, slice_index, slice_index_or, sum_by, Contains}
use Rattle.std.specs.List.{AllByRecursion, flat_map}
use Rattle.mapf_low.specs.declared.constraint.Constraint.{Constraint}
use Rattle.mapf_tree.specs.Problem.{Problem}
use Rattle.mapf_optimum.specs.declared.group_bound.GroupBound.{GroupBound}
use Rattle.mapf_optimum.specs.declared.group_costs.KnownGroup.{KnownGroup}
use Rattle.mapf_optimum.specs.FreeTree.{AreGroupBounds, AreLeastCosts, IsCandidate, IsLowerBoundOf, IsGroup, IsGroupBound, paths_in}

-- the problem of these agents by themselves
abbrev pub part_of : Problem → List ℕ → Problem
part_of problem agents = record {
  inst = record {
    grid = problem.inst.grid;
    starts = map (λ i. slice_index problem.inst.starts i) agents;
    goals = map (λ i. slice_index problem.inst.goals i) agents;
  };
  bound = problem.bound;
  nodes = problem.nodes;
  rule = problem.rule;
}

-- some agents of a problem
pub record Part : Type 0 where
  pub problem : Problem
  pub agents : List ℕ

-- their own problem
abbrev pub alone : Part → Problem
alone part = part_of part.problem part.agents

-- their sets
abbrev pub sets_in : List (List Constraint) → List ℕ → List (List Constraint)
sets_in sets agents = map (λ i. slice_index_or sets i []) agents

-- what their least paths cost
abbrev pub costs_in : List ℕ → List ℕ → List ℕ
costs_in costs agents = map (λ i. slice_index_or costs i 0) agents

-- agents, and what they cost together at least
pub record Group : Type 0 where
  pub agents : List ℕ
  pub least : ℕ

-- the agents of all groups, one group after the other
abbrev pub all_agents : List Group → List ℕ
all_agents groups = flat_map (λ g. g.agents) groups

-- how much more than its agents alone the group costs at least, where each costs so much alone
abbrev pub surplus : List ℕ → GroupBound → ℕ
surplus costs g = g.least - sum_by (λ c. c) (costs_in costs g.agents.items)

-- of so many agents, each of the groups has some, each once
abbrev pub AreGroups : ℕ → List GroupBound → Type 0
AreGroups n groups = (g : GroupBound) → Contains groups g → IsGroup n g.agents.items

-- groups without a common agent were chosen, whose agents have marks, and they cost at least so much together, where least paths cost so
-- much, and the groups of a list at least so much
pub record AreChosen (costs : List ℕ) (groups : List GroupBound) (taken : List Bool) (sum : ℕ) : Type 0 where
  pub chosen : List Group
  pub long : length taken ≡ length costs
  pub apart : IsGroup (length costs) (all_agents chosen)
  pub bounds :
      (problem : Problem) (sets : List (List Constraint)) → AreLeastCosts problem sets costs → AreGroupBounds problem sets groups →
      AllByRecursion (λ g. IsGroupBound problem sets g.agents g.least) chosen
  pub marked : (i : ℕ) → Contains (all_agents chosen) i → slice_index_or taken i false ≡ true
  pub sums : sum ≤ sum_by (λ g. g.least) chosen

-- these agents had no marks, and have some then
pub record Takes (agents : List ℕ) (old new : List Bool) : Type 0 where
  pub same : length new ≡ length old
  pub free : (i : ℕ) → Contains agents i → slice_index_or old i false ≡ false
  pub marked : (i : ℕ) → Contains agents i → slice_index_or new i false ≡ true
  pub stays : (i : ℕ) → slice_index_or old i false ≡ true → slice_index_or new i false ≡ true

-- nothing else is known of groups than before
abbrev pub AreOf : (old new : List GroupBound) → Type 0
AreOf old new = (g : GroupBound) → Contains new g → (k : GroupBound) × Contains old k × (k.agents.items ≡ g.agents.items) × (k.least ≡ g.least)

-- no candidate of any problem and sets costs less, where least paths cost so much, and groups at least so much
abbrev pub IsBoundBy : List ℕ → List GroupBound → ℕ → Type 0
IsBoundBy costs groups least =
    (problem : Problem) (sets : List (List Constraint)) → AreLeastCosts problem sets costs → AreGroupBounds problem sets groups → IsLowerBoundOf problem sets least

-- what is known of groups is so
abbrev pub AreKnown : Problem → List KnownGroup → Type 0
AreKnown problem known = (k : KnownGroup) → Contains known k → IsLowerBoundOf (part_of problem k.agents.items) k.sets.items k.least

-- what an agent is forbidden by the first of these sets it is by the second ones, too
abbrev pub AreWithin : List (List Constraint) → List (List Constraint) → Type 0
AreWithin few more = (i : ℕ) → AllByRecursion (Contains (slice_index_or more i [])) (slice_index_or few i [])

-- a candidate has a candidate of each group
abbrev pub GroupsRestrict : Type 0
GroupsRestrict =
    (problem : Problem) (sets : List (List Constraint)) (agents : List ℕ) (plan : List (List ℕ)) →
    IsGroup (length problem.inst.starts) agents → IsCandidate problem sets plan → IsCandidate (part_of problem agents) (sets_in sets agents) (paths_in plan agents)

-- what groups without a common agent cost at least comes to a lower bound
abbrev pub GroupsAdd : Type 0
GroupsAdd =
    (problem : Problem) (sets : List (List Constraint)) (groups : List Group) → IsGroup (length problem.inst.starts) (all_agents groups) →
    AllByRecursion (λ g. IsGroupBound problem sets g.agents g.least) groups → IsLowerBoundOf problem sets (sum_by (λ g. g.least) groups)
