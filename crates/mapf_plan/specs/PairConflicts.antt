-- Pair conflicts: a pair of agents and a time step before which they have no conflict. A plan's first conflict is found from a short
-- list of them that covers all its conflicts.
use Rattle.std.specs.Prelude.{◌≡◌, ◌≤◌, List, Contains}
use Rattle.mapf_plan.specs.declared.conflict.Conflict.{Conflict}
use Rattle.mapf_plan.specs.declared.pair_conflicts.PairConflict.{PairConflict}
use Rattle.mapf_plan.specs.Plan.{conflict_time, first_agent, second_agent}

-- a pair conflict is of a conflict's two agents, and not after it
abbrev pub IsPairConflictOf : Conflict → PairConflict → Type 0
IsPairConflictOf c m = (m.first ≡ first_agent c) × (m.second ≡ second_agent c) × (m.time ≤ conflict_time c)

-- each of these conflicts has a pair conflict in the list
abbrev pub HavePairConflicts : (Conflict → Type 0) → List PairConflict → Type 0
HavePairConflicts S ms = (c : Conflict) → S c → (m : PairConflict) × Contains ms m × IsPairConflictOf c m

-- all pair conflicts of a list are in another
abbrev pub HasAllOf : List PairConflict → List PairConflict → Type 0
HasAllOf more ms = (m : PairConflict) → Contains ms m → Contains more m
