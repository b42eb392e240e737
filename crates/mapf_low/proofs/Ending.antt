-- When a path may end on the goal.
use Rattle.std.proofs.Common.{ℕ, List, Option, Some, None, IsTrue, Contains, refl, ◌∙◌, ⊎_elim, arith}
use borrow.Author.Tests.{ltb-true, lt-ltb}
use Rattle.std.proofs.lemmas.Bool.{cases_lt}
use Rattle.mapf_low.specs.Query.{Query, MayEnd}
use Rattle.mapf_low.specs.declared.constraint.Constraint.TheVariants.{Vertex}
use Rattle.mapf_plan.proofs.Paths.{at_past}
use Rattle.mapf_low.specs.Constraints.{IsAllowed}
use Rattle.mapf_low.proofs.Places.{obeys_each}
use Rattle.mapf_low.specs.Best.{is_past, IsGreatest}

-- after the last time at which it is forbidden
pub past_may_end : (query : Query) (t : ℕ) (last : Option ℕ) → IsGreatest (λ s. Contains query.constraints (Vertex query.goal s)) last → IsTrue (is_past last t) → MayEnd query t
past_may_end query t None h p s l i = h s i
past_may_end query t (Some m) h p s l i = omega (arith, l, h.1 s i, ltb-true m t p)

-- and only then
pub may_end_past : (query : Query) (t : ℕ) (last : Option ℕ) → IsGreatest (λ s. Contains query.constraints (Vertex query.goal s)) last → MayEnd query t → IsTrue (is_past last t)
may_end_past query t None h p = refl
may_end_past query t (Some m) h p = ⊎_elim (λ l. lt-ltb m t l) (λ l. absurd (p m l h.0)) (cases_lt m t)

-- a path within the bound ends when nothing forbids the goal any more
pub ends_by_bound : (query : Query) (p : List ℕ) → IsAllowed query.grid query.start query.goal query.bound query.constraints p → MayEnd query query.bound
ends_by_bound query p a s l i = obeys_each query.constraints p a.obeys (Vertex query.goal s) i (at_past p s (omega (arith, l, a.within)) ∙ a.path.ends)
