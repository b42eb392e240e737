-- Each agent's table of distances.
use Rattle.mapf_tree.proofs.Prelude.{◌≡◌, ℕ, ◌<◌, List, [], length, get_or, slice_index, Option, subst, sym, ◌∙◌, arith, get_or_default}
use Rattle.mapf_tree.specs.Prelude.{AreDistances, Problem, IsReady}

-- the table at an agent's place has the distances of the agent's goal
pub table_at : (problem : Problem) (tables : List (List (Option ℕ))) → IsReady problem tables → (i : ℕ) → i < length problem.inst.starts →
    (t : List (Option ℕ)) → t ≡ get_or tables i t → AreDistances problem.inst.grid (slice_index problem.inst.goals i) t
table_at problem tables ready i h t e =
    let inside : i < length tables = omega (arith, ready.tables.each, h) in
    subst (AreDistances problem.inst.grid (slice_index problem.inst.goals i)) (get_or_default tables i [] t inside ∙ sym e) (ready.tables.shortest i h)
