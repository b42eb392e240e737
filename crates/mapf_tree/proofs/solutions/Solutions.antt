-- The tree's nodes are a list, so it has a least solution or none.
use Rattle.mapf_tree.proofs.Prelude.{Some, None, ⊎_elim, least_by, first_conflict}
use Rattle.mapf_tree.specs.Prelude.{Problem, key, IsSolution, PlannedNode, IsMember, AnswerExists}
use Rattle.mapf_tree.proofs.finite.Finite.{members}

-- whether a node of the tree is a solution
dec_solution : (problem : Problem) (m : PlannedNode) → IsMember problem m → Dec (IsSolution problem m)
dec_solution problem m h =
    ⊎_elim (λ c. no (λ s. s.no_conflict c.0 c.1.member)) (λ none. yes (record { planned = h; no_conflict = none })) (first_conflict problem.rule m.1)

-- the least solution's plan is an answer, and so is none if there is no solution
pub answer_exists : AnswerExists
answer_exists problem =
    let ms = members problem in
    ⊎_elim (λ w. (Some w.0.1, (w.0.0, w.1))) (λ n. (None, n))
    (least_by key (IsSolution problem) ms.0 (λ k d l. dec_solution problem _ (ms.1 k d l)) (λ f s. ms.2 f s.planned))
