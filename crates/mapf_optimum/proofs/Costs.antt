-- Numbers beside what the paths of a plan cost.
use Rattle.std.proofs.Common.{◌≡◌, ℕ, suc, ◌<◌, ◌≤◌, List, [], ◌∷◌, length, get_or, ◌∙◌, arith}
use Rattle.std.specs.List.{sum_by}
use Rattle.std.proofs.lemmas.List.{get_or_default}
use Rattle.std.proofs.lemmas.List.Sums.{sum_by-cons}
use Rattle.mapf_plan.specs.Path.{cost}
use Rattle.mapf_plan.specs.Plan.{path_of, plan_cost}

-- numbers that are no more than what the paths cost come to no more
pub costs_at_most : (costs : List ℕ) (plan : List (List ℕ)) → length costs ≡ length plan → ((i : ℕ) → i < length costs → get_or costs i 0 ≤ cost (path_of plan i)) → sum_by (λ k. k) costs ≤ plan_cost plan
costs_at_most [] [] size each = omega arith
costs_at_most [] (p ∷ ps) size each = absurd (omega (arith, size))
costs_at_most (c ∷ cs) [] size each = absurd (omega (arith, size))
costs_at_most (c ∷ cs) (p ∷ ps) size each =
    omega (arith, sum_by-cons (λ k. k) c cs, sum_by-cons cost p ps, each 0 (omega arith), costs_at_most cs ps (omega (arith, size)) (λ i h. each (suc i) (omega (arith, h))))

-- and numbers that are no less come to no less
pub costs_at_least : (costs : List ℕ) (plan : List (List ℕ)) → length costs ≡ length plan → ((i : ℕ) → i < length plan → cost (path_of plan i) ≤ get_or costs i 0) → plan_cost plan ≤ sum_by (λ k. k) costs
costs_at_least [] [] size each = omega arith
costs_at_least [] (p ∷ ps) size each = absurd (omega (arith, size))
costs_at_least (c ∷ cs) [] size each = absurd (omega (arith, size))
costs_at_least (c ∷ cs) (p ∷ ps) size each =
    omega (arith, sum_by-cons (λ k. k) c cs, sum_by-cons cost p ps, each 0 (omega arith), costs_at_least cs ps (omega (arith, size)) (λ i h. each (suc i) (omega (arith, h))))

-- a number, as it is read
pub number_at : (costs : List ℕ) (a k : ℕ) → k ≡ get_or costs a k → a < length costs → k ≡ get_or costs a 0
number_at costs a k is h = is ∙ get_or_default costs a k 0 h
