-- What a search knows of the cost of each plan without conflict holds of all of them.
use Rattle.mapf_tree.proofs.Prelude.{◌≡◌, ℕ, ◌+◌, ◌≤◌, List, [], ◌∷◌, take, Option, Some, None, Result, Ok, Err, inl, inr, subst, sym, refl, ap, ◌∙◌, ⊎_elim, arith, Contains, cases_lt, here}
use Rattle.mapf_tree.specs.Prelude.{NoMemory, IsLeast, plan_cost, Answer}
use Rattle.mapf_plan.specs.declared.answer.Answer.TheVariants as answer
use Rattle.mapf_tree.specs.Prelude.{Problem, Key, key, key_rank, Node, node_key, AllStand, HasNodeFor, IsStated, IsBestAnswer, IsRising, IsLawful, IsLeastCost, IsLowerBound, IsBelowAll, least_stated}
use Rattle.mapf_tree.proofs.solutions.Descent.{none_is_none}
use Rattle.mapf_tree.proofs.high_level.GoingOn.{best_stated, best_answer}
use Rattle.mapf_tree.proofs.high_level.OpenNodes.{first_is_least}
use Rattle.mapf_tree.proofs.high_level.Expansions.{least_below, none_left}

-- a list that gave its first node begins with it
pub first_given : (nodes given rest : List Node) (first : Node) → given ≡ take 1 nodes → given ≡ first ∷ rest → (others : List Node) × (nodes ≡ first ∷ others)
first_given [] given rest first e is = cc
first_given (n ∷ nodes) given rest first e is = (nodes, cc)

-- what a node costs, by its key
pub cost-key : (k : Key) (n : Node) → key_rank k ≡ node_key n → k.cost ≡ plan_cost n.plan
cost-key k n e = cc

-- the first node of an open list is the least that waits
pub first_is_least_cost : (p : Problem) (nodes rest : List Node) (first : Node) (least : ℕ) → AllStand p nodes → IsRising nodes → nodes ≡ first ∷ rest → least ≡ plan_cost first.plan → IsLeastCost p nodes least
first_is_least_cost p nodes rest first least all rising e is =
    let x = all first (subst (λ ns. Contains ns first) (sym e) (here rest refl)) in
    (x.0, subst (λ ns. IsLeast key (HasNodeFor p ns) x.0) (sym e) (first_is_least p first rest x.0 (subst IsRising e rising) x.1), is ∙ ap plan_cost x.1.plan)

-- where no plan costs at most the bound, each costs more
over_bound : (bound cost : ℕ) → (cost ≤ bound → ⊥) → bound + 1 ≤ cost
over_bound bound cost none = ⊎_elim (λ over. omega (arith, over)) (λ within. absurd (none within)) (cases_lt bound cost)

-- what a best answer states
stated_is_below : (p : Problem) (given : Answer) → IsBestAnswer p given → IsBelowAll p (least_stated given)
stated_is_below p (answer.Plan given cost) best plan valid = omega (arith, best.1, best.0.least plan valid)
stated_is_below p (answer.None bound) best plan valid = omega (arith, best.0, over_bound p.bound (plan_cost plan) (best.1 plan valid))
stated_is_below p (answer.GaveUp nodes least) best plan valid = best.1 plan valid

-- and what an answer without a limit on nodes states
pub stated_below : (p : Problem) (given : Answer) → IsStated p given → IsBelowAll p (least_stated given)
stated_below p given is = stated_is_below p given (best_stated p given is)

-- what a search knows
pub known_is_below : (p : Problem) (nodes : List Node) (last : Option (List ℕ)) (outcome : Result (Option Answer) NoMemory) (least : ℕ) → IsLawful p nodes last outcome → IsLowerBound p nodes outcome least → IsBelowAll p least
known_is_below p nodes last (Ok None) least h (inl empty) plan valid =
    omega (arith, empty.1, over_bound p.bound (plan_cost plan) ((none_is_none p).0 (none_left p last nodes h.0 h.1 empty.0) plan valid))
known_is_below p nodes last (Ok None) least h (inr (x, first, is)) plan valid = omega (arith, is, least_below p last nodes h.0 h.1 x first plan valid)
known_is_below p nodes last (Ok (Some given)) least h is plan valid = omega (arith, is, stated_is_below p given (best_answer p given h.1) plan valid)
known_is_below p nodes last (Err e) least h is plan valid = absurd is
