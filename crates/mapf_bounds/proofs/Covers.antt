-- Nodes that cover all solutions.
use Rattle.std.proofs.Common.{◌≡◌, ◌⊎◌, ℕ, ◌≤◌, List, [], ◌∷◌, ◌++◌, map, length, Option, inl, inr, subst, sym, refl, ap, ◌∙◌, ⊎_elim, arith, Contains}
use Rattle.mapf_grid.specs.Least.{Precedes}
use Rattle.std.proofs.lemmas.Bool.{cases_lt}
use Rattle.mapf_grid.proofs.Ranks.{le_before, first_le}
use Rattle.mapf_plan.specs.Plan.{HasNoConflict, plan_cost}
use Rattle.mapf_tree.specs.declared.tree.key.Key.{Key}
use Rattle.mapf_tree.specs.declared.tree.side.Side.{Side}
use Rattle.mapf_tree.specs.Names.{turn}
use Rattle.mapf_tree.specs.Problem.{Problem}
use Rattle.mapf_tree.specs.Tree.{TreeNode, PlannedNode, HasPlan, InTree, root, side, side_of, root_of, rank, key, key_rank, IsMember, IsSolution, IsFirstSolution}
use Rattle.mapf_tree.specs.Search.{IsReached, IsChild, IsWaiting}
use Rattle.mapf_bounds.specs.Below.{IsBelow, itself, child, CoversUpTo, IsEnough}
use Rattle.mapf_bounds.specs.Waiting.{IsBoundKey}
use Rattle.mapf_bounds.specs.Laws.{WaitingCover, StillCovers, ValidPlanIsEnough, LeastIsFirst}
use Rattle.mapf_tree.proofs.high_level.SearchLaws.{dec_reached}
use Rattle.mapf_tree.proofs.solutions.Descent.{cheaper_solution}
use Rattle.mapf_plan.specs.declared.answer.Answer.{Answer}
use Rattle.mapf_plan.specs.declared.answer.Answer.TheVariants as answer
use Rattle.mapf_tree.specs.LowerBound.{IsBelowAll}
use Rattle.mapf_optimum.specs.AnyAnswer.{IsAnyAnswerUpTo}
use Rattle.mapf_bounds.proofs.Subtrees.{first_step, name_below}

-- a name doesn't precede what it begins with
prefix_first : (name more : List Side) → ¬ Precedes (map turn (name ++ more)) (map turn name)
prefix_first [] [] h = h
prefix_first [] (s ∷ more) h = h
prefix_first (s ∷ name) more (inl l) = omega (arith, l)
prefix_first (s ∷ name) more (inr h) = prefix_first name more h.1

-- a key doesn't precede a bound of it, under a name that its own begins with
bound_first : (a b c d : ℕ) (name more : List Side) → a ≤ c → (c ≡ a → b ≤ d) → ¬ Precedes (rank c d (name ++ more)) (rank a b name)
bound_first a b c d name more costs depths (inl l) = omega (arith, costs, l)
bound_first a b c d name more costs depths (inr (e, inl l)) = omega (arith, depths e, l)
bound_first a b c d name more costs depths (inr (e, inr (f, h))) = prefix_first name more h

-- a solution at or below a node doesn't come before the node's key by a bound
pub key_first : (problem : Problem) (k : Key) (m s : PlannedNode) → IsBoundKey problem k m → IsSolution problem s → IsBelow problem m s → ¬ Precedes (key s) (key_rank k)
key_first problem k m s is solution below =
    let w = name_below problem m s below in
    let begins : s.0.name ≡ k.name ++ w.0 = w.1 ∙ ap (λ name. name ++ w.0) (sym is.name) in
    subst (λ name. ¬ Precedes (rank (plan_cost s.1) (length s.0.name) name) (key_rank k)) (sym begins)
    (bound_first k.cost k.depth (plan_cost s.1) (length s.0.name) k.name w.0 (is.bounded.cost s solution below) (is.bounded.depth s solution below))

-- what comes first costs no more
costs_less : (s x : PlannedNode) → Precedes (key s) (key x) → plan_cost s.1 ≤ plan_cost x.1
costs_less s x (inl l) = omega (arith, l)
costs_less s x (inr h) = omega (arith, h.0)

-- each solution that costs at most so much is at or below a node with a key by bounds that doesn't come before this one
abbrev pub AreBehind : Problem → ℕ → Key → Type 0
AreBehind problem most k =
    (s : PlannedNode) → IsSolution problem s → plan_cost s.1 ≤ most → (l : Key) × (m : PlannedNode) × IsBoundKey problem l m × IsBelow problem m s × (¬ Precedes (key_rank l) (key_rank k))

-- so it doesn't come before this one either
pub none_first : (problem : Problem) (most : ℕ) (k : Key) → AreBehind problem most k → (s : PlannedNode) → IsSolution problem s → plan_cost s.1 ≤ most → ¬ Precedes (key s) (key_rank k)
none_first problem most k covered s solution within before =
    let w = covered s solution within in
    w.4 (le_before (key_rank w.0) (key s) (key_rank k) (key_first problem w.0 w.1 s w.2 solution w.3) before)

-- and costs no less
pub none_cheaper : (problem : Problem) (most : ℕ) (k : Key) → AreBehind problem most k → (s : PlannedNode) → IsSolution problem s → plan_cost s.1 ≤ most → k.cost ≤ plan_cost s.1
none_cheaper problem most k covered s solution within =
    first_le k.cost (plan_cost s.1) (k.depth ∷ map turn k.name) (length s.0.name ∷ map turn s.0.name) (none_first problem most k covered s solution within)

-- the node of a key that no key by bounds comes before is the first solution
pub first_taken : (problem : Problem) (most : ℕ) (k : Key) (x : PlannedNode) → IsMember problem x → IsBoundKey problem k x → HasNoConflict problem.rule x.1 → IsEnough problem most → AreBehind problem most k → IsFirstSolution problem x
first_taken problem most k x member is none enough covered = record { member = solution; least = least }
  where
    solution : IsSolution problem x
    solution = record { planned = member; no_conflict = none }

    cost_of : k.cost ≡ plan_cost x.1
    cost_of = let e : key_rank k ≡ key x = is.exact none in cc

    least : (s : PlannedNode) → IsSolution problem s → ¬ Precedes (key s) (key x)
    least s found before =
        ⊎_elim
        (λ over. let t = enough x solution in omega (arith, over, costs_less s x before, cost_of, none_cheaper problem most k covered t.0 t.1 t.2, t.2))
        (λ within. none_first problem most k covered s found within (subst (Precedes (key s)) (sym (is.exact none)) before))
        (cases_lt most (plan_cost s.1))

-- as the law says it
pub least_is_first : LeastIsFirst
least_is_first problem most waiting keyed covers enough = (
  (λ x least none. let k = keyed x least.member in
      first_taken problem most x.0 x.1 k.0 k.1 none enough
      (λ s solution within. let w = covers s solution within in
      let has = keyed (w.1.0, w.0) w.1.1 in
      (w.1.0, w.0, has.1, w.2, least.least (w.1.0, w.0) w.1.1))),
  (λ empty s solution. let t = enough s solution in
      let w = covers t.0 t.1 t.2 in empty (w.1.0, w.0) w.1.1),
)

-- what isn't reached is at or below one that waits
from_waiting : (problem : Problem) (last : Option (List ℕ)) (p : TreeNode) (plan : List (List ℕ)) → InTree problem p → HasPlan problem p plan → ¬ IsReached last (p, plan) → (m : PlannedNode) × IsWaiting problem last m × IsBelow problem m (p, plan)
from_waiting problem last _ plan (root h) has n =
    ((root_of problem, plan), record { member = record { inside = root h; plan = has }; open_yet = n; from = inl refl }, itself)
from_waiting problem last _ plan (side {node = p} {plan = a} {c = c} s i h f k) has n = go (from_waiting problem last p a i h) (dec_reached problem last (p, a))
  where
    member : IsMember problem (side_of p c s, plan)
    member = record { inside = side s i h f k; plan = has }

    is : IsChild problem (p, a) (side_of p c s, plan)
    is = record { conflict = c; turn = s; first = f; is = refl }

    go : (¬ IsReached last (p, a) → (m : PlannedNode) × IsWaiting problem last m × IsBelow problem m (p, a)) → Dec (IsReached last (p, a)) → (m : PlannedNode) × IsWaiting problem last m × IsBelow problem m (side_of p c s, plan)
    go up (yes r) = ((side_of p c s, plan), record { member = member; open_yet = n; from = inr ((p, a), record { inside = i; plan = h }, r, is) }, itself)
    go up (no r) = let w = up r in (w.0, w.1, child w.2 member is)

pub waiting_cover : WaitingCover
waiting_cover problem most last none s solution within =
    from_waiting problem last s.0 s.1 solution.planned.inside solution.planned.plan (λ r. none s solution.planned r solution.no_conflict)

-- what a valid plan costs is enough
pub valid_plan_is_enough : ValidPlanIsEnough
valid_plan_is_enough problem plan valid within s solution = cheaper_solution problem plan valid within

-- so is what an optimum costs, and no valid plan costs less
pub optimum_is_range : (problem : Problem) (limit : Option ℕ) (given : Answer) (plan : List (List ℕ)) (stated : ℕ) → given ≡ answer.Plan plan stated → IsAnyAnswerUpTo limit problem given → IsBelowAll problem stated × IsEnough problem stated
optimum_is_range problem limit given plan stated is any = go (subst (IsAnyAnswerUpTo limit problem) is any)
  where
    go : IsAnyAnswerUpTo limit problem (answer.Plan plan stated) → IsBelowAll problem stated × IsEnough problem stated
    go (optimum, cost) = (
      (λ other valid. omega (arith, cost, optimum.least other valid)),
      (λ s solution. let t = cheaper_solution problem plan optimum.valid optimum.within in (t.0, t.1, omega (arith, t.2, cost))),
    )

module _ (problem : Problem) (most : ℕ) (Old New : PlannedNode → Type 0) (x : PlannedNode) (conflict : ¬ HasNoConflict problem.rule x.1)
    (kept : (m : PlannedNode) → Old m → (m ≡ x) ⊎ New m) (children : (c s : PlannedNode) → IsMember problem c → IsChild problem x c → IsSolution problem s → plan_cost s.1 ≤ most → IsBelow problem c s → New c) where
  -- a node with a conflict leaves, and its children with solutions come
  pub expanded_covers : CoversUpTo problem most Old → CoversUpTo problem most New
  expanded_covers covers s solution within = let w = covers s solution within in ⊎_elim (under w) (λ n. (w.0, n, w.2)) (kept w.0 w.1)
    where
      in_child : IsBelow problem x s → (m : PlannedNode) × New m × IsBelow problem m s
      in_child below =
          ⊎_elim (λ e. absurd (conflict (subst (λ m. HasNoConflict problem.rule m.1) e solution.no_conflict)))
          (λ c. (c.0, children c.0 s c.1 c.2 solution within c.3, c.3)) (first_step problem x s below)

      under : (w : (m : PlannedNode) × Old m × IsBelow problem m s) → w.0 ≡ x → (m : PlannedNode) × New m × IsBelow problem m s
      under w e = in_child (subst (λ m. IsBelow problem m s) e w.2)

pub still_covers : StillCovers
still_covers problem most old new x covers conflict kept children = expanded_covers problem most (Contains old) (Contains new) x conflict kept children covers
