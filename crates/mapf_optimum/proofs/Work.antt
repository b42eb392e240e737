-- A search ends: each side forbids its agent something new, out of finitely many things.
use Rattle.std.proofs.Common.{◌≡◌, ℕ, Bool, true, false, zero, suc, ◌+◌, ◌<◌, ◌≤◌, List, [], ◌∷◌, ◌++◌, get_or, Option, Some, None, inl, inr, subst, sym, refl, ap₂, ap, ⊎_elim, arith, All, Contains}
use native.Mathlib.Decide.{ℕ_discrete}
use Rattle.std.specs.Option.{option_to_list}
use Rattle.std.specs.List.{sum_by}
use Rattle.std.proofs.lemmas.List.Elements.{All-contains}
use Rattle.std.proofs.lemmas.List.Sums.{sum_by-set, sum_by-append, sum_by-cons}
use Rattle.std.proofs.lemmas.List.Sorted.{sum_by-IsPermutation, sum_by_popped}
use Rattle.mapf_grid.proofs.Decide.{dec_map, dec_and, by_cases}
use Rattle.mapf_grid.proofs.Members.{nowhere, here, there, here_or_there}
use Rattle.mapf_plan.specs.declared.conflict.Conflict.{Conflict}
use Rattle.mapf_low.specs.declared.constraint.Constraint.{Constraint}
use Rattle.mapf_low.specs.declared.constraint.Constraint.TheVariants.{Vertex, Edge}
use Rattle.mapf_tree.specs.declared.tree.side.Side.{Side}
use Rattle.mapf_tree.specs.declared.tree.side.Side.TheVariants.{Left, Right}
use Rattle.mapf_tree.specs.Problem.{Problem}
use Rattle.mapf_tree.specs.Tree.{agent_on, constraint_on}
use Rattle.mapf_tree.proofs.finite.Universe.{universe, Contains-universe, cells_of, edges_of, holds_all}
use Rattle.mapf_tree.proofs.finite.Measure.{broken_is_new, conflict_fits}
use Rattle.mapf_optimum.specs.FreeTree.{FreeNode, unnamed, IsFreeNode, IsChoice}
use Rattle.mapf_optimum.specs.FreeSearch.{AreSideSets, IsSideOf, IsBounded, Expands, Bounds}
use Rattle.mapf_optimum.specs.Laws.{SearchEnds}
use Rattle.mapf_optimum.proofs.Sides.{agent_inside, in_sets}
use Rattle.mapf_optimum.proofs.Covering.{taken_was_there}

-- whether two constraints are one
dec_same : (a b : Constraint) → Dec (a ≡ b)
dec_same (Vertex c t) (Vertex d s) = dec_map (λ h. ap₂ (λ x y. Vertex x y) h.0 h.1) (λ e. (cc, cc)) (dec_and (ℕ_discrete c d) (ℕ_discrete t s))
dec_same (Vertex c t) (Edge u v s) = no (λ e. cc)
dec_same (Edge a b t) (Vertex d s) = no (λ e. cc)
dec_same (Edge a b t) (Edge u v s) = dec_map (λ h. cc) (λ e. (cc, (cc, cc))) (dec_and (ℕ_discrete a u) (dec_and (ℕ_discrete b v) (ℕ_discrete t s)))

-- whether a constraint is one of these
dec_contains : (xs : List Constraint) (k : Constraint) → Dec (Contains xs k)
dec_contains [] k = no nowhere
dec_contains (x ∷ xs) k =
    by_cases (dec_same x k) (λ e. yes (here xs e)) (λ n. dec_map (λ i. there xs i) (λ c. ⊎_elim (λ e. absurd (n e)) (λ i. i) (here_or_there xs c)) (dec_contains xs k))

-- 1 for what isn't so
abbrev lacks : {A : Type 0} → Dec A → ℕ
lacks (yes a) = 0
lacks (no n) = 1

lacks_le : {A B : Type 0} (d : Dec A) (e : Dec B) → (A → B) → lacks e ≤ lacks d
lacks_le (yes a) (yes b) f = omega arith
lacks_le (yes a) (no n) f = absurd (n (f a))
lacks_le (no m) (yes b) f = omega arith
lacks_le (no m) (no n) f = omega arith

lacks_lt : {A B : Type 0} (d : Dec A) (e : Dec B) → ¬ A → B → lacks e < lacks d
lacks_lt (yes a) e n b = absurd (n a)
lacks_lt (no m) (yes b') n b = omega arith
lacks_lt (no m) (no o) n b = absurd (o b)

-- how many of these constraints are not in a set
abbrev missing : (us xs : List Constraint) → ℕ
missing [] xs = 0
missing (u ∷ us) xs = lacks (dec_contains xs u) + missing us xs

missing_le : (us xs ys : List Constraint) → ((x : Constraint) → Contains xs x → Contains ys x) → missing us ys ≤ missing us xs
missing_le [] xs ys more = omega arith
missing_le (u ∷ us) xs ys more = omega (arith, lacks_le (dec_contains xs u) (dec_contains ys u) (more u), missing_le us xs ys more)

-- fewer where one of them is new
missing_lt : (us xs ys : List Constraint) (k : Constraint) → ((x : Constraint) → Contains xs x → Contains ys x) → Contains us k → ¬ Contains xs k → Contains ys k → missing us ys < missing us xs
missing_lt [] xs ys k more among lacked has = absurd (nowhere among)
missing_lt (u ∷ us) xs ys k more among lacked has =
    ⊎_elim (λ e. omega (arith, lacks_lt (dec_contains xs u) (dec_contains ys u) (λ c. lacked (subst (Contains xs) e c)) (subst (Contains ys) (sym e) has), missing_le us xs ys more))
    (λ i. omega (arith, lacks_le (dec_contains xs u) (dec_contains ys u) (more u), missing_lt us xs ys k more i lacked has)) (here_or_there us among)

-- as much as a bounded node and all below it take, each of which lacks fewer than its parent: an expansion, two labels, and both sides
abbrev weight : ℕ → ℕ
weight zero = 1
weight (suc n) = 3 + (weight n + weight n)

weight_some : (n : ℕ) → 0 < weight n
weight_some zero = omega arith
weight_some (suc n) = omega arith

weight_le : (m n : ℕ) → m ≤ n → weight m ≤ weight n
weight_le zero n h = omega (arith, weight_some n)
weight_le (suc m) zero h = absurd (omega (arith, h))
weight_le (suc m) (suc n) h = omega (arith, weight_le m n (omega (arith, h)))

weight_lt : (m n : ℕ) → m < n → 2 + (weight m + weight m) < weight n
weight_lt m zero h = absurd (omega (arith, h))
weight_lt m (suc n) h = omega (arith, weight_le m n (omega (arith, h)))

-- and one more, where the label is yet to be found
abbrev with_label : Bool → ℕ → ℕ
with_label true n = n
with_label false n = 1 + n

with_label_le : (b : Bool) (n : ℕ) → (n ≤ with_label b n) × (with_label b n ≤ 1 + n)
with_label_le true n = (omega arith, omega arith)
with_label_le false n = (omega arith, omega arith)

module _ (problem : Problem) where
  -- all constraints that a side can have
  all_constraints : List Constraint
  all_constraints = universe (cells_of problem.inst.grid) (edges_of problem.inst.grid) problem.bound

  -- how many constraints the agents lack
  lacking : List (List Constraint) → ℕ
  lacking sets = sum_by (λ cs. missing all_constraints cs) sets

  -- how many nodes may come of these
  pub work : List FreeNode → ℕ
  work waiting = sum_by (λ n. with_label n.is_bounded (weight (lacking n.sets))) waiting

  module _ (node : FreeNode) (c : Conflict) (s : Side) (is : IsFreeNode problem node) (choice : IsChoice problem node.plan c) where
    -- a side lacks fewer
    side_lacks_fewer : (new : List (List Constraint)) → AreSideSets node.sets c s new → lacking new < lacking node.sets
    unfolding lacking all_constraints
    side_lacks_fewer new are =
        let k : Constraint = constraint_on c s in
        let us : List Constraint = universe (cells_of problem.inst.grid) (edges_of problem.inst.grid) problem.bound in
        let fewer = missing_lt us (get_or node.sets (agent_on c s) []) are.0 k (λ x h. (are.2 x).1 (inr h))
        (Contains-universe problem.inst.grid (cells_of problem.inst.grid) (edges_of problem.inst.grid) problem.bound (holds_all problem.inst.grid) k (conflict_fits problem node.plan c s is.paths.agents (λ i h. (is.paths.each i h).path) choice.0 choice.1))
        (broken_is_new problem (unnamed node.sets) node.plan c s choice.0 (is.paths.each (agent_on c s) (agent_inside problem node c s is choice)).obeys) ((are.2 k).1 (inl refl)) in
        omega (arith, ap (sum_by (λ cs. missing us cs)) are.1, sum_by-set (λ cs. missing us cs) node.sets (agent_on c s) are.0 [] (in_sets problem node c s is choice), fewer)

    -- so two of them come to less
    side_work : (found : Option FreeNode) → IsSideOf problem node c s found → work (option_to_list found) + work (option_to_list found) < weight (lacking node.sets)
    unfolding work
    side_work None is_side = omega (arith, weight_some (lacking node.sets))
    side_work (Some child) is_side =
        omega (
          arith,
          sum_by-cons (λ n. with_label n.is_bounded (weight (lacking n.sets))) child [],
          (with_label_le child.is_bounded (weight (lacking child.sets))).1,
          weight_lt (lacking child.sets) (lacking node.sets) (side_lacks_fewer child.sets is_side.1),
        )

  -- an expansion leaves less
  pub expansion_works : (old new : List FreeNode) → All (IsFreeNode problem) old → Expands problem old new → work new < work old
  unfolding work
  expansion_works old new all e =
      let f : FreeNode → ℕ = λ n. with_label n.is_bounded (weight (lacking n.sets)) in
      let is = All-contains (IsFreeNode problem) old e.node all (taken_was_there old e.rest e.node e.taken) in
      omega (
        arith,
        sum_by-IsPermutation f (option_to_list e.sides.right ++ (option_to_list e.sides.left ++ e.rest)) new e.sides.put,
        sum_by-append f (option_to_list e.sides.right) (option_to_list e.sides.left ++ e.rest),
        sum_by-append f (option_to_list e.sides.left) e.rest,
        sum_by_popped f e.node old e.rest e.taken.0,
        (with_label_le e.node.is_bounded (weight (lacking e.node.sets))).0,
        side_work e.node e.conflict Left is e.choice e.sides.left e.sides.left_side,
        side_work e.node e.conflict Right is e.choice e.sides.right e.sides.right_side,
      )

  -- and so does a label that is found
  pub bounding_works : (old new : List FreeNode) → Bounds problem old new → work new < work old
  unfolding work
  bounding_works old new e =
      let f : FreeNode → ℕ = λ n. with_label n.is_bounded (weight (lacking n.sets)) in
      omega (arith, sum_by-IsPermutation f (option_to_list e.found ++ e.rest) new e.put, sum_by-append f (option_to_list e.found) e.rest, sum_by_popped f e.node old e.rest e.taken.0, there e.found e.bounded, here_more)
    where
      here_more : with_label e.node.is_bounded (weight (lacking e.node.sets)) ≡ 1 + weight (lacking e.node.sets)
      here_more = ap (λ b. with_label b (weight (lacking e.node.sets))) e.unbounded

      there : (found : Option FreeNode) → IsBounded problem e.node found → sum_by (λ n. with_label n.is_bounded (weight (lacking n.sets))) (option_to_list found) ≤ weight (lacking e.node.sets)
      there None none = omega arith
      there (Some n) is =
          omega (arith, sum_by-cons (λ n. with_label n.is_bounded (weight (lacking n.sets))) n [], ap (λ l. weight (lacking l)) is.0.1, ap (λ b. with_label b (weight (lacking n.sets))) is.1)

-- as the law says it
pub search_ends : SearchEnds
search_ends problem = (work problem, λ old new all step. ⊎_elim (λ e. expansion_works problem old new all e) (λ e. bounding_works problem old new e) step)
