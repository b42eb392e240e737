-- Some agents of a problem by themselves.
use Rattle.std.proofs.Common.{◌≡◌, ◌≢◌, ℕ, suc, ◌<◌, ◌≤◌, List, [], ◌∷◌, map, length, get_or, subst, sym, refl, ap, ap₂, ◌∙◌, ⊎_elim, arith}
use Rattle.std.proofs.lemmas.Bool.{cases_lt}
use Rattle.std.proofs.lemmas.List.{length-map, get_or-map}
use Rattle.mapf_tree.specs.Problem.{Problem}
use Rattle.mapf_low.specs.declared.constraint.Constraint.{Constraint}
use Rattle.mapf_plan.specs.Plan.{plan_cost}
use Rattle.mapf_optimum.specs.FreeTree.{IsGroup, IsGroupBound, IsLowerBoundOf}
use Rattle.mapf_optimum.specs.Groups.{part_of}

-- members of a group are a group
pub group_in_group : (n : ℕ) (all places members : List ℕ) → IsGroup n all → IsGroup (length all) places → members ≡ map (λ k. get_or all k 0) places → IsGroup n members
group_in_group n all places members is there same =
    subst (IsGroup n) (sym same) (record {
      inside = λ k h. let l : k < length places = omega (arith, h, size) in subst (λ i. i < n) (sym (at k l)) (is.inside (get_or places k 0) (there.inside k l));
      once = λ a b l h.
          let m : b < length places = omega (arith, h, size) in
          let o : a < length places = omega (arith, l, m) in
          λ e. differ (get_or places a 0) (get_or places b 0) (there.once a b l m) (there.inside a o) (there.inside b m) (sym (at a o) ∙ e ∙ at b m);
    })
  where
    size : length (map (λ k. get_or all k 0) places) ≡ length places
    size = length-map places (λ k. get_or all k 0)

    at : (k : ℕ) → k < length places → get_or (map (λ k. get_or all k 0) places) k 0 ≡ get_or all (get_or places k 0) 0
    at k h = get_or-map (λ k. get_or all k 0) places k 0 0 h

    differ : (i j : ℕ) → i ≢ j → i < length all → j < length all → get_or all i 0 ≡ get_or all j 0 → ⊥
    differ i j ne k l e =
        ⊎_elim (λ h. is.once i j h l e) (λ h. ⊎_elim (λ m. is.once j i m k (sym e)) (λ m. ne (omega (arith, h, m))) (cases_lt j i)) (cases_lt i j)

-- what is read of members is what is read of the group, at the members' places
read_again : (xs all : List ℕ) (places : List ℕ) → ((k : ℕ) → k < length places → get_or places k 0 < length all) →
    map (λ i. get_or xs i 0) (map (λ k. get_or all k 0) places) ≡ map (λ k. get_or (map (λ i. get_or xs i 0) all) k 0) places
read_again xs all [] inside = refl
read_again xs all (p ∷ ps) inside = ap₂ (λ y ys. y ∷ ys) (sym (get_or-map (λ i. get_or xs i 0) all p 0 0 (inside 0 (omega arith)))) (read_again xs all ps (λ k h. inside (suc k) (omega (arith, h))))

-- so a part of a part is a part
pub part_of_part : (problem : Problem) (all places members : List ℕ) → IsGroup (length all) places → members ≡ map (λ k. get_or all k 0) places →
    part_of problem members ≡ part_of (part_of problem all) places
part_of_part problem all places members there same =
    ap (λ m. part_of problem m) same
    ∙ ap₂ (λ (s g : List ℕ). record { inst = record { grid = problem.inst.grid; starts = s; goals = g }; bound = problem.bound; nodes = problem.nodes; rule = problem.rule })
    (read_again problem.inst.starts all places there.inside) (read_again problem.inst.goals all places there.inside)

-- a list that is read at all places is itself
read_all : {X : Type 0} (d : X) (xs : List X) (agents : List ℕ) → length agents ≡ length xs → ((i : ℕ) → i < length xs → get_or agents i 0 ≡ i) → map (λ i. get_or xs i d) agents ≡ xs
read_all {X} d xs agents long each = same_read xs agents xs long (λ k h. ap (λ j. get_or xs j d) (each k (omega (arith, h, long))))
  where
    same_read : (xs : List X) (agents : List ℕ) (ys : List X) → length agents ≡ length ys → ((k : ℕ) → k < length agents → get_or xs (get_or agents k 0) d ≡ get_or ys k d) → map (λ i. get_or xs i d) agents ≡ ys
    same_read xs [] [] long each = refl
    same_read xs [] (y ∷ ys) long each = absurd (omega (arith, long))
    same_read xs (a ∷ is) [] long each = absurd (omega (arith, long))
    same_read xs (a ∷ is) (y ∷ ys) long each = ap₂ (λ z zs. z ∷ zs) (each 0 (omega arith)) (same_read xs is ys (omega (arith, long)) (λ k h. each (suc k) (omega (arith, h))))

-- so the part of all agents is the problem
pub whole_is : (problem : Problem) (agents : List ℕ) (n : ℕ) → length agents ≡ n → ((i : ℕ) → i < n → get_or agents i 0 ≡ i) → n ≡ length problem.inst.starts →
    length problem.inst.goals ≡ length problem.inst.starts → part_of problem agents ≡ problem
whole_is problem agents n long each count goals =
    ap₂ (λ (s g : List ℕ). record { inst = record { grid = problem.inst.grid; starts = s; goals = g }; bound = problem.bound; nodes = problem.nodes; rule = problem.rule })
    (read_all 0 problem.inst.starts agents (long ∙ count) (λ i h. each i (omega (arith, h, count))))
    (read_all 0 problem.inst.goals agents (long ∙ count ∙ sym goals) (λ i h. each i (omega (arith, h, count, goals))))

-- what each candidate costs at least, all agents' paths do
pub whole_bound : (problem : Problem) (sets : List (List Constraint)) (agents : List ℕ) (least : ℕ) → length agents ≡ length problem.inst.starts → ((i : ℕ) → i < length problem.inst.starts → get_or agents i 0 ≡ i) →
    IsLowerBoundOf problem sets least → IsGroupBound problem sets agents least
whole_bound problem sets agents least long each below = record {
  group = record {
    inside = λ k h. subst (λ i. i < length problem.inst.starts) (sym (each k (omega (arith, h, long)))) (omega (arith, h, long));
    once = λ a b l h e. let same : a ≡ b = sym (each a (omega (arith, l, h, long))) ∙ e ∙ each b (omega (arith, h, long)) in omega (arith, l, same);
  };
  below = λ plan candidate.
      let size = candidate.valid.agents in
      subst (λ p. least ≤ plan_cost p) (sym (read_all [] plan agents (long ∙ sym size) (λ i h. each i (omega (arith, h, size))))) (below plan candidate);
}
