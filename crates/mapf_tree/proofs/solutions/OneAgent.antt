-- The answer for one agent.
use Rattle.mapf_tree.proofs.Prelude.{◌≡◌, ℕ, zero, suc, ◌<◌, List, [], ◌∷◌, length, subst, sym, refl, ◌∙◌, arith, Some, None, sum_by-cons, irreflexive}
use Rattle.mapf_tree.specs.Prelude.{Precedes, cost, Rule, HasNoConflict, path_of, Problem, IsAllowedFor, IsOwnPathOf, TreeNode, HasPlan, InTree, root, side, root_of, constraints_of, key, IsSolution, IsAnswer, OneAgentsAnswer}
use Rattle.mapf_plan.specs.declared.conflict.Conflict.TheVariants.{Vertex, Swapping, Following}
use Rattle.mapf_tree.proofs.Plans.{same_plan}
use Rattle.mapf_tree.proofs.RootNodes.{free_at_root}

-- a conflict is of two agents
no_conflict : (rule : Rule) (plan : List (List ℕ)) → length plan ≡ 1 → HasNoConflict rule plan
no_conflict rule plan one (Vertex t i j v) h = omega (arith, one, h.0, h.1)
no_conflict rule plan one (Swapping t i j u v) h = omega (arith, one, h.0, h.1)
no_conflict rule plan one (Following t i j v) h = omega (arith, one, h.1, h.2, h.3)

-- so no node of the tree has a side
only_root : (problem : Problem) → length problem.inst.starts ≡ 1 → (node : TreeNode) → InTree problem node → node ≡ root_of problem
only_root problem one _ (root has) = refl
only_root problem one _ (side {plan = plan} {c = c} s inside has first has') = absurd (no_conflict problem.rule plan (has.agents ∙ one) c first.member)

module _ (problem : Problem) (one : length problem.inst.starts ≡ 1) where
  -- the root's plan is the agent's own path
  root_plan : (p : List ℕ) → IsOwnPathOf problem 0 [] p → HasPlan problem (root_of problem) (p ∷ [])
  root_plan p own = record { agents = sym one; own = λ i h. at_agent i h; within = omega (arith, sum_by-cons cost p [], own.member.within) }
    where
      at_agent : (i : ℕ) → i < length problem.inst.starts → IsOwnPathOf problem i (constraints_of (root_of problem) i) (path_of (p ∷ []) i)
      at_agent zero h = subst (λ cs. IsOwnPathOf problem 0 cs p) (sym (free_at_root problem 0 h)) own
      at_agent (suc i) h = absurd (omega (arith, h, one))

  -- it is the only solution
  answer : (p : List ℕ) → IsOwnPathOf problem 0 [] p → IsAnswer problem (Some (p ∷ []))
  answer p own = (
    root_of problem,
    record {
      member = record { planned = record { inside = root has; plan = has }; no_conflict = no_conflict problem.rule (p ∷ []) refl };
      least = λ other s. not_before other s (only_root problem one other.0 s.planned.inside);
    },
  )
    where
      has : HasPlan problem (root_of problem) (p ∷ [])
      has = root_plan p own

      not_before : (other : TreeNode × List (List ℕ)) → IsSolution problem other → other.0 ≡ root_of problem → ¬ Precedes (key other) (key (root_of problem, p ∷ []))
      not_before other s e =
          let plans : other.1 ≡ p ∷ [] = same_plan problem (root_of problem) other.1 (p ∷ []) (subst (λ x. HasPlan problem x other.1) e s.planned.plan) (root_plan p own) in
          let same : other ≡ (root_of problem, p ∷ []) = λ i. (e i, plans i) in
          subst (λ x. ¬ Precedes (key x) (key (root_of problem, p ∷ []))) (sym same) (irreflexive (key (root_of problem, p ∷ [])))

  -- the path of a solution is one that the agent may take
  no_answer : ((p : List ℕ) → ¬ IsAllowedFor problem 0 [] p) → IsAnswer problem None
  no_answer none found s = none (path_of found.1 0) (subst (λ cs. IsAllowedFor problem 0 cs (path_of found.1 0)) (free_at_root problem 0 first) (has.own 0 first).member)
    where
      first : 0 < length problem.inst.starts
      first = omega (arith, one)

      has : HasPlan problem (root_of problem) found.1
      has = subst (λ x. HasPlan problem x found.1) (only_root problem one found.0 s.planned.inside) s.planned.plan

-- the only agent's own path is the answer's plan; if it may take no path, there is none
pub one_agents_answer : OneAgentsAnswer
one_agents_answer problem one = (answer problem one, no_answer problem one)
