-- Groups without a common agent that are chosen one after the other, whose agents are marked.
use Rattle.std.proofs.Common.{◌≡◌, ◌≢◌, ℕ, ◌+◌, ◌-◌, ◌<◌, ◌≤◌, Bool, true, false, true≢false, List, [], ◌∷◌, ◌++◌, length, get_or, set, get_or-set_same, get_or-set_other, subst, sym, ap, ◌∙◌, ⊎_elim, arith, Contains, length-set}
use native.Mathlib.Decide.{ℕ_discrete}
use Rattle.std.proofs.Math.ListN.{get_or-append}
use Rattle.std.proofs.Math.Seq.{get_or-append_right}
use Rattle.std.proofs.lemmas.Bool.{cases_lt}
use Rattle.std.proofs.lemmas.List.{length-append}
use Rattle.std.proofs.lemmas.List.Elements.{Contains-append_cases, Contains-get_or, Contains-push_cases}
use Rattle.std.proofs.lemmas.List.Sums.{sum_by-cons}
use Rattle.mapf_grid.specs.Instance.{IsDistinct}
use Rattle.mapf_grid.proofs.Decide.{by_cases}
use Rattle.mapf_grid.proofs.Members.{nowhere, here_or_there}
use Rattle.mapf_plan.specs.Path.{cost}
use Rattle.mapf_plan.specs.Plan.{path_of}
use Rattle.mapf_low.specs.declared.constraint.Constraint.{Constraint}
use Rattle.mapf_tree.specs.Problem.{Problem}
use Rattle.mapf_optimum.specs.declared.group_bound.GroupBound.{GroupBound}
use Rattle.mapf_optimum.specs.FreeTree.{FreeNode, AreGroupBounds, AreLeastCosts, IsFreeNode, IsGroup, IsGroupBound, IsLowerBoundOf}
use Rattle.mapf_optimum.specs.Groups.{AreChosen, AreGroups, AreOf, Group, IsBoundBy, Takes, all_agents}
use Rattle.mapf_optimum.proofs.GroupLaws.{groups_add}
use Rattle.mapf_optimum.proofs.LeastPaths.{pays_cost}

-- a mark that is set
set_there : (marks : List Bool) (a i : ℕ) → a < length marks → a ≡ i → get_or (set marks a true) i false ≡ true
set_there marks a i l e = subst (λ j. get_or (set marks a true) j false ≡ true) e (get_or-set_same marks a true false l)

-- and all others stay
set_stays : (marks : List Bool) (a i : ℕ) → a < length marks → get_or marks i false ≡ true → get_or (set marks a true) i false ≡ true
set_stays marks a i l is =
    by_cases (ℕ_discrete a i) (λ e. set_there marks a i l e) (λ n. get_or-set_other marks a i true false (λ e. n (sym e)) ∙ is)

-- two groups without a common agent are a group
module _ (n : ℕ) (first rest : List ℕ) (one : IsGroup n first) (other : IsGroup n rest) (apart : (a b : ℕ) → a < length first → b < length rest → get_or first a 0 ≢ get_or rest b 0) where
  long : length (first ++ rest) ≡ length first + length rest
  long = length-append first rest

  in_first : (i : ℕ) → i < length first → get_or (first ++ rest) i 0 ≡ get_or first i 0
  in_first i h = get_or-append first rest 0 i h

  in_rest : (i : ℕ) → length first ≤ i → get_or (first ++ rest) i 0 ≡ get_or rest (i - length first) 0
  in_rest i h = get_or-append_right first rest i 0 h

  both_inside : (k : ℕ) → k < length (first ++ rest) → get_or (first ++ rest) k 0 < n
  both_inside k h =
      ⊎_elim (λ l. subst (λ i. i < n) (sym (in_first k l)) (one.inside k l))
      (λ l. subst (λ i. i < n) (sym (in_rest k l)) (other.inside (k - length first) (omega (arith, h, long, l)))) (cases_lt k (length first))

  both_once : IsDistinct (first ++ rest)
  both_once a b l h e =
      ⊎_elim (λ m. one.once a b l m (sym (in_first a (omega (arith, l, m))) ∙ e ∙ in_first b m))
      (λ m. ⊎_elim (λ o. apart a (b - length first) o (omega (arith, h, long, m)) (sym (in_first a o) ∙ e ∙ in_rest b m))
      (λ o. other.once (a - length first) (b - length first) (omega (arith, l, o)) (omega (arith, h, long, m)) (sym (in_rest a o) ∙ e ∙ in_rest b m)) (cases_lt a (length first)))
      (cases_lt b (length first))

  both_group : IsGroup n (first ++ rest)
  both_group = record { inside = both_inside; once = both_once }

-- what is a bound of a group wherever least paths and the groups cost so much
abbrev pub IsBoundOf : List ℕ → List GroupBound → List ℕ → ℕ → Type 0
IsBoundOf costs groups agents least =
    (problem : Problem) (sets : List (List Constraint)) → AreLeastCosts problem sets costs → AreGroupBounds problem sets groups → IsGroupBound problem sets agents least

-- one more is chosen
pub chosen_more : (costs : List ℕ) (groups : List GroupBound) (old new : List Bool) (sum next : ℕ) (agents : List ℕ) (least : ℕ) → AreChosen costs groups old sum →
    IsGroup (length costs) agents → IsBoundOf costs groups agents least → Takes agents old new → next ≤ sum + least → AreChosen costs groups new next
chosen_more costs groups old new sum next agents least are group bound takes few = record {
  chosen = record { agents = agents; least = least } ∷ are.chosen;
  long = takes.same ∙ are.long;
  apart = both_group (length costs) agents (all_agents are.chosen) group are.apart no_common;
  bounds = λ problem sets c g. (bound problem sets c g, are.bounds problem sets c g);
  marked = λ i has. ⊎_elim (λ c. takes.marked i c) (λ c. takes.stays i (are.marked i c)) (Contains-append_cases agents (all_agents are.chosen) i has);
  sums = omega (arith, few, are.sums, sum_by-cons (λ (g : Group). g.least) (record { agents = agents; least = least }) are.chosen);
}
  where
    no_common : (a b : ℕ) → a < length agents → b < length (all_agents are.chosen) → get_or agents a 0 ≢ get_or (all_agents are.chosen) b 0
    no_common a b h l e =
        true≢false
        (sym (are.marked (get_or (all_agents are.chosen) b 0) (Contains-get_or (all_agents are.chosen) b 0 l)) ∙ ap (λ i. get_or old i false) (sym e)
        ∙ takes.free (get_or agents a 0) (Contains-get_or agents a 0 h))

-- none is chosen
pub none_chosen : (costs : List ℕ) (groups : List GroupBound) (taken : List Bool) → length taken ≡ length costs → AreChosen costs groups taken 0
none_chosen costs groups taken long = record {
  chosen = [];
  long = long;
  apart = record { inside = λ k h. absurd (omega (arith, h)); once = λ a b l h. absurd (omega (arith, h)) };
  bounds = λ problem sets c g. tt;
  marked = λ i has. absurd (nowhere has);
  sums = omega arith;
}

-- an agent by itself is a group
alone_group : (n agent : ℕ) → agent < n → IsGroup n (agent ∷ [])
alone_group n agent inside = record {
  inside = λ k h. let e : 0 ≡ k = omega (arith, h) in subst (λ j. get_or (agent ∷ []) j 0 < n) e inside;
  once = λ a b l h. absurd (omega (arith, l, h));
}

-- and costs at least its least cost
single_bound : (problem : Problem) (sets : List (List Constraint)) (costs : List ℕ) (agent : ℕ) → AreLeastCosts problem sets costs → agent < length costs → IsGroupBound problem sets (agent ∷ []) (get_or costs agent 0)
single_bound problem sets costs agent are inside =
    let h : agent < length problem.inst.starts = omega (arith, inside, are.agents) in record {
      group = alone_group (length problem.inst.starts) agent h;
      below = λ plan candidate. omega (arith, sum_by-cons cost (path_of plan agent) [], pays_cost problem sets costs are plan candidate agent h);
    }

-- and is chosen
pub chosen_alone : (costs : List ℕ) (groups : List GroupBound) (old : List Bool) (sum next agent least : ℕ) → AreChosen costs groups old sum → agent < length costs →
    get_or old agent false ≡ false → least ≡ get_or costs agent 0 → next ≤ sum + least → AreChosen costs groups (set old agent true) next
chosen_alone costs groups old sum next agent least are inside free same few =
    let l : agent < length old = omega (arith, inside, are.long) in
    chosen_more costs groups old (set old agent true) sum next (agent ∷ []) (get_or costs agent 0) are (alone_group (length costs) agent inside)
    (λ problem sets c g. single_bound problem sets costs agent c inside)
    (record {
      same = length-set old agent true;
      free = λ i has. ⊎_elim (λ e. subst (λ j. get_or old j false ≡ false) e free) (λ c. absurd (nowhere c)) (here_or_there [] has);
      marked = λ i has. ⊎_elim (λ e. set_there old agent i l e) (λ c. absurd (nowhere c)) (here_or_there [] has);
      stays = λ i is. set_stays old agent i l is;
    })
    (omega (arith, few, same))

-- one of the groups
pub one_of : (groups : List GroupBound) (i : ℕ) (g : GroupBound) → i < length groups → g ≡ get_or groups i g → Contains groups g
one_of groups i g l is = (i, l, sym is)

-- what the chosen ones cost at least comes to a lower bound
pub chosen_below : (costs : List ℕ) (groups : List GroupBound) (marks : List Bool) (sum : ℕ) → AreChosen costs groups marks sum → IsBoundBy costs groups sum
chosen_below costs groups marks sum are problem sets c g plan candidate =
    omega (arith, are.sums, groups_add problem sets are.chosen (subst (λ n. IsGroup n (all_agents are.chosen)) c.agents are.apart) (are.bounds problem sets c g) plan candidate)

-- so it is one of a node
pub bound_of_node : (problem : Problem) (node : FreeNode) (least : ℕ) → IsFreeNode problem node → IsBoundBy node.costs node.groups least → IsLowerBoundOf problem node.sets least
bound_of_node problem node least is bound = bound problem node.sets is.costs is.groups

-- whose groups are of its agents
pub groups_of_node : (problem : Problem) (node : FreeNode) → IsFreeNode problem node → AreGroups (length node.costs) node.groups
groups_of_node problem node is g i = subst (λ n. IsGroup n g.agents.items) (sym is.costs.agents) (is.groups g i).group

-- one more of the groups is kept
pub one_more_of : (old new : List GroupBound) (x k : GroupBound) → AreOf old new → Contains old k → k.agents.items ≡ x.agents.items → k.least ≡ x.least → AreOf old (new ++ x ∷ [])
one_more_of old new x k are has agents least g i =
    ⊎_elim (λ c. are g c)
    (λ e. (k, has, agents ∙ ap (λ (y : GroupBound). y.agents.items) e, least ∙ ap (λ (y : GroupBound). y.least) e))
    (Contains-push_cases new x g i)
