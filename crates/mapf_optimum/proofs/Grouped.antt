-- Nodes of which more groups are known.
use Rattle.std.proofs.Common.{◌≡◌, List, [], ◌∷◌, ◌++◌, subst, sym, ⊎_elim, Contains}
use Rattle.std.proofs.lemmas.List.Elements.{Contains-push_cases}
use Rattle.mapf_low.specs.declared.constraint.Constraint.{Constraint}
use Rattle.mapf_tree.specs.Problem.{Problem}
use Rattle.mapf_optimum.specs.declared.group_bound.GroupBound.{GroupBound}
use Rattle.mapf_optimum.specs.FreeTree.{FreeNode, AreGroupBounds, IsGroupBound}
use Rattle.mapf_optimum.specs.FreeSearch.{IsSame}
use Rattle.mapf_optimum.specs.Groups.{AreOf}
use Rattle.mapf_optimum.proofs.Fresh.{knowing_is}
use Rattle.mapf_optimum.proofs.Sides.{bounds_stay}

-- what is known of groups, and of one more
pub bounds_with : (problem : Problem) (sets : List (List Constraint)) (groups kept new : List GroupBound) (one : GroupBound) → AreGroupBounds problem sets groups → AreOf groups kept → new ≡ kept ++ one ∷ [] → IsGroupBound problem sets one.agents.items one.least →
    AreGroupBounds problem sets new
bounds_with problem sets groups kept new one all of same is g i =
    ⊎_elim (λ h. bounds_stay problem sets sets groups kept (λ plan k. k) all of g h) (λ e. subst (λ (k : GroupBound). IsGroupBound problem sets k.agents.items k.least) e is)
    (Contains-push_cases kept one g (subst (λ xs. Contains xs g) same i))

-- a node of which it is known
pub grouped_is : (problem : Problem) (old node : FreeNode) (groups : List GroupBound) → IsSame problem old node → AreGroupBounds problem old.sets groups → IsSame problem old (record node { groups = groups })
grouped_is problem old node groups same bounds = (knowing_is problem node groups same.0 (subst (λ l. AreGroupBounds problem l groups) (sym same.1) bounds), same.1)
