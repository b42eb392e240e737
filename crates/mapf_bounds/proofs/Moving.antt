-- A search by bounds takes over from one by keys.
use Rattle.std.proofs.Common.{◌≡◌, ◌⊎◌, ℕ, ◌≤◌, List, [], ◌∷◌, None, Ok, inl, inr, subst, sym, refl, ⊎_elim, max, length, Contains}
use Rattle.mapf_grid.proofs.Members.{nowhere, here, there, here_or_there}
use Rattle.mapf_plan.specs.Plan.{plan_cost}
use Rattle.mapf_tree.specs.declared.tree.key.Key.{Key}
use Rattle.mapf_tree.specs.LowerBound.{IsBelowAll}
use Rattle.mapf_tree.specs.Problem.{Problem}
use Rattle.mapf_tree.specs.Tree.{PlannedNode, IsSolution}
use Rattle.mapf_tree.specs.Nodes.{Node, StandsFor, HasNodeFor}
use Rattle.mapf_tree.specs.Search.{Searched, IsSearch, IsLawful, IsTakenTo, NoneSolves}
use Rattle.mapf_bounds.specs.declared.lower_bound.LowerBound.{LowerBound}
use Rattle.mapf_bounds.specs.Below.{IsBelow}
use Rattle.mapf_bounds.specs.Bounds.{IsOfTree}
use Rattle.mapf_bounds.specs.Groups.{AreKnownAt}
use Rattle.mapf_bounds.specs.Waiting.{WaitingNode, IsKeyOf, HasEntryFor, IsAdmittedOwn, IsCovering, IsMoving, bound_key}
use Rattle.mapf_bounds.proofs.Subtrees.{least_key_of}
use Rattle.mapf_bounds.proofs.Covers.{waiting_cover}
use Rattle.mapf_bounds.proofs.Entries.{admitted_keyed, admitted_keeps, admitted_puts}

-- at first all wait by their keys
pub moves_first : (most : ℕ) (s : Searched) (open_yet : List Node) → IsSearch s → s.outcome ≡ Ok None → open_yet ≡ s.waiting → IsMoving s.problem most open_yet []
moves_first most s open_yet is none all =
    subst (λ nodes. IsMoving s.problem most nodes []) (sym all) (go (subst (λ o. IsLawful s.problem s.waiting s.last o) none is))
  where
    go : IsTakenTo s.problem s.last s.waiting × NoneSolves s.problem s.last → IsMoving s.problem most s.waiting []
    go (taken, unsolved) = record {
      stand = taken.stand;
      keyed = record { stand = λ e c. absurd (nowhere c); keys = λ e c. absurd (nowhere c); groups = λ e c. absurd (nowhere c) };
      covers = λ t solution within. let w = waiting_cover s.problem most s.last unsolved t solution within in (w.0, inl ((taken.waits w.0).1 w.1), w.2);
    }

-- once none waits by its key, all are covered
pub moved_all : (problem : Problem) (most : ℕ) (open_yet : List Node) (waiting : List (Key × WaitingNode)) → open_yet ≡ [] → IsMoving problem most open_yet waiting → IsCovering problem most waiting
moved_all problem most open_yet waiting none moving = record {
  keyed = moving.keyed;
  covers = λ s solution within.
      let v = moving.covers s solution within in
      (v.0, ⊎_elim (λ has. absurd (nowhere (subst (λ nodes. Contains nodes has.0) none has.1))) (λ e. e) v.1, v.2);
}

module _ (problem : Problem) (most least : ℕ) (below_all : IsBelowAll problem least) (old new : List Node) (n : Node) (before after : List (Key × WaitingNode)) (moving : IsMoving problem most old before) (is : old ≡ n ∷ new)
    (admitted : IsAdmittedOwn most least before n after) where
  b : LowerBound
  b = record { cost = max (plan_cost n.plan) least; depth = length n.name }

  -- the first is of the tree
  of : IsOfTree problem admitted.entry.node
  of = subst (IsOfTree problem) (sym admitted.is) (moving.stand n (subst (λ ns. Contains ns n) (sym is) (here new refl)))

  key_of : IsKeyOf problem (bound_key (record { cost = max (plan_cost n.plan) least; depth = length n.name }) admitted.entry.node.name) admitted.entry.node
  key_of = subst (λ k. IsKeyOf problem (bound_key (record { cost = max (plan_cost n.plan) least; depth = length n.name }) k.name) k) (sym admitted.is) (least_key_of problem n least below_all)

  known : AreKnownAt problem admitted.entry.node admitted.entry.groups
  known = subst (AreKnownAt problem admitted.entry.node) (sym admitted.unknown) (λ g c. absurd (nowhere c))

  -- one more waits by its bound
  pub moves_on : IsMoving problem most new after
  unfolding b
  moves_on = record {
    stand = λ k c. moving.stand k (subst (λ ns. Contains ns k) (sym is) (there new c));
    keyed = admitted_keyed problem most before after b admitted.entry moving.keyed of key_of known admitted.puts;
    covers = λ s solution within. let v = moving.covers s solution within in (v.0, ⊎_elim (from_open s solution within v.0 v.2) (λ e. inr (admitted_keeps problem most before after b admitted.entry moving.keyed of key_of known admitted.puts v.0 e)) v.1, v.2);
  }
    where
      from_open : (s : PlannedNode) → IsSolution problem s → plan_cost s.1 ≤ most → (m : PlannedNode) → IsBelow problem m s → HasNodeFor problem old m → HasNodeFor problem new m ⊎ HasEntryFor problem after m
      from_open s solution within m below has =
          ⊎_elim
          (λ e. inr (admitted_puts problem most before after (record { cost = max (plan_cost n.plan) least; depth = length n.name }) admitted.entry moving.keyed of key_of known admitted.puts m s
          (subst (λ k. StandsFor problem k m) (sym admitted.is) (subst (λ k. StandsFor problem k m) (sym e) has.2)) solution within below))
          (λ c. inl (has.0, c, has.2)) (here_or_there new (subst (λ ns. Contains ns has.0) is has.1))
