-- The measure of a search by bounds: deeper nodes weigh less, and the two children of a node less than the node.
use Rattle.std.proofs.Common.{◌≡◌, ℕ, zero, suc, ◌+◌, ◌-◌, ◌*◌, ◌^◌, ◌<◌, ◌≤◌, List, [], ◌∷◌, length, Option, Some, None, Bool, true, false, IsSome, inl, inr, subst, sym, refl, ap, ◌∙◌, arith, length-append}
use Rattle.std.proofs.Math.Nat.{pow-succ'}
use Rattle.std.specs.BTreeMap.{insert_entry}
use Rattle.mapf_plan.specs.declared.conflict.Conflict.{Conflict}
use Rattle.mapf_tree.specs.declared.tree.key.Key.{Key}
use Rattle.mapf_tree.specs.declared.tree.side.Side.{Side}
use Rattle.mapf_tree.specs.declared.tree.side.Side.TheVariants.{Left, Right}
use Rattle.mapf_tree.specs.Problem.{Problem}
use Rattle.mapf_tree.specs.Tree.{PlannedNode}
use Rattle.mapf_tree.specs.Family.{IsSide}
use Rattle.mapf_tree.specs.Nodes.{Node, StandsFor}
use Rattle.mapf_optimum.specs.declared.group_bound.GroupBound.{GroupBound}
use Rattle.mapf_tree.proofs.finite.Measure.{most, depth_most, grown_all}
use Rattle.mapf_bounds.specs.declared.lower_bound.LowerBound.{LowerBound}
use Rattle.mapf_bounds.specs.Waiting.{WaitingNode, is_own, absent, present, key_cmp, key_bound, bound_key, IsAdmitted, IsAdmittedChild, Branches, Drops, GoesOn, Raises}
use Rattle.mapf_bounds.proofs.Entries.{Puts, added, replaced, later, puts}

-- a bound that is yet to be found weighs one
abbrev unknown_weight : Bool → ℕ
unknown_weight true = 0
unknown_weight false = 1

-- what a node weighs, where no name is longer than that
abbrev weight : ℕ → WaitingNode → ℕ
weight longest w = 2 * 4 ^ (longest - length w.node.name) + unknown_weight (is_own w.stage)

-- what all weigh
abbrev weight_of : ℕ → List (Key × WaitingNode) → ℕ
weight_of longest [] = 0
weight_of longest (e ∷ es) = weight longest e.1 + weight_of longest es

-- one that is put in adds no more than its weight
put_weight : (longest : ℕ) (k : Key) (w : WaitingNode) (es new : List (Key × WaitingNode)) → Puts k w es new → weight_of longest new ≤ weight_of longest es + weight longest w
put_weight longest k w es _ added = omega arith
put_weight longest k w _ _ (replaced {e = e} {es = es} same) = omega arith
put_weight longest k w _ _ (later {e = e} {es = es} {new = new} p) = omega (arith, put_weight longest k w es new p)

-- each power is above 0
some_weight : (k : ℕ) → 0 < 4 ^ k
some_weight zero = omega arith
some_weight (suc k) = omega (arith, some_weight k, pow-succ' 4 k)

module _ (problem : Problem) where
  -- what those that wait weigh
  pub total : List (Key × WaitingNode) → ℕ
  total es = weight_of (most problem) es

  -- what is put in
  admitted_weight : (most_cost : ℕ) (old new : List (Key × WaitingNode)) (b : LowerBound) (w : WaitingNode) → IsAdmitted most_cost old b w new → weight_of (most problem) new ≤ weight_of (most problem) old + weight (most problem) w
  admitted_weight most_cost old new b w (inr none) = omega (arith, ap (weight_of (most problem)) none.1)
  admitted_weight most_cost old new b w (inl e) =
      subst (λ es. weight_of (most problem) es ≤ weight_of (most problem) old + weight (most problem) w) (sym e)
      (put_weight (most problem) (bound_key b w.node.name) w old (insert_entry key_cmp old (bound_key b w.node.name) w) (puts (bound_key b w.node.name) w old))

  -- a child adds no more than three quarters of its parent's power
  side_weight : (most_cost : ℕ) (old new : List (Key × WaitingNode)) (n : Node) (known : LowerBound) (groups : List GroupBound) (x : PlannedNode) (c : Conflict) (s : Side) (o : Option Node) → StandsFor problem n x → IsSide problem x c s o → IsAdmittedChild most_cost old known groups o new →
      (v : ℕ) × (weight_of (most problem) new ≤ weight_of (most problem) old + v) × (4 * v ≤ 3 * 4 ^ (most problem - length n.name))
  side_weight most_cost old new n known groups x c s None stands is (absent e) = (0, omega (arith, ap (weight_of (most problem)) e), omega arith)
  side_weight most_cost old new n known groups x c s (Some m) stands (plan, is) (present b w raised node of_groups fresh admitted) =
      (2 * 4 ^ (most problem - length m.name) + 1, omega (arith, admitted_weight most_cost old new b w admitted, weighs), quarters)
    where
      weighs : weight (most problem) w ≡ 2 * 4 ^ (most problem - length m.name) + 1
      weighs = omega (arith, ap unknown_weight fresh, ap (λ (k : Node). 4 ^ (most problem - length k.name)) node)

      longer : length m.name ≡ length n.name + 1
      longer = omega (arith, ap length is.name, ap length stands.name, length-append x.0.name (s ∷ []))

      within : length m.name ≤ most problem
      within = subst (λ name. length name ≤ most problem) (sym is.name) (depth_most problem _ (grown_all problem _ is.member.inside))

      left : most problem - length n.name ≡ suc (most problem - length m.name)
      left = omega (arith, longer, within)

      quarters : 4 * (2 * 4 ^ (most problem - length m.name) + 1) ≤ 3 * 4 ^ (most problem - length n.name)
      quarters = omega (arith, some_weight (most problem - length m.name), pow-succ' 4 (most problem - length m.name), ap (λ k. 4 ^ k) left)

  -- a turn that branches makes what waits lighter
  pub branches_fall : (most_cost : ℕ) (old new : List (Key × WaitingNode)) → Branches problem most_cost old new → total new < total old
  unfolding total
  branches_fall most_cost old new b = by (conflict_of b.first.1.node.conflict refl b.conflict.conflict)
    where
      conflict_of : (o : Option Conflict) → b.first.1.node.conflict ≡ o → IsSome o → (c : Conflict) × (b.first.1.node.conflict ≡ Some c)
      conflict_of None e some = cc
      conflict_of (Some c) e some = (c, e)

      by : ((c : Conflict) × (b.first.1.node.conflict ≡ Some c)) → weight_of (most problem) new < weight_of (most problem) old
      by (c, e) =
          let x = b.conflict.of in
          let n = b.entry.node in
          let stands : StandsFor problem n x = subst (λ k. StandsFor problem k x) (sym b.same) b.conflict.stands in
          let shows : n.conflict ≡ Some c = ap (λ (k : Node). k.conflict) b.same ∙ e in
          let left = side_weight most_cost b.rest b.expands.middle n (key_bound b.first.0) b.entry.groups x c Left b.expands.left stands (b.expands.is_left x c stands shows) b.expands.puts_left in
          let right = side_weight most_cost b.expands.middle new n (key_bound b.first.0) b.entry.groups x c Right b.expands.right stands (b.expands.is_right x c stands shows) b.expands.puts_right in
          omega (
            arith,
            left.1,
            left.2,
            right.1,
            right.2,
            some_weight (most problem - length b.first.1.node.name),
            ap (λ (k : Node). 4 ^ (most problem - length k.name)) b.same,
            ap (weight_of (most problem)) b.was,
          )

  -- and so does one that finds a bound
  pub raises_fall : (most_cost : ℕ) (old new : List (Key × WaitingNode)) → Raises problem most_cost old new → total new < total old
  unfolding total
  raises_fall most_cost old new r =
      omega (
        arith,
        ap unknown_weight r.unknown,
        ap unknown_weight r.own,
        ap (λ (k : Node). 4 ^ (most problem - length k.name)) r.same,
        admitted_weight most_cost r.rest new r.to r.again r.puts,
        ap (weight_of (most problem)) r.was,
      )

  -- and one that lets a node go
  pub drops_fall : (most_cost : ℕ) (old new : List (Key × WaitingNode)) → Drops problem most_cost old new → total new < total old
  unfolding total
  drops_fall most_cost old new d =
      omega (arith, some_weight (most problem - length d.first.1.node.name), ap (weight_of (most problem)) d.was, ap (weight_of (most problem)) d.left)

  -- whichever it is
  pub goes_on_falls : (most_cost : ℕ) (old new : List (Key × WaitingNode)) → GoesOn problem most_cost old new → total new < total old
  goes_on_falls most_cost old new (inl r) = raises_fall most_cost old new r
  goes_on_falls most_cost old new (inr d) = drops_fall most_cost old new d
