-- A turn of the search by bounds.
use Rattle.std.proofs.Common.{◌≡◌, ◌⊎◌, ℕ, ◌+◌, ◌≤◌, List, [], ◌∷◌, map, Option, Some, None, Result, IfOk, IsSome, Less, inl, inr, subst, sym, refl, ap, ◌∙◌, ⊎_elim, arith, All, Contains}
use Rattle.std.proofs.lemmas.List.Elements.{All-contains}
use Rattle.mapf_grid.proofs.Lists.{Contains-map}
use Rattle.mapf_grid.specs.Least.{Precedes}
use Rattle.mapf_grid.proofs.Members.{nowhere, here, here_or_there}
use Rattle.mapf_grid.proofs.Ranks.{irreflexive}
use Rattle.mapf_plan.specs.declared.answer.Answer.TheVariants as answer
use Rattle.mapf_plan.specs.declared.conflict.Conflict.{Conflict}
use Rattle.mapf_plan.specs.Plan.{IsFirstConflict, HasNoConflict, plan_cost}
use Rattle.mapf_plan.proofs.Conflicts.{same_first}
use Rattle.mapf_tree.specs.declared.tree.key.Key.{Key}
use Rattle.mapf_tree.specs.declared.tree.side.Side.{Side}
use Rattle.mapf_tree.specs.declared.tree.side.Side.TheVariants.{Left, Right}
use Rattle.mapf_grid.specs.declared.fault.NoMemory.{NoMemory}
use Rattle.mapf_plan.specs.declared.answer.Answer.{Answer}
use Rattle.mapf_tree.specs.Answered.{IsStated, IsAnswerOf, IsAnswerUpTo}
use Rattle.mapf_tree.specs.LowerBound.{IsBelowAll}
use Rattle.mapf_tree.specs.Problem.{Problem}
use Rattle.mapf_tree.specs.Tree.{TreeNode, PlannedNode, HasPlan, IsMember, IsSolution, side_of, key, key_rank}
use Rattle.mapf_tree.specs.Family.{IsSide, IsBranching}
use Rattle.mapf_tree.specs.Nodes.{Node, StandsFor}
use Rattle.mapf_tree.specs.Search.{IsChild}
use Rattle.mapf_tree.proofs.solutions.Descent.{cheaper_solution}
use Rattle.mapf_tree.proofs.high_level.OpenNodes.{conflict_stands, none_stands, IsNodeOf}
use Rattle.mapf_tree.proofs.Plans.{same_plan}
use Rattle.std.proofs.lemmas.Bool.{cases_lt}
use Rattle.mapf_optimum.specs.declared.group_bound.GroupBound.{GroupBound}
use Rattle.mapf_bounds.specs.declared.lower_bound.LowerBound.{LowerBound}
use Rattle.mapf_bounds.specs.declared.turn.Outcome.{Outcome}
use Rattle.mapf_bounds.specs.declared.turn.Outcome.TheVariants.{Raised, Expanded, Ended}
use Rattle.mapf_bounds.specs.Below.{IsBelow, IsBounded, CoversUpTo, IsEnough}
use Rattle.mapf_bounds.specs.Bounds.{IsOfTree, IsBoundOf, IsRaised}
use Rattle.mapf_bounds.specs.Groups.{AreKnownAt}
use Rattle.mapf_bounds.specs.Waiting.{WaitingNode, IsKeyOf, HasEntryFor, AreKeyed, IsCovering, key_cmp, key_bound, bound_key, IsAdmitted, IsAdmittedChild, absent, present, Branches, Drops, GoesOn, HoldsNone, IsLeftOrExpanded, IsTurn, Raises}
use Rattle.mapf_bounds.proofs.Subtrees.{child_key_of, found_key_of, solution_valid, solutions_obey}
use Rattle.mapf_bounds.proofs.Groups.{known_below}
use Rattle.mapf_bounds.proofs.Covers.{AreBehind, first_taken, none_cheaper, expanded_covers}
use Rattle.mapf_bounds.proofs.Entries.{lesser_first, one_node, rest_keyed, admitted_keyed, admitted_keeps, admitted_puts}

-- where one is, in a list that begins with it
first_in : {X : Type 0} (xs rest : List X) (x : X) → xs ≡ x ∷ rest → Contains xs x
first_in xs rest x is = subst (λ l. Contains l x) (sym is) (here rest refl)

module _ (problem : Problem) (most : ℕ) where
  -- nodes that one node stands for are one
  pub one_stands : (n : Node) (a b : PlannedNode) → StandsFor problem n a → StandsFor problem n b → a ≡ b
  one_stands n a b h k = one_node problem a b h.member k.member (sym h.name ∙ k.name)

  -- what waits once the node of a node of the tree is put in, if that has one
  pub record PutsNode (old new : List (Key × WaitingNode)) (p : TreeNode) : Type 0 where
    pub keyed : AreKeyed problem new
    pub keeps : (m : PlannedNode) → HasEntryFor problem old m → HasEntryFor problem new m
    pub puts : (q t : PlannedNode) → IsMember problem q → q.0 ≡ p → IsSolution problem t → plan_cost t.1 ≤ most → IsBelow problem q t → HasEntryFor problem new q

  -- none is put in
  puts_none : (old new : List (Key × WaitingNode)) (p : TreeNode) → AreKeyed problem old → IsNodeOf problem p None → new ≡ old → PutsNode old new p
  puts_none old new p are none e = record {
    keyed = subst (AreKeyed problem) (sym e) are;
    keeps = λ m has. subst (λ es. HasEntryFor problem es m) (sym e) has;
    puts = λ q t member is solution within below. absurd (none q.1 (subst (λ p. HasPlan problem p q.1) is member.plan));
  }

  -- one is put in
  puts_node : (old new : List (Key × WaitingNode)) (p : TreeNode) (b : LowerBound) (w : WaitingNode) → AreKeyed problem old → IsNodeOf problem p (Some w.node) → IsKeyOf problem (bound_key b w.node.name) w.node → AreKnownAt problem w.node w.groups →
      IsAdmitted most old b w new → PutsNode old new p
  puts_node old new p b w are (plan, stands) is known admitted =
      record {
        keyed = admitted_keyed problem most old new b w are ((p, plan), stands) is known admitted;
        keeps = admitted_keeps problem most old new b w are ((p, plan), stands) is known admitted;
        puts = λ q t member at solution within below.
            admitted_puts problem most old new b w are ((p, plan), stands) is known admitted q t (subst (StandsFor problem w.node) (sym (same q member at)) stands) solution within below;
      }
    where
      same : (q : PlannedNode) → IsMember problem q → q.0 ≡ p → q ≡ (p, plan)
      same q member at =
          let plans = same_plan problem p q.1 plan (subst (λ r. HasPlan problem r q.1) at member.plan) stands.member.plan in
          λ i. (at i, plans i)

  -- a side is put in, if it is there
  puts_side : (old new : List (Key × WaitingNode)) (n : Node) (x : PlannedNode) (known : LowerBound) (groups : List GroupBound) (c : Conflict) (s : Side) (o : Option Node) → AreKeyed problem old → StandsFor problem n x → IsBounded problem x known → AreKnownAt problem n groups →
      IsFirstConflict problem.rule x.1 c → IsSide problem x c s o → IsAdmittedChild most old known groups o new → PutsNode old new (side_of x.0 c s)
  puts_side old new n x known groups c s None are stands bounded sure first is (absent e) = puts_none old new (side_of x.0 c s) are is e
  puts_side old new n x known groups c s (Some k) are stands bounded sure first is (present b w raised node of_groups fresh admitted) =
      puts_node old new (side_of x.0 c s) b w are (subst (λ l. IsNodeOf problem (side_of x.0 c s) (Some l)) (sym node) is)
      (subst (λ l. IsKeyOf problem (bound_key b l.name) l) (sym node) (child_key_of problem k x known b bounded child_of raised))
      (subst (AreKnownAt problem w.node) (sym of_groups) (subst (λ l. AreKnownAt problem l groups) (sym node) (known_below problem n k x (side_of x.0 c s, is.0) stands is.1 (child_of (side_of x.0 c s, is.0) is.1) groups sure)))
      admitted
    where
      child_of : (m : PlannedNode) → StandsFor problem k m → IsChild problem x m
      child_of m shows = record { conflict = c; turn = s; first = first; is = ap (λ q. q.0) (one_stands k m (side_of x.0 c s, is.0) shows is.1) }

  -- a node that branches has a conflict
  some_conflict : (n : Node) → IsBranching problem n → (m : PlannedNode) → StandsFor problem n m → ¬ HasNoConflict problem.rule m.1
  some_conflict n b m stands none = by (conflict_of n.conflict refl b.conflict)
    where
      conflict_of : (q : Option Conflict) → n.conflict ≡ q → IsSome q → (c : Conflict) × (n.conflict ≡ Some c)
      conflict_of None e some = cc
      conflict_of (Some c) e some = (c, e)

      by : (c : Conflict) × (n.conflict ≡ Some c) → ⊥
      by (c, e) = none c (conflict_stands problem n m c stands e).member

  -- what waits covers all after a turn, if it did before
  pub branches_cover : (old new : List (Key × WaitingNode)) → Branches problem most old new → IsCovering problem most old → IsCovering problem most new
  branches_cover old new b covering = by b.conflict.of b.conflict.stands (conflict_of b.first.1.node.conflict refl b.conflict.conflict)
    where
      conflict_of : (o : Option Conflict) → b.first.1.node.conflict ≡ o → IsSome o → (c : Conflict) × (b.first.1.node.conflict ≡ Some c)
      conflict_of None e some = cc
      conflict_of (Some c) e some = (c, e)

      by : (x : PlannedNode) → StandsFor problem b.first.1.node x → ((c : Conflict) × (b.first.1.node.conflict ≡ Some c)) → IsCovering problem most new
      by x stands (c, e) = record { keyed = two.keyed; covers = expanded_covers problem most (HasEntryFor problem old) (HasEntryFor problem new) x (λ none. none c first.member) kept children covering.covers }
        where
          first : IsFirstConflict problem.rule x.1 c
          first = conflict_stands problem b.first.1.node x c stands e

          are : AreKeyed problem (b.first ∷ b.rest)
          are = subst (AreKeyed problem) b.was covering.keyed

          known : IsBounded problem x (key_bound b.first.0)
          known = (are.keys b.first (here b.rest refl) x stands).bounded

          here_too : StandsFor problem b.entry.node x
          here_too = subst (λ n. StandsFor problem n x) (sym b.same) stands

          sure : AreKnownAt problem b.entry.node b.entry.groups
          sure = subst (λ n. AreKnownAt problem n b.entry.groups) (sym b.same) b.known

          shows : b.entry.node.conflict ≡ Some c
          shows = ap (λ n. n.conflict) b.same ∙ e

          one : PutsNode b.rest b.expands.middle (side_of x.0 c Left)
          one =
              puts_side b.rest b.expands.middle b.entry.node x (key_bound b.first.0) b.entry.groups c Left b.expands.left (rest_keyed problem b.first b.rest are) here_too known sure first (b.expands.is_left x c here_too shows) b.expands.puts_left

          two : PutsNode b.expands.middle new (side_of x.0 c Right)
          two =
              puts_side b.expands.middle new b.entry.node x (key_bound b.first.0) b.entry.groups c Right b.expands.right one.keyed here_too known sure first (b.expands.is_right x c here_too shows) b.expands.puts_right

          kept : (m : PlannedNode) → HasEntryFor problem old m → (m ≡ x) ⊎ HasEntryFor problem new m
          kept m has =
              ⊎_elim (λ h. inl (one_stands b.first.1.node m x (subst (λ (y : Key × WaitingNode). StandsFor problem y.1.node m) (sym h) has.2) stands)) (λ i. inr (two.keeps m (one.keeps m (has.0, i, has.2))))
              (here_or_there b.rest (subst (λ es. Contains es has.0) b.was has.1))

          children : (q t : PlannedNode) → IsMember problem q → IsChild problem x q → IsSolution problem t → plan_cost t.1 ≤ most → IsBelow problem q t → HasEntryFor problem new q
          children q t member is solution within below = on is.turn (is.is ∙ ap (λ d. side_of x.0 d is.turn) (same_first problem.rule x.1 is.conflict c is.first first))
            where
              on : (s : Side) → q.0 ≡ side_of x.0 c s → HasEntryFor problem new q
              on Left h = two.keeps q (one.puts q t member h solution within below)
              on Right h = two.puts q t member h solution within below

  -- and where the first waits by a bound of its own
  pub raises_cover : (old new : List (Key × WaitingNode)) → Raises problem most old new → IsCovering problem most old → IsCovering problem most new
  raises_cover old new r covering = record { keyed = admitted_keyed problem most r.rest new r.to r.again are of key_of known r.puts; covers = covers }
    where
      whole : AreKeyed problem (r.first ∷ r.rest)
      whole = subst (AreKeyed problem) r.was covering.keyed

      are : AreKeyed problem r.rest
      are = rest_keyed problem r.first r.rest whole

      of : IsOfTree problem r.again.node
      of = subst (IsOfTree problem) (sym r.same) (whole.stand r.first (here r.rest refl))

      known : AreKnownAt problem r.again.node r.again.groups
      known = subst (λ n. AreKnownAt problem n r.again.groups) (sym r.same) r.known

      key_of : IsKeyOf problem (bound_key r.to r.again.node.name) r.again.node
      key_of = subst (λ n. IsKeyOf problem (bound_key r.to n.name) n) (sym r.same) (found_key_of problem r.first.1.node r.to r.bound (some_conflict r.first.1.node r.conflict))

      covers : CoversUpTo problem most (HasEntryFor problem new)
      covers s solution within = let w = covering.covers s solution within in (w.0, has_still w.0 w.2 w.1, w.2)
        where
          has_still : (m : PlannedNode) → IsBelow problem m s → HasEntryFor problem old m → HasEntryFor problem new m
          has_still m below has =
              ⊎_elim
              (λ h. admitted_puts problem most r.rest new r.to r.again are of key_of known r.puts m s (subst (λ n. StandsFor problem n m) (sym r.same) (subst (λ (y : Key × WaitingNode). StandsFor problem y.1.node m) (sym h) has.2)) solution within below)
              (λ i. admitted_keeps problem most r.rest new r.to r.again are of key_of known r.puts m (has.0, i, has.2)) (here_or_there r.rest (subst (λ es. Contains es has.0) r.was has.1))

  -- no solution at or below a node that no valid plan of so little cost obeys costs so little
  none_below : (n : Node) (m s : PlannedNode) → StandsFor problem n m → HoldsNone problem n most → IsSolution problem s → IsBelow problem m s → ¬ (plan_cost s.1 ≤ most)
  none_below n m s stands none solution below within = none m stands s.1 (solution_valid problem s solution) (solutions_obey problem m s stands.member solution below) within

  -- and where the first is gone
  pub drops_cover : (old new : List (Key × WaitingNode)) → Drops problem most old new → IsCovering problem most old → IsCovering problem most new
  drops_cover old new d covering = record { keyed = subst (AreKeyed problem) (sym d.left) (rest_keyed problem d.first d.rest whole); covers = covers }
    where
      whole : AreKeyed problem (d.first ∷ d.rest)
      whole = subst (AreKeyed problem) d.was covering.keyed

      covers : CoversUpTo problem most (HasEntryFor problem new)
      covers s solution within = let w = covering.covers s solution within in (w.0, has_still w.0 w.2 w.1, w.2)
        where
          has_still : (m : PlannedNode) → IsBelow problem m s → HasEntryFor problem old m → HasEntryFor problem new m
          has_still m below has =
              ⊎_elim
              (λ h. absurd (none_below d.first.1.node m s (subst (λ (y : Key × WaitingNode). StandsFor problem y.1.node m) (sym h) has.2) d.none solution below within))
              (λ i. subst (λ es. HasEntryFor problem es m) (sym d.left) (has.0, i, has.2)) (here_or_there d.rest (subst (λ es. Contains es has.0) d.was has.1))

  -- whichever it is
  pub goes_on_covers : (old new : List (Key × WaitingNode)) → GoesOn problem most old new → IsCovering problem most old → IsCovering problem most new
  goes_on_covers old new (inl r) = raises_cover old new r
  goes_on_covers old new (inr d) = drops_cover old new d

  -- what a map has behind its first entry comes behind it
  later_keys : (e : Key × WaitingNode) (rest : List (Key × WaitingNode)) → All (λ k. key_cmp e.0 k ≡ Less) (map (λ (y : Key × WaitingNode). y.0) rest) → (y : Key × WaitingNode) → Contains rest y → key_cmp e.0 y.0 ≡ Less
  later_keys e rest all y c = All-contains (λ k. key_cmp e.0 k ≡ Less) (map (λ (z : Key × WaitingNode). z.0) rest) y.0 all (Contains-map (λ (z : Key × WaitingNode). z.0) rest y c)

  -- so all solutions are behind the first of those that wait
  pub all_behind : (old rest : List (Key × WaitingNode)) (k : Key) (w : WaitingNode) → old ≡ (k, w) ∷ rest → IsCovering problem most old → All (λ l. key_cmp k l ≡ Less) (map (λ (y : Key × WaitingNode). y.0) rest) → AreBehind problem most k
  all_behind old rest k w is covering all s solution within =
      let v = covering.covers s solution within in
      let has = v.1 in (
        has.0.0,
        v.0,
        covering.keyed.keys has.0 has.1 v.0 has.2,
        v.2,
        ⊎_elim (λ h. subst (λ (y : Key × WaitingNode). ¬ Precedes (key_rank y.0) (key_rank k)) h (irreflexive (key_rank k))) (λ i. lesser_first k has.0.0 (later_keys (k, w) rest all has.0 i))
            (here_or_there rest (subst (λ es. Contains es has.0) is has.1)),
      )

  -- the first of those that wait has no conflict: it is the answer
  pub solved_turn : (old rest : List (Key × WaitingNode)) (k : Key) (w : WaitingNode) (plan : List (List ℕ)) → old ≡ (k, w) ∷ rest → IsCovering problem most old → IsEnough problem most →
      All (λ l. key_cmp k l ≡ Less) (map (λ (y : Key × WaitingNode). y.0) rest) → w.node.conflict ≡ None → plan ≡ w.node.plan → IsStated problem (answer.Plan plan k.cost)
  solved_turn old rest k w plan is covering enough all free same =
      let has = first_in old rest (k, w) is in
      let x = covering.keyed.stand (k, w) has in
      let none = none_stands problem w.node x.0 x.1 free in
      let by = covering.keyed.keys (k, w) has x.0 x.1 in
      let first = first_taken problem most k x.0 x.1.member by none enough (all_behind old rest k w is covering all) in
      let keys : key_rank k ≡ key x.0 = by.exact none in
      let costs : k.cost ≡ plan_cost x.0.1 = cc in
      let plans : plan ≡ x.0.1 = same ∙ x.1.plan in
      (Some x.0.1, (x.0.0, first), ap (λ c. answer.Plan plan c) costs ∙ ap (λ q. answer.Plan q (plan_cost x.0.1)) plans)

  -- none waits: there is no solution
  pub empty_turn : (old : List (Key × WaitingNode)) → old ≡ [] → IsCovering problem most old → IsEnough problem most → IsStated problem (answer.None problem.bound)
  empty_turn old is covering enough = (
    None,
    (λ s solution. let t = enough s solution in
        let w = covering.covers t.0 t.1 t.2 in nowhere (subst (λ es. Contains es w.1.0) is w.1.1)),
    refl,
  )

  -- no valid plan costs less than the first key says
  pub first_is_below : (old rest : List (Key × WaitingNode)) (k : Key) (w : WaitingNode) → old ≡ (k, w) ∷ rest → IsCovering problem most old → IsEnough problem most → All (λ l. key_cmp k l ≡ Less) (map (λ (y : Key × WaitingNode). y.0) rest) →
      (least : ℕ) → least ≤ k.cost → least ≤ problem.bound + 1 → IsBelowAll problem least
  first_is_below old rest k w is covering enough all least l m plan valid =
      ⊎_elim (λ over. omega (arith, over, m))
      (λ within. let s = cheaper_solution problem plan valid within in
      let behind = all_behind old rest k w is covering all in
      ⊎_elim
      (λ over. let t = enough s.0 s.1 in omega (arith, l, over, s.2, t.2, none_cheaper problem most k behind t.0 t.1 t.2))
      (λ h. omega (arith, l, s.2, none_cheaper problem most k behind s.0 s.1 h)) (cases_lt most (plan_cost s.0.1)))
      (cases_lt problem.bound (plan_cost plan))

  -- the first of those that wait branches, if it has a conflict
  pub first_branches : (old rest : List (Key × WaitingNode)) (k : Key) (w : WaitingNode) → old ≡ (k, w) ∷ rest → IsCovering problem most old → IsSome w.node.conflict → IsBranching problem w.node
  first_branches old rest k w is covering some =
      let x = covering.keyed.stand (k, w) (first_in old rest (k, w) is) in
      record { of = x.0; stands = x.1; conflict = some }

  -- its key is known to bound it
  pub first_known : (old rest : List (Key × WaitingNode)) (k : Key) (w : WaitingNode) → old ≡ (k, w) ∷ rest → IsCovering problem most old → IsBoundOf problem w.node (key_bound k)
  first_known old rest k w is covering m stands = (covering.keyed.keys (k, w) (first_in old rest (k, w) is) m stands).bounded

  -- and what is known of its groups is so
  pub first_groups : (old rest : List (Key × WaitingNode)) (k : Key) (w : WaitingNode) → old ≡ (k, w) ∷ rest → IsCovering problem most old → AreKnownAt problem w.node w.groups
  first_groups old rest k w is covering = covering.keyed.groups (k, w) (first_in old rest (k, w) is)

  -- a raised bound is one
  pub raised_bound : (n : Node) (known found b : LowerBound) → IsBoundOf problem n known → IsBoundOf problem n found → IsRaised known found b → IsBoundOf problem n b
  raised_bound n known found b is other (inl e) = subst (IsBoundOf problem n) (sym e.0) is
  raised_bound n known found b is other (inr e) = subst (IsBoundOf problem n) (sym e.0) other

  -- what came of the first of those that wait where it was left out or expanded
  pub left_or_expanded_turn : (old rest new : List (Key × WaitingNode)) (k : Key) (w entry : WaitingNode) (outcome : Outcome) → old ≡ (k, w) ∷ rest → IsCovering problem most old → IsEnough problem most →
      All (λ l. key_cmp k l ≡ Less) (map (λ (y : Key × WaitingNode). y.0) rest) → IsSome w.node.conflict → entry.node ≡ w.node → AreKnownAt problem w.node entry.groups → IsLeftOrExpanded problem most (key_bound k) entry rest new outcome →
      IsTurn problem most old new outcome
  left_or_expanded_turn old rest new k w entry (Expanded least) is covering enough all some same known expanded = (
    record { first = (k, w); rest = rest; was = is; conflict = first_branches old rest k w is covering some; entry = entry; same = same; known = known; expands = expanded.0 },
    first_is_below old rest k w is covering enough all least (omega (arith, expanded.1)) (omega (arith, expanded.1)),
  )
  left_or_expanded_turn old rest new k w entry Raised is covering enough all some same known out =
      inr (record { first = (k, w); rest = rest; was = is; none = subst (λ n. HoldsNone problem n most) same out.0; left = out.1 })
  left_or_expanded_turn old rest new k w entry (Ended given) is covering enough all some same known none = absurd none

-- an answer as it is stated is the answer where there is no limit on nodes
pub stated_answer : (p q : Problem) (r : Result Answer NoMemory) → p ≡ q → q.nodes ≡ None → IfOk r (IsStated p) → IfOk r (IsAnswerOf q)
stated_answer p q r same unlimited is = subst (λ limit. IfOk r (IsAnswerUpTo limit q)) (sym unlimited) (subst (λ s. IfOk r (IsStated s)) same is)
