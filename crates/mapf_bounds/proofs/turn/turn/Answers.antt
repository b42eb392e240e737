use Rattle.std.proofs.Common.{refl, inl, subst, sym, ap, ◌∙◌, IsSome, ◌≡◌, None, false}
use Rattle.std.proofs.lemmas.Result.{IfOk-weaker}
use Rattle.std.specs.Result.{IfOk}
use Rattle.mapf_tree.specs.Family.{IsBranching}
use Rattle.mapf_tree.proofs.high_level.Expansions.{some_there, conflict_absent}
use Rattle.mapf_bounds.specs.Bounds.{Bounding, IsBoundOf}
use Rattle.mapf_bounds.specs.Groups.{AreKnownAt}
use Rattle.mapf_bounds.specs.Waiting.{WaitingNode, IsAdmitted, IsLeftOrExpanded, IsTurn, is_own, key_bound}
use Rattle.mapf_bounds.proofs.Turns.{solved_turn, first_branches, first_known, first_groups, left_or_expanded_turn, raised_bound}
use Rattle.mapf_bounds.proofs.turn.turn.Goals as goal

pub returns-then-is_none-clause-turn : goal.returns-then-is_none-clause-turn
returns-then-is_none-clause-turn c =
    solved_turn c.args.bounds.now.problem c.args.bounds.now.most c.args.waiting.now.entries c.pop_first.new.self.entries c.in-Some.key c.in-Some.first c.in_ok-plan.plan c.in-Some.ensures.removal c.requires.covering c.requires.enough c.in-Some.ensures.all_above
    (subst (λ (e : WaitingNode). e.node.conflict ≡ None) c.first.view_is (conflict_absent _ _ _ c.is_none.ensures c.conflict.ensures.conflict c.if-is_none.true)) (c.in_ok-plan.ensures ∙ ap (λ (e : WaitingNode). e.node.plan) c.first.view_is)

pub leave_or_expand-requires-clause-node : goal.leave_or_expand-requires-clause-node
leave_or_expand-requires-clause-node c = first_branches c.args.bounds.now.problem c.args.bounds.now.most c.args.waiting.now.entries c.pop_first.new.self.entries c.in-Some.key c.in-Some.first c.in-Some.ensures.removal c.requires.covering (subst (λ (e : WaitingNode). IsSome e.node.conflict) c.first.view_is (some_there _ _ _ c.is_none.ensures c.conflict.ensures.conflict c.if-is_none.false))

pub of-requires-clause-node : goal.of-requires-clause-node
of-requires-clause-node c =
    subst (λ (e : WaitingNode). IsBranching c.args.bounds.now.problem e.node) (sym c.first.view_is) (first_branches c.args.bounds.now.problem c.args.bounds.now.most c.args.waiting.now.entries c.pop_first.new.self.entries c.in-Some.key c.in-Some.first c.in-Some.ensures.removal c.requires.covering (subst (λ (e : WaitingNode). IsSome e.node.conflict) c.first.view_is (some_there _ _ _ c.is_none.ensures c.conflict.ensures.conflict c.if-is_none.false)))

pub of-requires-clause-known : goal.of-requires-clause-known
of-requires-clause-known c =
    subst (λ (e : WaitingNode). IsBoundOf c.args.bounds.now.problem e.node (key_bound c.in-Some.key)) (sym c.first.view_is) (first_known c.args.bounds.now.problem c.args.bounds.now.most c.args.waiting.now.entries c.pop_first.new.self.entries c.in-Some.key c.in-Some.first c.in-Some.ensures.removal c.requires.covering)

pub of-requires-clause-groups : goal.of-requires-clause-groups
of-requires-clause-groups c =
    (subst (λ (e : WaitingNode). AreKnownAt c.args.bounds.now.problem e.node e.groups) (sym c.first.view_is) (first_groups c.args.bounds.now.problem c.args.bounds.now.most c.args.waiting.now.entries c.pop_first.new.self.entries c.in-Some.key c.in-Some.first c.in-Some.ensures.removal c.requires.covering))

pub returns-then-is_own-clause-turn : goal.returns-then-is_own-clause-turn
returns-then-is_own-clause-turn c =
    IfOk-weaker c.leave_or_expand.result (IsLeftOrExpanded c.args.bounds.now.problem c.args.bounds.now.most (key_bound c.in-Some.key) c.in-Some.first c.pop_first.new.self.entries c.leave_or_expand.new.waiting.entries) (IsTurn c.args.bounds.now.problem c.args.bounds.now.most c.args.waiting.now.entries c.leave_or_expand.new.waiting.entries)
    (λ outcome is. left_or_expanded_turn c.args.bounds.now.problem c.args.bounds.now.most c.args.waiting.now.entries c.pop_first.new.self.entries c.leave_or_expand.new.waiting.entries c.in-Some.key c.in-Some.first c.in-Some.first outcome c.in-Some.ensures.removal c.requires.covering c.requires.enough c.in-Some.ensures.all_above
    (subst (λ (e : WaitingNode). IsSome e.node.conflict) c.first.view_is (some_there _ _ _ c.is_none.ensures c.conflict.ensures.conflict c.if-is_none.false)) refl (first_groups c.args.bounds.now.problem c.args.bounds.now.most c.args.waiting.now.entries c.pop_first.new.self.entries c.in-Some.key c.in-Some.first c.in-Some.ensures.removal c.requires.covering) is) c.leave_or_expand.ensures.outcome

pub leave_or_expand-requires-then-eq-clause-node : goal.leave_or_expand-requires-then-eq-clause-node
leave_or_expand-requires-then-eq-clause-node c =
    subst (λ (b : Bounding). IsBranching b.problem c.by_groups-entry.result.node) (sym c.in_ok-found.ensures.same) (subst (λ (e : WaitingNode). IsBranching c.args.bounds.now.problem e.node) (sym c.by_groups-entry.ensures) (first_branches c.args.bounds.now.problem c.args.bounds.now.most c.args.waiting.now.entries c.pop_first.new.self.entries c.in-Some.key c.in-Some.first c.in-Some.ensures.removal c.requires.covering (subst (λ (e : WaitingNode). IsSome e.node.conflict) c.first.view_is (some_there _ _ _ c.is_none.ensures c.conflict.ensures.conflict c.if-is_none.false))))

pub returns-then-eq-clause-turn : goal.returns-then-eq-clause-turn
returns-then-eq-clause-turn c =
    let entry = c.by_groups-entry.result in
    IfOk-weaker c.leave_or_expand-then-eq.result (IsLeftOrExpanded c.args.bounds.now.problem c.args.bounds.now.most (key_bound c.in-Some.key) entry c.pop_first.new.self.entries c.leave_or_expand-then-eq.new.waiting.entries) (IsTurn c.args.bounds.now.problem c.args.bounds.now.most c.args.waiting.now.entries c.leave_or_expand-then-eq.new.waiting.entries)
    (λ outcome is. left_or_expanded_turn c.args.bounds.now.problem c.args.bounds.now.most c.args.waiting.now.entries c.pop_first.new.self.entries c.leave_or_expand-then-eq.new.waiting.entries c.in-Some.key c.in-Some.first entry outcome c.in-Some.ensures.removal c.requires.covering c.requires.enough c.in-Some.ensures.all_above
    (subst (λ (e : WaitingNode). IsSome e.node.conflict) c.first.view_is (some_there _ _ _ c.is_none.ensures c.conflict.ensures.conflict c.if-is_none.false)) (ap (λ (e : WaitingNode). e.node) c.by_groups-entry.ensures)
    (subst (AreKnownAt c.args.bounds.now.problem c.in-Some.first.node) (sym (ap (λ (e : WaitingNode). e.groups) c.by_groups-entry.ensures))
    (subst (λ (e : WaitingNode). AreKnownAt c.args.bounds.now.problem e.node c.in_ok-found.found.groups.value.items) c.first.view_is c.in_ok-found.ensures.groups)) is)
    (subst (λ (b : Bounding). IfOk c.leave_or_expand-then-eq.result (IsLeftOrExpanded b.problem b.most (key_bound c.in-Some.key) entry c.pop_first.new.self.entries c.leave_or_expand-then-eq.new.waiting.entries)) c.in_ok-found.ensures.same c.leave_or_expand-then-eq.ensures.outcome)

pub returns-clause-turn : goal.returns-clause-turn
returns-clause-turn c = inl record {
  first = (c.in-Some.key, c.in-Some.first);
  rest = c.pop_first.new.self.entries;
  was = c.in-Some.ensures.removal;
  conflict = (first_branches c.args.bounds.now.problem c.args.bounds.now.most c.args.waiting.now.entries c.pop_first.new.self.entries c.in-Some.key c.in-Some.first c.in-Some.ensures.removal c.requires.covering (subst (λ (e : WaitingNode). IsSome e.node.conflict) c.first.view_is (some_there _ _ _ c.is_none.ensures c.conflict.ensures.conflict c.if-is_none.false)));
  unknown = subst (λ (e : WaitingNode). is_own e.stage ≡ false) c.first.view_is (sym c.is_own.ensures ∙ c.if-is_own.false);
  again = c.by_groups-entry.result;
  same = ap (λ (e : WaitingNode). e.node) c.by_groups-entry.ensures;
  own = ap (λ (e : WaitingNode). is_own e.stage) c.by_groups-entry.ensures;
  known = subst (AreKnownAt c.args.bounds.now.problem c.in-Some.first.node) (sym (ap (λ (e : WaitingNode). e.groups) c.by_groups-entry.ensures))
      (subst (λ (e : WaitingNode). AreKnownAt c.args.bounds.now.problem e.node c.in_ok-found.found.groups.value.items) c.first.view_is c.in_ok-found.ensures.groups);
  to = c.raised-raised.result;
  bound = raised_bound c.args.bounds.now.problem c.args.bounds.now.most c.in-Some.first.node (key_bound c.in-Some.key) c.in_ok-found.found.bound c.raised-raised.result (first_known c.args.bounds.now.problem c.args.bounds.now.most c.args.waiting.now.entries c.pop_first.new.self.entries c.in-Some.key c.in-Some.first c.in-Some.ensures.removal c.requires.covering)
      (subst (λ (e : WaitingNode). IsBoundOf c.args.bounds.now.problem e.node c.in_ok-found.found.bound) c.first.view_is c.in_ok-found.ensures.bound) c.raised-raised.ensures;
  puts = subst (λ m. IsAdmitted m c.pop_first.new.self.entries c.raised-raised.result c.by_groups-entry.result c.admit.new.waiting.entries) (c.most.ensures ∙ ap (λ (b : Bounding). b.most) c.in_ok-found.ensures.same) c.in_ok-admit.ensures;
}
