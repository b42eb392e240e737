use Rattle.std.proofs.Common.{◌<◌, ◌∙◌, ap, arith, get_or, length, subst, sym, MatchOption}
use Rattle.std.specs.Prelude.{IfSome}
use Rattle.std.proofs.lemmas.List.{length-map}
use Rattle.mapf_plan.specs.Plan.{HasNoConflict}
use Rattle.mapf_tree.specs.Problem.{Problem}
use Rattle.mapf_optimum.specs.FreeTree.{IsChoice, IsFreeNode, IsGroup, IsGroupBound, paths_in}
use Rattle.mapf_optimum.specs.FreeSearch.{IsFreshNode}
use Rattle.mapf_optimum.specs.Groups.{AreKnown, alone, costs_in, part_of, sets_in}
use Rattle.mapf_optimum.proofs.Asking.{answer_bounds, asked_is}
use Rattle.mapf_optimum.proofs.Covering.{begins_from, bounding_covers_from, expansion_covers_from, free_from}
use Rattle.mapf_optimum.proofs.Steps.{bounds, expands, taken_node}
use Rattle.mapf_optimum.proofs.groups.+groups.Goals as goal
use Rattle.mapf_optimum.proofs.groups.+groups.Goals.{look_for-then-is_bounded+in_ok-conflict+in-Some-2+else-guide-eq0+in_ok-expand, look_for-else-is_bounded+in_ok-bounded+in_ok-put-2}

-- src/groups.rt:174:21
pub grouped-ask-requires : goal.grouped-ask-requires
grouped-ask-requires t c =
    let is : IsFreeNode (alone c.args.part.now) c.loop-asked.now = c.loop-asked.invariant.same.0 in
    let few : length c.in-Some.agents.items < length c.loop-asked.now.sets = subst (λ o. IfSome o (λ a. length a.items < length c.loop-asked.now.sets)) c.in-Some.is c.in_ok-agents.ensures.few in
    let some : IsGroup (length (alone c.args.part.now).inst.starts) c.in-Some.agents.items = subst (λ n. IsGroup n c.in-Some.agents.items) is.agents (subst (λ o. IfSome o (λ a. IsGroup (length c.loop-asked.now.sets) a.items)) c.in-Some.is c.in_ok-agents.ensures.group) in (
      omega (arith, c.decreases, c.in_ok-inner.ensures.few, ap length c.deref-in-loop-asked.ensures.value, few, is.agents, length-map c.args.part.now.agents (λ i. get_or c.args.part.now.problem.inst.starts i 0)),
      (
        asked_is (alone c.args.part.now) c.loop-asked.now c.in-Some.agents.items c.in_ok-group.group (alone c.in_ok-inner.inner) some
            (subst (λ a. IsFreshNode (sets_in c.loop-asked.now.sets a) (costs_in c.loop-asked.now.costs a) (paths_in c.loop-asked.now.plan a) c.in_ok-group.group) c.deref-in-loop-asked-2.ensures.value c.in_ok-group.ensures)
            (c.in_ok-inner.ensures.alone ∙ ap (λ a. part_of (alone c.args.part.now) a) c.deref-in-loop-asked.ensures.value) is,
        subst (λ (p : Problem). AreKnown p c.loop-asked.known) (sym c.in_ok-inner.ensures.problem) c.loop-asked.invariant.known,
      ),
    )

-- src/groups.rt:175:33
pub grouped-with_group-requires-clause-group : goal.grouped-with_group-requires-clause-group
grouped-with_group-requires-clause-group t c =
    let is : IsFreeNode (alone c.args.part.now) c.loop-asked.now = c.loop-asked.invariant.same.0 in
    let some : IsGroup (length (alone c.args.part.now).inst.starts) c.in-Some.agents.items = subst (λ n. IsGroup n c.in-Some.agents.items) is.agents (subst (λ o. IfSome o (λ a. IsGroup (length c.loop-asked.now.sets) a.items)) c.in-Some.is c.in_ok-agents.ensures.group) in
    subst (λ a. IsGroupBound (alone c.args.part.now) c.loop-asked.now.sets a c.in_ok-found.found.least) (sym c.deref-in-loop-asked-3.ensures.value)
    (answer_bounds (alone c.args.part.now) c.loop-asked.now c.in-Some.agents.items c.in_ok-group.group (alone c.in_ok-inner.inner) some
    (subst (λ a. IsFreshNode (sets_in c.loop-asked.now.sets a) (costs_in c.loop-asked.now.costs a) (paths_in c.loop-asked.now.plan a) c.in_ok-group.group) c.deref-in-loop-asked-2.ensures.value c.in_ok-group.ensures)
    (c.in_ok-inner.ensures.alone ∙ ap (λ a. part_of (alone c.args.part.now) a) c.deref-in-loop-asked.ensures.value) c.in_ok-found.found.least c.in_ok-found.ensures.least)

-- src/groups.rt:178:13
pub grouped-returns-in_err-push-clause-known : goal.grouped-returns-in_err-push-clause-known
grouped-returns-in_err-push-clause-known t c = subst (λ (p : Problem). AreKnown p c.ask.new.known) c.in_ok-inner.ensures.problem c.in_ok-found.ensures.known

-- src/groups.rt:82:5
pub look_for-loop-step-init : goal.look_for-loop-step-init
look_for-loop-step-init t c = record {
  way = begins_from (alone c.args.part.now) c.args.node c.new-waiting.result c.put.new.self c.requires.node c.new-waiting.ensures c.in_ok-put.ensures;
  known = c.requires.known;
}

-- src/groups.rt:87:34
pub look_for-choice-requires : goal.look_for-choice-requires
look_for-choice-requires t c =
    free_from (alone c.args.part.now) c.args.node.sets c.loop-step.waiting c.take_least.new.self c.in-Some.node c.loop-step.invariant.way (taken_node c.loop-step.waiting c.take_least.new.self c.take_least.result c.in-Some.node c.in-Some.is c.take_least.ensures)

-- src/groups.rt:97:13
pub look_for-expand-requires-clause-node : goal.look_for-expand-requires-clause-node
look_for-expand-requires-clause-node t c =
    free_from (alone c.args.part.now) c.args.node.sets c.loop-step.waiting c.take_least.new.self c.in-Some.node c.loop-step.invariant.way (taken_node c.loop-step.waiting c.take_least.new.self c.take_least.result c.in-Some.node c.in-Some.is c.take_least.ensures)

-- src/groups.rt:99:25
pub look_for-bounded-requires : goal.look_for-bounded-requires
look_for-bounded-requires t c = (
  omega (arith, c.decreases),
  (
    free_from (alone c.args.part.now) c.args.node.sets c.loop-step.waiting c.take_least.new.self c.in-Some.node c.loop-step.invariant.way (taken_node c.loop-step.waiting c.take_least.new.self c.take_least.result c.in-Some.node c.in-Some.is c.take_least.ensures),
    c.loop-step.invariant.known,
  ),
)

-- src/groups.rt:82:5
pub look_for-loop-step-preserved : goal.look_for-loop-step-preserved
look_for-loop-step-preserved t c =
    let taken = taken_node c.loop-step.waiting c.take_least.new.self c.take_least.result c.in-Some.node c.in-Some.is c.take_least.ensures in
    elim c.if-is_bounded.branch [
      | look_for-then-is_bounded+in_ok-conflict+in-Some-2+else-guide-eq0+in_ok-expand w ↦ rw w.waiting-is (rw w.known-is (record {
        way = expansion_covers_from (alone c.args.part.now) c.args.node.sets c.loop-step.waiting w.expand.new.waiting c.loop-step.invariant.way
            (expands (alone c.args.part.now) c.loop-step.waiting c.take_least.new.self w.expand.new.waiting c.in-Some.node w.in-Some-2.conflict taken
            (subst (λ o. MatchOption o (HasNoConflict (alone c.args.part.now).rule c.in-Some.node.plan) (IsChoice (alone c.args.part.now) c.in-Some.node.plan)) w.in-Some-2.is w.in_ok-conflict.ensures) w.in_ok-expand.ensures);
        known = c.loop-step.invariant.known;
      }))
      | look_for-else-is_bounded+in_ok-bounded+in_ok-put-2 w ↦ rw w.waiting-is (rw w.known-is (record {
        way = bounding_covers_from (alone c.args.part.now) c.args.node.sets c.loop-step.waiting w.put-else-is_bounded.new.self c.loop-step.invariant.way
            (bounds (alone c.args.part.now) c.loop-step.waiting c.take_least.new.self w.put-else-is_bounded.new.self c.in-Some.node w.in_ok-bounded.field-0 taken (sym c.is_bounded.ensures ∙ w.if-is_bounded.false) w.in_ok-bounded.ensures.bounded w.in_ok-put-2.ensures);
        known = w.in_ok-bounded.ensures.known;
      }))
    ]
