use Rattle.std.proofs.Common.{◌+◌, Some, ap, MatchOption, inl, inr, refl, subst, sym, ◌∙◌, arith}
use Rattle.mapf_plan.specs.declared.answer.Answer.TheVariants as answer
use Rattle.mapf_plan.specs.Plan.{HasNoConflict, IsOptimum, plan_cost}
use Rattle.mapf_tree.specs.LowerBound.{IsBelowAll}
use Rattle.mapf_tree.specs.Problem.{Problem}
use Rattle.mapf_optimum.specs.FreeTree.{IsChoice, IsFreeNode}
use Rattle.mapf_optimum.specs.FreeSearch.{IsBounded, IsTaken, PutsSides}
use Rattle.mapf_optimum.proofs.Covering.{bounding_covers, expansion_covers, least_is_optimum, least_label_is_below, none_within}
use Rattle.mapf_optimum.proofs.Steps.{taken_is_free, taken_node, bounds, expands}
use Rattle.mapf_optimum.specs.Groups.{AreKnown}
use Rattle.mapf_optimum.proofs.Roots.{begins}
use Rattle.mapf_optimum.proofs.Telling.{IsTelling, telling_begins, telling_goes, telling_ends, telling_expands}
use Rattle.mapf_optimum.proofs.Work.{bounding_works, expansion_works}
use Rattle.mapf_optimum.proofs.solving.search.Goals as goal

pub steps-init : goal.steps-init
steps-init g c = record {
  way = begins c.args.low.now c.args.waiting c.requires.begun;
  known = c.requires.known;
  told = telling_begins g.W.Watch.told c.args.low.now c.args.most c.args.watch.now c.args.waiting c.requires.begun;
}

pub returns-in_default-clause-answer : goal.returns-in_default-clause-answer
returns-in_default-clause-answer g c =
    let taken = subst (λ found. IsTaken c.steps.waiting found c.take_least.new.self) c.in_default.is c.take_least.ensures in (
      c.bound-bound.ensures.bound ∙ ap (λ (p : Problem). p.bound) c.problem-problem.ensures,
      λ plan valid within. absurd (omega (arith, within, none_within c.args.low.now c.steps.waiting c.take_least.new.self c.steps.invariant.way taken plan valid)),
    )

pub bounded-requires-clause-node : goal.bounded-requires-clause-node
bounded-requires-clause-node g c =
    subst (λ p. IsFreeNode p c.in-Some.node) (sym c.in_ok-part.ensures.all) (taken_is_free c.args.low.now c.steps.waiting c.take_least.new.self c.in-Some.node c.steps.invariant.way (taken_node c.steps.waiting c.take_least.new.self c.take_least.result c.in-Some.node c.in-Some.is c.take_least.ensures))

pub steps-smaller-then-not-is_bounded : goal.steps-smaller-then-not-is_bounded
steps-smaller-then-not-is_bounded g c =
    bounding_works c.args.low.now c.steps.waiting c.put.new.self
    (bounds c.args.low.now c.steps.waiting c.take_least.new.self c.put.new.self c.in-Some.node c.in_ok-bounded.field-0 (taken_node c.steps.waiting c.take_least.new.self c.take_least.result c.in-Some.node c.in-Some.is c.take_least.ensures)
    (sym c.is_bounded.ensures ∙ c.if-not-is_bounded.true) (subst (λ p. IsBounded p c.in-Some.node c.in_ok-bounded.field-0) c.in_ok-part.ensures.all c.in_ok-bounded.ensures.bounded) c.in_ok-put.ensures)

pub steps-preserved-then-not-is_bounded : goal.steps-preserved-then-not-is_bounded
steps-preserved-then-not-is_bounded g c =
    let step = bounds c.args.low.now c.steps.waiting c.take_least.new.self c.put.new.self c.in-Some.node c.in_ok-bounded.field-0 (taken_node c.steps.waiting c.take_least.new.self c.take_least.result c.in-Some.node c.in-Some.is c.take_least.ensures)
    (sym c.is_bounded.ensures ∙ c.if-not-is_bounded.true) (subst (λ p. IsBounded p c.in-Some.node c.in_ok-bounded.field-0) c.in_ok-part.ensures.all c.in_ok-bounded.ensures.bounded) c.in_ok-put.ensures in record {
      way = bounding_covers c.args.low.now c.steps.waiting c.put.new.self c.steps.invariant.way step;
      known = subst (λ p. AreKnown p c.bounded.new.known) c.in_ok-part.ensures.problem c.bounded.ensures.known;
      told = telling_goes g.W.Watch.told c.args.low.now c.args.most c.steps.nodes c.args.watch.now c.steps.watch c.steps.waiting c.put.new.self c.steps.invariant.told step;
    }

pub bounded-requires-clause-known : goal.bounded-requires-clause-known
bounded-requires-clause-known g c = subst (λ p. AreKnown p c.steps.known) (sym c.in_ok-part.ensures.problem) c.steps.invariant.known

pub choice-requires : goal.choice-requires
choice-requires g c =
    subst (λ p. IsFreeNode p c.in-Some.node) (sym c.in_ok-part.ensures.all) (taken_is_free c.args.low.now c.steps.waiting c.take_least.new.self c.in-Some.node c.steps.invariant.way (taken_node c.steps.waiting c.take_least.new.self c.take_least.result c.in-Some.node c.in-Some.is c.take_least.ensures))

pub returns-in_default-2-clause-answer : goal.returns-in_default-2-clause-answer
returns-in_default-2-clause-answer g c = (
  subst (IsOptimum c.args.low.now.rule c.args.low.now.inst c.args.low.now.bound) (sym c.into_plan-plan.ensures)
      (least_is_optimum c.args.low.now c.steps.waiting c.take_least.new.self c.in-Some.node c.steps.invariant.way (taken_node c.steps.waiting c.take_least.new.self c.take_least.result c.in-Some.node c.in-Some.is c.take_least.ensures) (sym c.is_bounded.ensures ∙ c.if-not-is_bounded.false)
      (subst (λ o. MatchOption o (HasNoConflict c.args.low.now.rule c.in-Some.node.plan) (IsChoice c.args.low.now c.in-Some.node.plan)) c.in_default-2.is (subst (λ (p : Problem). MatchOption c.in_ok-conflict.field-0 (HasNoConflict p.rule c.in-Some.node.plan) (IsChoice p c.in-Some.node.plan)) c.in_ok-part.ensures.all c.in_ok-conflict.ensures))),
  c.cost-stated.ensures.cost,
)

pub returns-in_default-clause-told : goal.returns-in_default-clause-told
returns-in_default-clause-told g c =
    let taken = subst (λ found. IsTaken c.steps.waiting found c.take_least.new.self) c.in_default.is c.take_least.ensures in
    let bound = c.from.ensures ∙ c.bound-bound.ensures.bound ∙ ap (λ (p : Problem). p.bound) c.problem-problem.ensures in
    telling_ends g.W.Watch.told c.args.low.now c.args.most c.steps.nodes (c.from.result + 1) c.args.watch.now c.steps.watch c.nodes_expanded.new.self c.steps.waiting c.steps.invariant.told
    (inl (taken.0, ap (λ n. n + 1) bound)) c.nodes_expanded.ensures (answer.None c.bound-bound.result) (ap (λ n. n + 1) c.from.ensures)

pub returns-in_default-2-clause-told : goal.returns-in_default-2-clause-told
returns-in_default-2-clause-told g c =
    let taken : IsTaken c.steps.waiting (Some c.in-Some.node) c.take_least.new.self = (taken_node c.steps.waiting c.take_least.new.self c.take_least.result c.in-Some.node c.in-Some.is c.take_least.ensures) in
    let is = taken_is_free c.args.low.now c.steps.waiting c.take_least.new.self c.in-Some.node c.steps.invariant.way taken in
    let best = least_is_optimum c.args.low.now c.steps.waiting c.take_least.new.self c.in-Some.node c.steps.invariant.way taken (sym c.is_bounded.ensures ∙ c.if-not-is_bounded.false)
    (subst (λ o. MatchOption o (HasNoConflict c.args.low.now.rule c.in-Some.node.plan) (IsChoice c.args.low.now c.in-Some.node.plan)) c.in_default-2.is (subst (λ (p : Problem). MatchOption c.in_ok-conflict.field-0 (HasNoConflict p.rule c.in-Some.node.plan) (IsChoice p c.in-Some.node.plan)) c.in_ok-part.ensures.all c.in_ok-conflict.ensures)) in
    let least = least_label_is_below c.args.low.now c.steps.waiting c.take_least.new.self c.in-Some.node c.steps.invariant.way taken c.in-Some.node.plan best.valid in
    telling_ends g.W.Watch.told c.args.low.now c.args.most c.steps.nodes c.label-least.result c.args.watch.now c.steps.watch c.nodes_expanded-in-steps.new.self c.steps.waiting c.steps.invariant.told
    (inr (c.in-Some.node, c.take_least.new.self, taken, c.label-least.ensures)) c.nodes_expanded-in-steps.ensures (answer.Plan c.into_plan-plan.result c.cost-stated.result)
    (omega (arith, is.dear (sym c.is_bounded.ensures ∙ c.if-not-is_bounded.false), least, c.label-least.ensures, c.cost-stated.ensures.cost, ap plan_cost c.into_plan-plan.ensures))

pub returns-then-is_limit-clause-told : goal.returns-then-is_limit-clause-told
returns-then-is_limit-clause-told g c =
    telling_ends g.W.Watch.told c.args.low.now c.args.most c.steps.nodes c.label-least.result c.args.watch.now c.steps.watch c.nodes_expanded-in-steps.new.self c.steps.waiting c.steps.invariant.told
    (inr (c.in-Some.node, c.take_least.new.self, (taken_node c.steps.waiting c.take_least.new.self c.take_least.result c.in-Some.node c.in-Some.is c.take_least.ensures), c.label-least.ensures)) c.nodes_expanded-in-steps.ensures (answer.GaveUp c.steps.nodes c.label-least.result) (refl, refl)

pub returns-then-is_limit-clause-answer : goal.returns-then-is_limit-clause-answer
returns-then-is_limit-clause-answer g c =
    let taken : IsTaken c.steps.waiting (Some c.in-Some.node) c.take_least.new.self = taken_node c.steps.waiting c.take_least.new.self c.take_least.result c.in-Some.node c.in-Some.is c.take_least.ensures in
    let is = taken_is_free c.args.low.now c.steps.waiting c.take_least.new.self c.in-Some.node c.steps.invariant.way taken in (
      c.is_limit.ensures.0 c.if-is_limit.true,
      omega (arith, c.label-least.ensures, is.within),
      subst (IsBelowAll c.args.low.now) (sym c.label-least.ensures) (least_label_is_below c.args.low.now c.steps.waiting c.take_least.new.self c.in-Some.node c.steps.invariant.way taken),
    )

pub expand-requires-clause-node : goal.expand-requires-clause-node
expand-requires-clause-node g c =
    subst (λ p. IsFreeNode p c.in-Some.node) (sym c.in_ok-part.ensures.all) (taken_is_free c.args.low.now c.steps.waiting c.take_least.new.self c.in-Some.node c.steps.invariant.way (taken_node c.steps.waiting c.take_least.new.self c.take_least.result c.in-Some.node c.in-Some.is c.take_least.ensures))

pub expand-requires-clause-choice : goal.expand-requires-clause-choice
expand-requires-clause-choice g c =
    subst (λ p. IsChoice p c.in-Some.node.plan c.in-Some-2.conflict) (sym c.in_ok-part.ensures.all)
    (subst (λ o. MatchOption o (HasNoConflict c.args.low.now.rule c.in-Some.node.plan) (IsChoice c.args.low.now c.in-Some.node.plan)) c.in-Some-2.is (subst (λ (p : Problem). MatchOption c.in_ok-conflict.field-0 (HasNoConflict p.rule c.in-Some.node.plan) (IsChoice p c.in-Some.node.plan)) c.in_ok-part.ensures.all c.in_ok-conflict.ensures))

pub steps-smaller : goal.steps-smaller
steps-smaller g c =
    let choice : IsChoice c.args.low.now c.in-Some.node.plan c.in-Some-2.conflict = subst (λ o. MatchOption o (HasNoConflict c.args.low.now.rule c.in-Some.node.plan) (IsChoice c.args.low.now c.in-Some.node.plan)) c.in-Some-2.is (subst (λ (p : Problem). MatchOption c.in_ok-conflict.field-0 (HasNoConflict p.rule c.in-Some.node.plan) (IsChoice p c.in-Some.node.plan)) c.in_ok-part.ensures.all c.in_ok-conflict.ensures) in
    expansion_works c.args.low.now c.steps.waiting c.expand.new.waiting c.steps.invariant.way.free
    (expands c.args.low.now c.steps.waiting c.take_least.new.self c.expand.new.waiting c.in-Some.node c.in-Some-2.conflict (taken_node c.steps.waiting c.take_least.new.self c.take_least.result c.in-Some.node c.in-Some.is c.take_least.ensures) choice (subst (λ p. PutsSides p c.in-Some.node c.in-Some-2.conflict c.take_least.new.self c.expand.new.waiting) c.in_ok-part.ensures.all c.in_ok-expand.ensures))

pub steps-preserved : goal.steps-preserved
steps-preserved g c =
    let choice : IsChoice c.args.low.now c.in-Some.node.plan c.in-Some-2.conflict = subst (λ o. MatchOption o (HasNoConflict c.args.low.now.rule c.in-Some.node.plan) (IsChoice c.args.low.now c.in-Some.node.plan)) c.in-Some-2.is (subst (λ (p : Problem). MatchOption c.in_ok-conflict.field-0 (HasNoConflict p.rule c.in-Some.node.plan) (IsChoice p c.in-Some.node.plan)) c.in_ok-part.ensures.all c.in_ok-conflict.ensures) in
    let step = expands c.args.low.now c.steps.waiting c.take_least.new.self c.expand.new.waiting c.in-Some.node c.in-Some-2.conflict (taken_node c.steps.waiting c.take_least.new.self c.take_least.result c.in-Some.node c.in-Some.is c.take_least.ensures) choice (subst (λ p. PutsSides p c.in-Some.node c.in-Some-2.conflict c.take_least.new.self c.expand.new.waiting) c.in_ok-part.ensures.all c.in_ok-expand.ensures) in
    record {
      way = expansion_covers c.args.low.now c.steps.waiting c.expand.new.waiting c.steps.invariant.way step;
      known = c.steps.invariant.known;
      told = subst (λ n. IsTelling g.W.Watch.told c.args.low.now c.args.most n c.args.watch.now c.nodes_expanded-in-steps.new.self c.expand.new.waiting) (sym c.saturating_add-nodes.ensures)
          (telling_expands g.W.Watch.told c.args.low.now c.args.most c.steps.nodes c.label-least.result c.args.watch.now c.steps.watch c.nodes_expanded-in-steps.new.self c.steps.waiting c.steps.invariant.told
          (inr (c.in-Some.node, c.take_least.new.self, (taken_node c.steps.waiting c.take_least.new.self c.take_least.result c.in-Some.node c.in-Some.is c.take_least.ensures), c.label-least.ensures)) c.nodes_expanded-in-steps.ensures c.expand.new.waiting step (λ e. let reached = c.is_limit.ensures.1 e in let below = c.if-is_limit.false in cc));
    }
