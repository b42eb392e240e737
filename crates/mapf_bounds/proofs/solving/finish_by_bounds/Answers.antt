use Rattle.std.proofs.Common.{◌+◌, None, [], refl, subst, subst₂, sym, ap, ◌∙◌, arith}
use Rattle.mapf_plan.specs.declared.answer.Answer.TheVariants as answer
use Rattle.mapf_tree.specs.LowerBound.{IsBelowAll}
use Rattle.mapf_tree.specs.Problem.{Problem}
use Rattle.mapf_tree.specs.Search.{CountsTaken}
use Rattle.mapf_tree.specs.Tree.{IsAnswer}
use Rattle.mapf_tree.proofs.solutions.Descent.{none_is_none}
use Rattle.mapf_tree.proofs.high_level.GoingOn.{best_out}
use Rattle.mapf_bounds.specs.Bounds.{Bounding, IsRange}
use Rattle.mapf_bounds.specs.Below.{IsEnough}
use Rattle.mapf_bounds.specs.Waiting.{IsCovering, IsMoving}
use Rattle.mapf_bounds.proofs.Moving.{moves_first}
use Rattle.mapf_tree.proofs.high_level.LowerBounds.{stated_below}
use Rattle.mapf_bounds.specs.Told.{IsWatched}
use Rattle.mapf_bounds.proofs.Telling.{watched_behind, watched_empty}
use Rattle.mapf_bounds.proofs.Turns.{stated_answer}
use Rattle.mapf_bounds.proofs.solving.finish_by_bounds.Goals as goal

pub returns-in_default-clause-best : goal.returns-in_default-clause-best
returns-in_default-clause-best g c = (
  c.bound-bound.ensures.bound ∙ ap (λ (p : Problem). p.bound) c.into_waiting-open_list.ensures.problem,
  (none_is_none c.args.search.problem).0 (subst (λ (p : Problem). IsAnswer p None) c.into_waiting-open_list.ensures.problem (subst (IsRange c.into_waiting-open_list.result.0.now) c.in_default.is (subst (λ (q : Problem). IsRange q c.in_ok-range.field-0) c.in_ok-groups.ensures c.in_ok-range.ensures.range))),
)

pub search_by_bounds-requires-clause-enough : goal.search_by_bounds-requires-clause-enough
search_by_bounds-requires-clause-enough g c =
    subst (λ (b : Bounding). IsEnough b.problem b.most) (sym c.new-bounds.ensures)
    (subst (λ (q : Problem). IsEnough q c.in-Some.range.most) (sym (c.cost_range.ensures.same ∙ c.in_ok-groups.ensures)) (subst (IsRange c.into_waiting-open_list.result.0.now) c.in-Some.is (subst (λ (q : Problem). IsRange q c.in_ok-range.field-0) c.in_ok-groups.ensures c.in_ok-range.ensures.range)).1)

pub search_by_bounds-requires-clause-covering : goal.search_by_bounds-requires-clause-covering
search_by_bounds-requires-clause-covering g c =
    subst (λ (b : Bounding). IsCovering b.problem b.most c.in_ok-waiting.waiting.entries) (sym c.new-bounds.ensures)
    (subst (λ (q : Problem). IsCovering q c.in-Some.range.most c.in_ok-waiting.waiting.entries) (sym (c.cost_range.ensures.same ∙ c.in_ok-groups.ensures))
    (c.in_ok-waiting.ensures c.into_waiting-open_list.result.0.now (subst (IsRange c.into_waiting-open_list.result.0.now) c.in-Some.is (subst (λ (q : Problem). IsRange q c.in_ok-range.field-0) c.in_ok-groups.ensures c.in_ok-range.ensures.range)).0
    (subst (λ (p : Problem). IsMoving p c.in-Some.range.most c.into_waiting-open_list.result.1 []) (sym c.into_waiting-open_list.ensures.problem)
    (moves_first c.in-Some.range.most c.args.search c.into_waiting-open_list.result.1 c.into_waiting-open_list.ensures.search c.requires.open_yet c.into_waiting-open_list.ensures.waiting))))

pub returns-clause-best : goal.returns-clause-best
returns-clause-best g c =
    best_out c.args.search.problem c.search_by_bounds.result
    (stated_answer c.new-bounds.result.problem c.args.search.problem c.search_by_bounds.result (ap (λ (b : Bounding). b.problem) c.new-bounds.ensures ∙ c.cost_range.ensures.same ∙ c.in_ok-groups.ensures ∙ c.into_waiting-open_list.ensures.problem) c.requires.unlimited c.search_by_bounds.ensures.stated)

pub returns-in_default-clause-told : goal.returns-in_default-clause-told
returns-in_default-clause-told g c =
    let p = c.into_waiting-open_list.result.0.now in
    let none = subst (IsRange p) c.in_default.is (subst (λ (q : Problem). IsRange q c.in_ok-range.field-0) c.in_ok-groups.ensures c.in_ok-range.ensures.range) in
    let below = subst (IsBelowAll p) (omega (arith, c.from.ensures, c.bound-bound.ensures.bound)) (stated_below p (answer.None p.bound) (None, none, refl)) in (
      subst (CountsTaken c.args.search.problem c.args.search.last) c.taken_nodes-nodes.ensures.is c.taken_nodes-nodes.ensures.taken,
      subst₂ (λ q n. IsWatched g.W.Watch.told q n c.args.watch.now c.nodes_expanded.new.self (answer.None c.bound-bound.result)) c.into_waiting-open_list.ensures.problem c.taken_nodes-nodes.ensures.is
          (watched_empty g.W.Watch.told p c.taken_nodes-nodes.result (c.from.result + 1) c.args.watch.now c.nodes_expanded.new.self (answer.None c.bound-bound.result) none below c.nodes_expanded.ensures (ap (λ n. n + 1) c.from.ensures)),
    )

pub returns-clause-told : goal.returns-clause-told
returns-clause-told g c =
    watched_behind g.W.Watch.told c.new-bounds.result.problem c.args.search.problem c.args.search.last c.taken_nodes-nodes.result c.args.search.taken c.args.watch.now c.search_by_bounds.new.watch c.search_by_bounds.result
    (ap (λ (b : Bounding). b.problem) c.new-bounds.ensures ∙ c.cost_range.ensures.same ∙ c.in_ok-groups.ensures ∙ c.into_waiting-open_list.ensures.problem) c.taken_nodes-nodes.ensures.is c.taken_nodes-nodes.ensures.taken c.search_by_bounds.ensures.told

pub returns-clause-answer : goal.returns-clause-answer
returns-clause-answer g c =
    stated_answer c.new-bounds.result.problem c.args.search.problem c.search_by_bounds.result (ap (λ (b : Bounding). b.problem) c.new-bounds.ensures ∙ c.cost_range.ensures.same ∙ c.in_ok-groups.ensures ∙ c.into_waiting-open_list.ensures.problem) c.requires.unlimited
    c.search_by_bounds.ensures.stated
