use Rattle.std.proofs.Common.{◌<◌, ap, refl, subst, sym, ◌∙◌}
use Rattle.mapf_tree.specs.LowerBound.{IsBelowAll}
use Rattle.mapf_tree.specs.Told.{IsEndOf}
use Rattle.mapf_bounds.specs.Bounds.{Bounding}
use Rattle.mapf_bounds.specs.Below.{IsEnough}
use Rattle.mapf_bounds.specs.Waiting.{Branches, GoesOn, IsCovering, IsTurn}
use Rattle.mapf_tree.proofs.high_level.LowerBounds.{stated_below}
use Rattle.mapf_bounds.proofs.Telling.{IsTellingBy, by_begins, by_ends, by_expands, by_goes, stated_ends}
use Rattle.mapf_bounds.proofs.Turns.{branches_cover, goes_on_covers}
use Rattle.mapf_bounds.proofs.Weights.{branches_fall, goes_on_falls, total}
use Rattle.mapf_bounds.proofs.solving.search_by_bounds.Goals as goal

pub turn-requires-clause-enough : goal.turn-requires-clause-enough
turn-requires-clause-enough g c = subst (λ (b : Bounding). IsEnough b.problem b.most) (sym c.turns.invariant.2) c.requires.enough

pub turns-smaller-in-Raised : goal.turns-smaller-in-Raised
turns-smaller-in-Raised g c =
    subst (λ (b : Bounding). total b.problem c.turn.new.waiting.entries < total c.turns.bounds.problem c.turns.waiting.entries) (sym c.in_ok-outcome.ensures.bounds)
    (goes_on_falls c.turns.bounds.problem c.turns.bounds.most c.turns.waiting.entries c.turn.new.waiting.entries (subst (IsTurn c.turns.bounds.problem c.turns.bounds.most c.turns.waiting.entries c.turn.new.waiting.entries) c.in-Raised.is c.in_ok-outcome.ensures.turn))

pub turns-preserved-in-Raised : goal.turns-preserved-in-Raised
turns-preserved-in-Raised g c = (
  subst (λ (b : Bounding). IsCovering b.problem b.most c.turn.new.waiting.entries) (sym c.in_ok-outcome.ensures.bounds)
      (goes_on_covers c.turns.bounds.problem c.turns.bounds.most c.turns.waiting.entries c.turn.new.waiting.entries (subst (IsTurn c.turns.bounds.problem c.turns.bounds.most c.turns.waiting.entries c.turn.new.waiting.entries) c.in-Raised.is c.in_ok-outcome.ensures.turn) c.turns.invariant.0),
  c.in_ok-outcome.ensures.paths ∙ c.turns.invariant.1 ∙ ap (λ (b : Bounding). b.problem) (sym c.in_ok-outcome.ensures.bounds),
  c.in_ok-outcome.ensures.bounds ∙ c.turns.invariant.2,
  by_goes g.W.Watch.told c.args.bounds c.args.nodes c.turns.nodes c.args.watch.now c.turns.watch c.turns.waiting.entries c.turn.new.waiting.entries c.turns.invariant.3
      (subst (λ (b : Bounding). GoesOn b.problem b.most c.turns.waiting.entries c.turn.new.waiting.entries) c.turns.invariant.2
      (subst (IsTurn c.turns.bounds.problem c.turns.bounds.most c.turns.waiting.entries c.turn.new.waiting.entries) c.in-Raised.is c.in_ok-outcome.ensures.turn)),
)

pub turns-smaller : goal.turns-smaller
turns-smaller g c =
    subst (λ (b : Bounding). total b.problem c.turn.new.waiting.entries < total c.turns.bounds.problem c.turns.waiting.entries) (sym c.in_ok-outcome.ensures.bounds)
    (branches_fall c.turns.bounds.problem c.turns.bounds.most c.turns.waiting.entries c.turn.new.waiting.entries (subst (IsTurn c.turns.bounds.problem c.turns.bounds.most c.turns.waiting.entries c.turn.new.waiting.entries) c.in-Expanded.is c.in_ok-outcome.ensures.turn).0)

pub turns-preserved : goal.turns-preserved
turns-preserved g c = (
  subst (λ (b : Bounding). IsCovering b.problem b.most c.turn.new.waiting.entries) (sym c.in_ok-outcome.ensures.bounds)
      (branches_cover c.turns.bounds.problem c.turns.bounds.most c.turns.waiting.entries c.turn.new.waiting.entries (subst (IsTurn c.turns.bounds.problem c.turns.bounds.most c.turns.waiting.entries c.turn.new.waiting.entries) c.in-Expanded.is c.in_ok-outcome.ensures.turn).0 c.turns.invariant.0),
  c.in_ok-outcome.ensures.paths ∙ c.turns.invariant.1 ∙ ap (λ (b : Bounding). b.problem) (sym c.in_ok-outcome.ensures.bounds),
  c.in_ok-outcome.ensures.bounds ∙ c.turns.invariant.2,
  (let turned = subst (IsTurn c.turns.bounds.problem c.turns.bounds.most c.turns.waiting.entries c.turn.new.waiting.entries) c.in-Expanded.is c.in_ok-outcome.ensures.turn in
      subst (λ n. IsTellingBy g.W.Watch.told c.args.bounds c.args.nodes n c.args.watch.now c.nodes_expanded.new.self c.turn.new.waiting.entries) (sym c.saturating_add-nodes.ensures)
      (by_expands g.W.Watch.told c.args.bounds c.args.nodes c.turns.nodes c.in-Expanded.least c.args.watch.now c.turns.watch c.nodes_expanded.new.self c.turns.waiting.entries c.turns.invariant.3
      (subst (λ (b : Bounding). IsBelowAll b.problem c.in-Expanded.least) c.turns.invariant.2 turned.1) c.nodes_expanded.ensures c.turn.new.waiting.entries
      (subst (λ (b : Bounding). Branches b.problem b.most c.turns.waiting.entries c.turn.new.waiting.entries) c.turns.invariant.2 turned.0))),
)

pub turns-init : goal.turns-init
turns-init g c = (c.requires.covering, c.requires.paths, refl, by_begins g.W.Watch.told c.args.bounds c.args.nodes c.args.watch.now c.args.waiting.entries c.requires.covering)

pub returns-in-Ended-clause-told : goal.returns-in-Ended-clause-told
returns-in-Ended-clause-told g c =
    let stated = subst (IsTurn c.turns.bounds.problem c.turns.bounds.most c.turns.waiting.entries c.turn.new.waiting.entries) c.in-Ended.is c.in_ok-outcome.ensures.turn in
    by_ends g.W.Watch.told c.args.bounds c.args.nodes c.turns.nodes c.least_stated.result c.args.watch.now c.turns.watch c.nodes_expanded-in-Ended.new.self c.turns.waiting.entries c.turns.invariant.3
    (subst (λ (b : Bounding). IsBelowAll b.problem c.least_stated.result) c.turns.invariant.2 (subst (IsBelowAll c.turns.bounds.problem) (sym c.least_stated.ensures) (stated_below c.turns.bounds.problem c.in-Ended.answer stated)))
    c.nodes_expanded-in-Ended.ensures c.in-Ended.answer
    (subst (λ n. IsEndOf (record { nodes = c.turns.nodes; least = n }) c.in-Ended.answer) (sym c.least_stated.ensures) (stated_ends c.turns.bounds.problem c.in-Ended.answer c.turns.nodes stated))
