use Rattle.std.proofs.Common.{◌≡◌, ◌+◌, ◌-◌, ◌<◌, slice_index, Some, subst, subst₂, sym, ap, ◌∙◌, arith}
use Rattle.std.proofs.lemmas.List.{get_or_default}
use Rattle.mapf_grid.specs.Grid.{IsFree, cells}
use Rattle.mapf_low.specs.Backwards.Tracing.{CanBe, IsLeft, IsJoined, IsTraced}
use Rattle.mapf_low.specs.Best.{IsSmallest}
use Rattle.mapf_low.specs.Reached.{ComesFrom}
use Rattle.mapf_low.proofs.backwards.Placing.{IsPlaced, placed_more, placed_fewer, placed_free, placed_inside, placed_all, not_can, dead_more}
use Rattle.mapf_low.proofs.backwards.trace.Goals as goal

pub smallest_before-requires : goal.smallest_before-requires
smallest_before-requires c =
    let query = c.args.query.now in
    let path = c.loop-time.cells.items in
    let at : slice_index path c.loop-time.time ≡ c.index-cell.result.now =
    sym (c.index-cell.ensures ∙ get_or_default path c.loop-time.time c.index-cell.result.now 0 (omega (arith, c.loop-time.invariant.placed.long, c.loop-time.invariant.inside))) in
    record {
      free = subst (IsFree query.grid) at (placed_free query c.args.end c.loop-time.dead.states path c.loop-time.time c.loop-time.invariant.inside c.goal-goal.ensures.posed c.loop-time.invariant.placed);
      inside = subst (λ v. v < cells query.grid) at (placed_inside query c.args.end c.loop-time.dead.states path c.loop-time.time c.loop-time.invariant.inside c.goal-goal.ensures.posed c.loop-time.invariant.placed);
      early = omega (arith, c.loop-time.invariant.inside, c.requires.end, c.goal-goal.ensures.posed.bound);
    }

pub loop-time-preserved-in-Some : goal.loop-time-preserved-in-Some
loop-time-preserved-in-Some c =
    let query = c.args.query.now in
    let t = c.loop-time.time - 1 in
    let path = c.loop-time.cells.items in
    let up : c.loop-time.time ≡ t + 1 = omega arith in
    let at : c.index-cell.result.now ≡ slice_index path (t + 1) =
    subst (λ k. c.index-cell.result.now ≡ slice_index path k) up
    (c.index-cell.ensures ∙ get_or_default path c.loop-time.time c.index-cell.result.now 0 (omega (arith, c.loop-time.invariant.placed.long, c.loop-time.invariant.inside))) in
    record {
      inside = omega (arith, c.loop-time.invariant.inside);
      placed = placed_more query c.args.end c.loop-time.dead.states path t c.index-cell.result.now c.in-Some.before
          (omega (arith, c.loop-time.invariant.inside)) c.requires.end c.requires.earliest c.loop-time.invariant.dead
          (subst (λ k. IsPlaced query c.loop-time.dead.states path k c.args.end) up c.loop-time.invariant.placed) at
          (subst (IsSmallest (ComesFrom query (t + 1) (IsLeft query c.loop-time.dead.states t) c.index-cell.result.now)) c.in-Some.is c.smallest_before.ensures);
      dead = c.loop-time.invariant.dead;
    }

pub returns-then-time-end-clause-path : goal.returns-then-time-end-clause-path
returns-then-time-end-clause-path c =
    let query = c.args.query.now in
    let t = c.loop-time.time - 1 in
    let path = c.loop-time.cells.items in
    let last : c.loop-time.time ≡ c.args.end = omega arith in
    let at : c.index-cell.result.now ≡ query.goal =
    c.index-cell.ensures ∙ get_or_default path c.loop-time.time c.index-cell.result.now 0 (omega (arith, c.loop-time.invariant.placed.long, c.loop-time.invariant.inside))
    ∙ ap (λ k. slice_index path k) last ∙ c.loop-time.invariant.placed.ends in
    subst₂ (λ k v. ¬ CanBe query k v) (let e : t + 1 ≡ c.args.end = omega (arith, last) in e) at
    (not_can query c.loop-time.dead.states t c.index-cell.result.now (omega (arith, c.loop-time.invariant.inside, c.requires.end)) c.requires.earliest c.loop-time.invariant.dead
    (subst (IsSmallest (ComesFrom query (t + 1) (IsLeft query c.loop-time.dead.states t) c.index-cell.result.now)) c.in-None.is c.smallest_before.ensures))

pub returns-then-time-end-clause-dead : goal.returns-then-time-end-clause-dead
returns-then-time-end-clause-dead c =
    let query = c.args.query.now in
    let t = c.loop-time.time - 1 in
    dead_more query c.loop-time.dead.states t c.index-cell.result.now (omega (arith, c.loop-time.invariant.inside, c.requires.end)) c.requires.earliest c.loop-time.invariant.dead
    (subst (IsSmallest (ComesFrom query (t + 1) (IsLeft query c.loop-time.dead.states t) c.index-cell.result.now)) c.in-None.is c.smallest_before.ensures)
    c.add.new.self.states
    (subst (λ k. IsJoined (c.index-cell.result.now, k) c.loop-time.dead.states c.add.new.self.states) (let up : c.loop-time.time ≡ t + 1 = omega arith in up) c.in_ok-add-in-None-2.ensures.states)

pub loop-time-preserved : goal.loop-time-preserved
loop-time-preserved c =
    let query = c.args.query.now in
    let t = c.loop-time.time - 1 in
    record {
      inside = omega (arith, c.loop-time.invariant.inside);
      placed = placed_fewer query c.args.end c.loop-time.dead.states c.add.new.self.states c.loop-time.cells.items c.loop-time.time c.index-cell.result.now
          c.loop-time.invariant.placed c.in_ok-add-in-None-2.ensures.states;
      dead = dead_more query c.loop-time.dead.states t c.index-cell.result.now (omega (arith, c.loop-time.invariant.inside, c.requires.end)) c.requires.earliest c.loop-time.invariant.dead
          (subst (IsSmallest (ComesFrom query (t + 1) (IsLeft query c.loop-time.dead.states t) c.index-cell.result.now)) c.in-None.is c.smallest_before.ensures)
          c.add.new.self.states
          (subst (λ k. IsJoined (c.index-cell.result.now, k) c.loop-time.dead.states c.add.new.self.states) (let up : c.loop-time.time ≡ t + 1 = omega arith in up) c.in_ok-add-in-None-2.ensures.states);
    }

pub returns-clause-path : goal.returns-clause-path
returns-clause-path c =
    let none : c.loop-time.time ≡ 0 = omega arith in
    subst (λ p. IsTraced c.args.query.now c.args.end (Some p)) (sym (c.of.ensures ∙ ap (λ v. v.items) c.replace.ensures.value))
    (placed_all c.args.query.now c.args.end c.loop-time.dead.states c.loop-time.cells.items c.requires.earliest
    (subst (λ k. IsPlaced c.args.query.now c.loop-time.dead.states c.loop-time.cells.items k c.args.end) none c.loop-time.invariant.placed))
