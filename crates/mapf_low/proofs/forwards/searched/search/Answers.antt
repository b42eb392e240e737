use Rattle.std.proofs.Common.{◌≡◌, ◌≤◌, ◌+◌, ◌∷◌, [], ◌++◌, length, subst, subst₂, sym, ap, ◌∙◌, arith, length-append}
use Rattle.mapf_low.specs.Walk.{distance_at}
use Rattle.mapf_low.specs.Forwards.FLevels.{IsAdded, ArePlaced}
use Rattle.mapf_low.specs.Reached.{IsUsable}
use Rattle.mapf_low.proofs.Rising.{not_true}
use Rattle.mapf_low.proofs.forwards.FLevelStates.{ground_of, match_at}
use Rattle.mapf_low.proofs.forwards.Searching.{IsSearching}
use Rattle.mapf_low.proofs.forwards.FLevelLists.{Has, all, search_first, placed_now, searched_here, search_on, searched_empty, whole_search, before_end, never_arrives, searched_none, searched_as}
use Rattle.mapf_low.proofs.forwards.searched.search.Goals as goal

pub loop-sum-init : goal.loop-sum-init
loop-sum-init c =
    let ground = ground_of c.args.query.now c.start-start.result c.unwrap-nearest.result c.entry.result c.bound-bound.ensures.posed c.requires c.start-start.ensures.start c.entry.ensures c.unwrap-nearest.ensures in
    let none : c.new-levels.result.items ≡ [] = c.new-levels.ensures.items in
    record {
      long = omega (arith, ap length none);
      searching =
          search_first c.args.query.now c.unwrap-nearest.result ground c.new-levels.result.items c.make_room.new.self c.add.new.self c.new-next.result c.new-after.result
          none (c.in_ok-make_room.ensures ∙ c.new-now.ensures) c.new-next.ensures c.new-after.ensures c.bound-bound.ensures.posed.start
          (subst (λ s. IsUsable c.args.query.now c.args.query.now.bound 0 s) c.start-start.ensures.start (c.is_usable.ensures.0 c.if-not-is_usable.false)).0 (subst (λ s. IsAdded s c.make_room.new.self c.add.new.self) c.start-start.ensures.start c.in_ok-add.ensures);
    }

pub expand_level-requires-clause-placed : goal.expand_level-requires-clause-placed
expand_level-requires-clause-placed c =
    let ground = ground_of c.args.query.now c.start-start.result c.unwrap-nearest.result c.entry.result c.bound-bound.ensures.posed c.requires c.start-start.ensures.start c.entry.ensures c.unwrap-nearest.ensures in
    subst (λ n. ArePlaced c.args.query.now n c.loop-sum.now) (sym c.loop-sum.invariant.long)
    (placed_now c.args.query.now c.unwrap-nearest.result ground c.loop-sum.levels.items c.loop-sum.now c.loop-sum.next c.loop-sum.after c.loop-sum.invariant.searching)

pub returns-then-can_end-clause-searched : goal.returns-then-can_end-clause-searched
returns-then-can_end-clause-searched c =
    let ground = ground_of c.args.query.now c.start-start.result c.unwrap-nearest.result c.entry.result c.bound-bound.ensures.posed c.requires c.start-start.ensures.start c.entry.ensures c.unwrap-nearest.ensures in
    searched_as c.of-then-can_end.ensures.nearest (c.of-then-can_end.ensures.levels ∙ c.in_ok-push.ensures.items) c.of-then-can_end.ensures.end
    (searched_here c.args.query.now c.unwrap-nearest.result ground c.loop-sum.levels.items c.loop-sum.now c.loop-sum.next c.loop-sum.after c.loop-sum.invariant.searching
    c.loop-sum.sum c.loop-sum.invariant.long c.expand_level.new.level c.in_ok-expand_level.ensures.closes c.in_ok-expand_level.ensures.placed
    (omega arith) (c.can_end.ensures.0 c.if-can_end.true))

pub returns-then-is_empty-2-clause-searched : goal.returns-then-is_empty-2-clause-searched
returns-then-is_empty-2-clause-searched c =
    let ground = ground_of c.args.query.now c.start-start.result c.unwrap-nearest.result c.entry.result c.bound-bound.ensures.posed c.requires c.start-start.ensures.start c.entry.ensures c.unwrap-nearest.ensures in
    searched_as c.of-then-is_empty-2.ensures.nearest (c.of-then-is_empty-2.ensures.levels ∙ c.in_ok-push-2.ensures.items) c.of-then-is_empty-2.ensures.end
    (searched_empty c.args.query.now c.unwrap-nearest.result ground c.loop-sum.levels.items c.loop-sum.now c.loop-sum.next c.loop-sum.after c.loop-sum.invariant.searching
    c.loop-sum.sum c.loop-sum.invariant.long c.expand_level.new.level c.in_ok-expand_level.ensures.closes c.in_ok-expand_level.ensures.placed
    c.fill_later_levels.new.next c.fill_later_levels.new.after c.in_ok-fill_later_levels.ensures.next c.in_ok-fill_later_levels.ensures.after
    (not_true _ _ c.can_end.ensures c.if-can_end.false)
    (c.is_empty.ensures.0 c.if-is_empty.true) (c.is_empty-then-is_empty.ensures.0 c.if-is_empty-2.true) (omega arith))

pub loop-sum-preserved : goal.loop-sum-preserved
loop-sum-preserved c =
    let ground = ground_of c.args.query.now c.start-start.result c.unwrap-nearest.result c.entry.result c.bound-bound.ensures.posed c.requires c.start-start.ensures.start c.entry.ensures c.unwrap-nearest.ensures in
    let is : c.push-in-loop-sum.new.self.items ≡ c.loop-sum.levels.items ++ c.expand_level.new.level ∷ [] = c.in_ok-push-2.ensures.items in
    record {
      long = omega (arith, c.loop-sum.invariant.long, length-append c.loop-sum.levels.items (c.expand_level.new.level ∷ []), ap length is);
      searching =
          subst₂ (λ ls xs. IsSearching c.args.query.now c.unwrap-nearest.result (length ls) (Has (all ls c.fill_later_levels.new.next c.fill_later_levels.new.after xs)))
          (sym is) (sym c.new-after-in-loop-sum.ensures)
          (search_on c.args.query.now c.unwrap-nearest.result ground c.loop-sum.levels.items c.loop-sum.now c.loop-sum.next c.loop-sum.after c.loop-sum.invariant.searching
          c.loop-sum.sum c.loop-sum.invariant.long c.expand_level.new.level c.in_ok-expand_level.ensures.closes c.in_ok-expand_level.ensures.placed
          c.fill_later_levels.new.next c.fill_later_levels.new.after c.in_ok-fill_later_levels.ensures.next c.in_ok-fill_later_levels.ensures.after
          (not_true _ _ c.can_end.ensures c.if-can_end.false));
    }

pub returns-clause-searched : goal.returns-clause-searched
returns-clause-searched c =
    let ground = ground_of c.args.query.now c.start-start.result c.unwrap-nearest.result c.entry.result c.bound-bound.ensures.posed c.requires c.start-start.ensures.start c.entry.ensures c.unwrap-nearest.ensures in
    let long = c.loop-sum.invariant.long in
    let near : 0 + c.unwrap-nearest.result ≤ c.args.query.now.bound = match_at (distance_at c.args.query.now.table c.args.query.now.start) c.unwrap-nearest.result (λ n. 0 + n ≤ c.args.query.now.bound) ground.nearest_is (subst (λ s. IsUsable c.args.query.now c.args.query.now.bound 0 s) c.start-start.ensures.start (c.is_usable.ensures.0 c.if-not-is_usable.false)).1 in
    let last : c.loop-sum.sum ≡ c.args.query.now.bound + 1 = omega (arith, near) in
    searched_as c.of-2.ensures.nearest c.of-2.ensures.levels c.of-2.ensures.end (
    searched_none c.args.query.now c.unwrap-nearest.result ground c.loop-sum.levels.items
    (whole_search c.args.query.now c.unwrap-nearest.result ground c.loop-sum.levels.items c.loop-sum.now c.loop-sum.next c.loop-sum.after c.loop-sum.invariant.searching c.args.query.now.bound (omega (arith, long, last)) (λ k v l m. absurd (omega (arith, l, m, long, last))))
    (λ t _. never_arrives c.args.query.now c.unwrap-nearest.result ground c.loop-sum.levels.items (before_end c.args.query.now c.unwrap-nearest.result ground c.loop-sum.levels.items c.loop-sum.now c.loop-sum.next c.loop-sum.after c.loop-sum.invariant.searching) t)
    (omega (arith, long, last))
    )
