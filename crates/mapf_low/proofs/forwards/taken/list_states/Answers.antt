use Rattle.std.proofs.Common.{◌≡◌, ◌<◌, [], length, Contains, subst, sym, ◌∙◌, arith}
use Rattle.std.proofs.lemmas.List.{get_or_default}
use Rattle.mapf_low.proofs.Ending.{ends_by_bound}
use Rattle.mapf_low.proofs.Rising.{not_true}
use Rattle.mapf_low.specs.Query.{MayEnd}
use Rattle.mapf_low.specs.Forwards.FLevels.{level_at}
use Rattle.mapf_low.proofs.forwards.Taking.{lists_next, all_taken, none_taken}
use Rattle.mapf_low.proofs.forwards.taken.list_states.Goals as goal

pub list_level-requires-clause-within : goal.list_level-requires-clause-within
list_level-requires-clause-within c =
    let inside : c.loop-more.more < length c.in_ok-searched.searched.levels.items = omega arith in
    let is : c.index.result.now ≡ level_at c.in_ok-searched.searched.levels.items c.loop-more.more = c.index.ensures ∙ get_or_default c.in_ok-searched.searched.levels.items c.loop-more.more c.index.result.now [] inside in
    λ v i. c.in_ok-searched.ensures.searched.placed c.loop-more.more v (subst (λ xs. Contains xs v) is i)

pub loop-more-preserved : goal.loop-more-preserved
loop-more-preserved c =
    let inside : c.loop-more.more < length c.in_ok-searched.searched.levels.items = omega arith in
    let is : c.index.result.now ≡ level_at c.in_ok-searched.searched.levels.items c.loop-more.more = c.index.ensures ∙ get_or_default c.in_ok-searched.searched.levels.items c.loop-more.more c.index.result.now [] inside in
    lists_next c.args.query.now.table c.in_ok-searched.searched.nearest c.in_ok-searched.searched.levels.items c.loop-more.more c.index.result.now c.loop-more.states.items c.list_level.new.states.items is c.loop-more.invariant c.in_ok-list_level.ensures

pub returns : goal.returns
returns c =
    let whole : c.loop-more.more ≡ length c.in_ok-searched.searched.levels.items = omega arith in
    all_taken c.args.query.now c.in_ok-searched.searched.nearest c.in_ok-searched.searched.levels.items
    c.in_ok-searched.searched.end c.in_ok-searched._path c.loop-more.states.items c.loop-more.more c.bound.ensures.posed c.requires c.in_ok-searched.ensures.searched c.in_ok-searched.ensures.path c.in_ok-searched.ensures.end whole c.loop-more.invariant

pub returns-then-not-may_end : goal.returns-then-not-may_end
returns-then-not-may_end c =
    none_taken c.args.query.now c.new-states.result.items c.new-states.ensures.items
    (λ p a. not_true c.may_end.result (MayEnd c.args.query.now c.bound.result) c.may_end.ensures c.if-not-may_end.true (subst (MayEnd c.args.query.now) (sym c.bound.ensures.bound) (ends_by_bound c.args.query.now p a)))
