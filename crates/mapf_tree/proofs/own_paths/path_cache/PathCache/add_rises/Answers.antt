use Rattle.std.proofs.Common.{refl, ◌∙◌}
use Rattle.mapf_tree.proofs.own_paths.FreeSearches.{grows_itself, grows_on, still_free, conflict_kept, tables_kept, most_kept}
use Rattle.mapf_tree.proofs.own_paths.path_cache.PathCache.add_rises.Goals as goal

pub loop-place-init : goal.loop-place-init
loop-place-init c = record { tables = refl; grows = grows_itself c.args.self.now; sets = refl; plan = refl; cost = refl }

pub conflict_at-requires : goal.conflict_at-requires
conflict_at-requires c =
    let inv = c.loop-place.invariant in
    (still_free c.args.self.now c.loop-place.self c.args.free.now c.loop-place.free inv.grows inv.sets inv.plan inv.cost c.requires.free).1.plan

pub rise-requires-clause-tables : goal.rise-requires-clause-tables
rise-requires-clause-tables c = tables_kept c.args.self.now c.loop-place.self c.args.tables.now c.loop-place.tables c.loop-place.invariant.grows c.loop-place.invariant.tables c.requires.tables

pub rise-requires-clause-free : goal.rise-requires-clause-free
rise-requires-clause-free c =
    let inv = c.loop-place.invariant in
    still_free c.args.self.now c.loop-place.self c.args.free.now c.loop-place.free inv.grows inv.sets inv.plan inv.cost c.requires.free

pub rise-requires-clause-most : goal.rise-requires-clause-most
rise-requires-clause-most c = most_kept c.args.self.now c.loop-place.self c.args.most c.loop-place.invariant.grows c.requires.most

pub returns-in_err-left-clause-grows : goal.returns-in_err-left-clause-grows
returns-in_err-left-clause-grows c = grows_on c.args.self.now c.loop-place.self c.rise.new.self c.loop-place.invariant.grows c.rise.ensures.grows

pub rise-requires-in-loop-place-clause-tables : goal.rise-requires-in-loop-place-clause-tables
rise-requires-in-loop-place-clause-tables c =
    let inv = c.loop-place.invariant in
    tables_kept c.args.self.now c.rise.new.self c.args.tables.now c.rise.new.tables (grows_on c.args.self.now c.loop-place.self c.rise.new.self inv.grows c.rise.ensures.grows) (c.rise.ensures.tables ∙ inv.tables) c.requires.tables

pub rise-requires-in-loop-place-clause-free : goal.rise-requires-in-loop-place-clause-free
rise-requires-in-loop-place-clause-free c =
    let inv = c.loop-place.invariant in
    still_free c.args.self.now c.rise.new.self c.args.free.now c.loop-place.free (grows_on c.args.self.now c.loop-place.self c.rise.new.self inv.grows c.rise.ensures.grows) inv.sets inv.plan inv.cost c.requires.free

pub rise-requires-in-loop-place-clause-conflict : goal.rise-requires-in-loop-place-clause-conflict
rise-requires-in-loop-place-clause-conflict c =
    let inv = c.loop-place.invariant in
    conflict_kept c.loop-place.self c.rise.new.self c.loop-place.free c.in-Some-conflict_at.conflict c.rise.ensures.grows
    (still_free c.args.self.now c.loop-place.self c.args.free.now c.loop-place.free inv.grows inv.sets inv.plan inv.cost c.requires.free) c.in-Some-conflict_at.ensures

pub rise-requires-in-loop-place-clause-most : goal.rise-requires-in-loop-place-clause-most
rise-requires-in-loop-place-clause-most c =
    most_kept c.args.self.now c.rise.new.self c.args.most (grows_on c.args.self.now c.loop-place.self c.rise.new.self c.loop-place.invariant.grows c.rise.ensures.grows) c.requires.most

pub returns-in_err-right-clause-grows : goal.returns-in_err-right-clause-grows
returns-in_err-right-clause-grows c =
    grows_on c.args.self.now c.rise.new.self c.rise-in-loop-place.new.self (grows_on c.args.self.now c.loop-place.self c.rise.new.self c.loop-place.invariant.grows c.rise.ensures.grows) c.rise-in-loop-place.ensures.grows

pub returns-in_err-push-clause-grows : goal.returns-in_err-push-clause-grows
returns-in_err-push-clause-grows c =
    grows_on c.args.self.now c.rise.new.self c.rise-in-loop-place.new.self (grows_on c.args.self.now c.loop-place.self c.rise.new.self c.loop-place.invariant.grows c.rise.ensures.grows) c.rise-in-loop-place.ensures.grows

pub loop-place-preserved : goal.loop-place-preserved
loop-place-preserved c =
    let inv = c.loop-place.invariant in record {
      tables = c.rise-in-loop-place.ensures.tables ∙ c.rise.ensures.tables ∙ inv.tables;
      grows = grows_on c.args.self.now c.rise.new.self c.rise-in-loop-place.new.self (grows_on c.args.self.now c.loop-place.self c.rise.new.self inv.grows c.rise.ensures.grows) c.rise-in-loop-place.ensures.grows;
      sets = inv.sets;
      plan = inv.plan;
      cost = inv.cost;
    }
