use Rattle.std.proofs.Common.{subst, ap, ◌∙◌}
use Rattle.mapf_low.specs.declared.lookup.Lookup.TheVariants.{Known}
use Rattle.mapf_tree.specs.Prelude.{IfKnown, IsFreeSide}
use Rattle.mapf_tree.proofs.own_paths.FreeSideCosts.{path_known, stays_free}
use Rattle.mapf_tree.proofs.own_paths.path_cache.PathCache.side_plan.Goals as goal

pub with_side-requires-clause-free : goal.with_side-requires-clause-free
with_side-requires-clause-free c = stays_free c.args.self.now c.free_side.new.self c.args.free.now c.in_ok-found.ensures.grows c.requires.free

pub with_side-requires-clause-path : goal.with_side-requires-clause-path
with_side-requires-clause-path c =
    path_known c.free_side.new.self c.args.free.now c.args.conflict.now c.args.side c.in-Known-Some.found
    (subst (λ found. IfKnown found (IsFreeSide c.free_side.new.self c.args.free.now c.args.conflict.now c.args.side c.args.most)) (c.in-Known-Some.is ∙ ap Known c.in-Known-Some.field-0-is) c.in_ok-found.ensures.side).0
