use Rattle.std.proofs.Common.{◌≡◌}
use Rattle.mapf_tree.specs.Prelude.{Grows}
use Rattle.mapf_tree.proofs.own_paths.path_cache.PathCache.add_rises.Given as goal

abbrev pub invariant-loop-place : goal.invariant-loop-place
invariant-loop-place l = record {
  tables : l.tables ≡ l.fn.tables;
  grows : Grows l.fn.self l.self;
  sets : l.free.sets ≡ l.fn.free.sets;
  plan : l.free.plan ≡ l.fn.free.plan;
  cost : l.free.cost ≡ l.fn.free.cost;
}
