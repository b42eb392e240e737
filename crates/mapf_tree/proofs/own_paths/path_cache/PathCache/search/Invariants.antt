use Rattle.std.proofs.Common.{◌≡◌}
use Rattle.mapf_tree.specs.Prelude.{Grows}
use Rattle.mapf_tree.proofs.own_paths.FreeSearches.{AreFree, LeadsTo}
use Rattle.mapf_tree.proofs.own_paths.path_cache.PathCache.search.Given as goal

abbrev pub invariant-loop-step : goal.invariant-loop-step
invariant-loop-step l = record {
  tables : l.tables ≡ l.fn.tables;
  grows : Grows l.fn.self l.self;
  free : AreFree l.self l.waiting.items;
  leads : LeadsTo l.most l.fn.self l.fn.waiting.items l.self l.waiting.items;
}
