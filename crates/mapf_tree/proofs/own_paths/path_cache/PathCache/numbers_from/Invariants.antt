use Rattle.std.proofs.Common.{◌≡◌}
use Rattle.mapf_tree.specs.Prelude.{IsPlanUpTo}
use Rattle.mapf_tree.proofs.own_paths.path_cache.PathCache.numbers_from.Given as goal

abbrev pub invariant-loop-agent : goal.invariant-loop-agent
invariant-loop-agent l = (l.self ≡ l.fn.self) × IsPlanUpTo l.fn.self l.node l.agent l.plan
