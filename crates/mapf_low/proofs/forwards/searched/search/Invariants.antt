use Rattle.std.proofs.Common.{◌≡◌, ◌+◌, length}
use Rattle.mapf_low.proofs.forwards.Searching.{IsSearching}
use Rattle.mapf_low.proofs.forwards.FLevelLists.{Has, all}
use Rattle.mapf_low.proofs.forwards.searched.search.Given as goal

abbrev pub invariant-loop-sum : goal.invariant-loop-sum
invariant-loop-sum l =
    record {
      long : l.sum ≡ l.nearest + length l.levels.items;
      searching : IsSearching l.query l.nearest (length l.levels.items) (Has (all l.levels.items l.now l.next l.after));
    }
