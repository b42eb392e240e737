use Rattle.std.proofs.Common.{None, MatchOption, subst}
use Rattle.std.proofs.lemmas.List.Sorted.{IsPermutation-refl}
use Rattle.mapf_tree.specs.Family.{AreRootPaths, IsRoot}
use Rattle.mapf_optimum.proofs.Roots.{begun_with, no_root}
use Rattle.mapf_optimum.proofs.solving.begin.Goals as goal
use Rattle.mapf_optimum.proofs.solving.begin.Goals.{in-Some+in_ok-root+in_ok-put, in_default}

pub returns : goal.returns
returns c =
    elim c.match-paths.branch [
      | in-Some+in_ok-root+in_ok-put w ↦ rw w.waiting-is (begun_with c.args.problem.now w.in_ok-root.field-0 c.new-waiting.result w.put.new.self w.in_ok-root.ensures c.new-waiting.ensures w.in_ok-put.ensures)
      | in_default w ↦ rw w.waiting-is
          (begun_with c.args.problem.now None c.new-waiting.result c.new-waiting.result
          (no_root c.args.problem.now (subst (λ o. MatchOption o (IsRoot c.args.problem.now None) (λ p. AreRootPaths c.args.problem.now p.items)) w.in_default.is c.requires)) c.new-waiting.ensures (IsPermutation-refl _))
    ]
