use Rattle.std.proofs.Common.{Ok, ap, ◌∙◌, arith}
use Rattle.mapf_tree.proofs.high_level.GoingOn.{right_out, best_out}
use Rattle.mapf_tree.proofs.high_level.Remaining.{remaining_falls}
use Rattle.mapf_tree.proofs.search.Search.finish.Goals as goal

pub loop-search-smaller : goal.loop-search-smaller
loop-search-smaller g c =
    remaining_falls c.loop-search.search.problem c.go.new.self.problem c.loop-search.search.last c.go.new.self.last 1 c.in_ok-go.ensures.problem (omega arith) (c.in_ok-go.ensures.working (ap Ok c.in-Working.is)).1

pub returns-clause-best : goal.returns-clause-best
returns-clause-best g c =
    best_out c.args.self.problem c.ok_or.result
    (right_out c.args.self.problem c.go.new.self c.into_answer.result c.ok_or.result _ c.into_answer.ensures.search (c.in_ok-go.ensures.problem ∙ c.loop-search.invariant.0) c.into_answer.ensures.answer c.ok_or.ensures.value)
