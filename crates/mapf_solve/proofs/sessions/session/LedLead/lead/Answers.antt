use Rattle.std.proofs.Common.{◌∙◌}
use Rattle.mapf_solve.proofs.GoingOn.{went_on}
use Rattle.mapf_solve.proofs.sessions.session.LedLead.lead.Goals as goal

pub returns : goal.returns
returns g c =
    went_on g.P.OneProblem.problem _ c.args.self.now.nodes c.args.self.now.search c.go-progress.new.self c.go-progress.result
    (c.go-progress.ensures.problem ∙ c.args.self.now.of_problem) c.go-progress.ensures.counted c.go-progress.ensures.working c.go-progress.ensures.within
