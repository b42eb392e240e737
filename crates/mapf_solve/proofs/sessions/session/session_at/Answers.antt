use Rattle.std.proofs.Common.{slice_index_or}
use Rattle.mapf_solve.proofs.GoingOn.{counts_on}
use Rattle.mapf_solve.proofs.WaitingNodes.{search_waits}
use Rattle.mapf_solve.proofs.sessions.session.session_at.Goals as goal

pub begin-source-requires : goal.begin-source-requires
begin-source-requires g c = search_waits c.args.sessions.search _ _ c.waiting.ensures.search c.requires.open_yet c.args.sessions.of_problem c.waiting.ensures.waiting

pub end_session-requires : goal.end_session-requires
end_session-requires g c k d low = c.into_owner-owner.ensures.sides (slice_index_or c.in-Ok.left.items k d).0 _ (c.in-Ok.ensures.jobs k d low)

pub returns-in_default : goal.returns-in_default
returns-in_default g c =
    counts_on g.P.OneProblem.problem c.args.means.now.pace.session_nodes c.args.sessions.search c.work_beside-progress.new.lead.search c.work_beside-progress.result c.work_beside-progress.ensures.lead
