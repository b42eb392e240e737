use Rattle.std.proofs.Common.{ap}
use Rattle.mapf_solve.proofs.sessions.session.session.Goals as goal

pub session_at-requires-clause-no_job : goal.session_at-requires-clause-no_job
session_at-requires-clause-no_job g c κs within = ap (λ v. v.current) c.in-Ok.ensures.no_job
