use Rattle.std.proofs.Common.{◌++◌}
use Rattle.std.specs.Prelude.{codes, decimal, string_bytes}
use Rattle.mapf_check.proofs.Pushed.{pushed_two}
use Rattle.mapf_check.proofs.wording.push_verdict.Goals as goal

pub returns-in_ok-push_number-in-BadStep-2 : goal.returns-in_ok-push_number-in-BadStep-2
returns-in_ok-push_number-in-BadStep-2 c =
    rw c.in-BadStep.is
    (pushed_two (string_bytes c.args.text.now) (codes "63 bad step agent " ++ decimal c.in-BadStep.agent) (codes " time " ++ decimal c.in-BadStep.time)
    c.in_ok-push_number-in-BadStep.ensures.appended c.in_ok-push_number-in-BadStep-2.ensures.appended)

pub returns-in_ok-push_number-in-EndsLate : goal.returns-in_ok-push_number-in-EndsLate
returns-in_ok-push_number-in-EndsLate c = rw c.in-EndsLate.is c.in_ok-push_number-in-EndsLate.ensures.appended
