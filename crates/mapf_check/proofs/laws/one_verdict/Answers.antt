use Rattle.mapf_check.proofs.Verdicts.{one_verdict_lem}
use Rattle.mapf_check.proofs.laws.one_verdict.Goals as goal

pub returns : goal.returns
returns c = one_verdict_lem
