use Rattle.mapf_solve.proofs.OneOut.{one_out}
use Rattle.mapf_solve.proofs.laws.one_out.Goals as goal

pub returns : goal.returns
returns c = one_out
