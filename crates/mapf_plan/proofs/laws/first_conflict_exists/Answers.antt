use Rattle.mapf_plan.proofs.Conflicts.{first_conflict}
use Rattle.mapf_plan.proofs.laws.first_conflict_exists.Goals as goal

pub returns : goal.returns
returns c = first_conflict
