use Rattle.mapf_optimum.proofs.GroupLaws as groups
use Rattle.mapf_optimum.proofs.laws.groups_restrict.Goals as goal

pub returns : goal.returns
returns c = groups.groups_restrict
