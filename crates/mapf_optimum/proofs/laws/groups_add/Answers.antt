use Rattle.mapf_optimum.proofs.GroupLaws as groups
use Rattle.mapf_optimum.proofs.laws.groups_add.Goals as goal

pub returns : goal.returns
returns c = groups.groups_add
