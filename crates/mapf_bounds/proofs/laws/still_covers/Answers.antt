use Rattle.mapf_bounds.proofs.Covers.{still_covers}
use Rattle.mapf_bounds.proofs.laws.still_covers.Goals as goal

pub returns : goal.returns
returns c = still_covers
