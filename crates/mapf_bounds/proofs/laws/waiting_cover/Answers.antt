use Rattle.mapf_bounds.proofs.Covers.{waiting_cover}
use Rattle.mapf_bounds.proofs.laws.waiting_cover.Goals as goal

pub returns : goal.returns
returns c = waiting_cover
