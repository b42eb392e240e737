use Rattle.std.proofs.Common.{sym, ◌∙◌}
use Rattle.std.proofs.lemmas.Bool.Decides.{Decides-eqb}
use Rattle.std.proofs.lemmas.Slice.Eq.{slice_eq-Decides}
use Rattle.mapf_plan.proofs.plan.path.Path.is_same.Goals as goal

pub returns : goal.returns
returns c told = sym c.cells.ensures.cells ∙ (slice_eq-Decides Decides-eqb _ _ _ c.eq.ensures).0 told ∙ c.cells-2.ensures.cells
