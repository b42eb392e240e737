use Rattle.std.proofs.Common.{subst}
use Rattle.std.proofs.lemmas.Bool.{eqb-true, eq-eqb}
use Rattle.std.proofs.Common.{refl, eqb}
use Rattle.mapf_low.specs.Forwards.FLevels.{IsAdded}
use Rattle.mapf_low.proofs.forwards.Grown.{added}
use Rattle.mapf_low.proofs.cell_set.CellSet.add.Goals as goal

pub returns : goal.returns
returns c =
    subst (λ xs. IsAdded c.args.cell xs c.insert.new.self.keys) c.self.view_is
    (added eqb eqb-true (λ x. eq-eqb x x refl) c.self.inside.cells.keys c.insert.new.self.keys c.args.cell c.in_ok-insert.ensures.keys)
