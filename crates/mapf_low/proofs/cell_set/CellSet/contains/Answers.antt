use Rattle.std.proofs.Common.{◌↔◌, subst, refl, eqb, IsTrue, Contains}
use Rattle.std.proofs.lemmas.Bool.{eqb-true, eq-eqb}
use Rattle.mapf_low.proofs.forwards.Grown.{told}
use Rattle.mapf_low.proofs.cell_set.CellSet.contains.Goals as goal

pub returns : goal.returns
returns c =
    subst (λ xs. IsTrue c.contains.result ↔ Contains xs c.args.cell) c.self.view_is
    (told eqb eqb-true (λ x. eq-eqb x x refl) c.self.inside.cells.keys c.args.cell c.contains.result c.contains.ensures)
