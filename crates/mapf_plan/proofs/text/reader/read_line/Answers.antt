use Rattle.std.proofs.Common.{arith, subst, sym}
use Rattle.std.proofs.lemmas.Result.{err_from_is_err_and}
use Rattle.mapf_plan.specs.ReadText.{IsCellAt, IsLine}
use Rattle.mapf_plan.proofs.text.Places.{AllZip-length, IsLine-some}
use Rattle.mapf_plan.proofs.text.LineFaults.{no_line, no_places, place_outside}
use Rattle.mapf_plan.proofs.text.reader.read_line.Goals as goal

pub of-requires-clause-some : goal.of-requires-clause-some
of-requires-clause-some c =
    omega (arith, IsLine-some c.in-Some.line.now _ c.in_ok-places.ensures.places, AllZip-length (IsCellAt c.args.map.now) _ _ c.in_ok-cells.ensures.cells)

pub of-requires-clause-few : goal.of-requires-clause-few
of-requires-clause-few c =
    omega (arith, c.in_ok-places.ensures.places.0, AllZip-length (IsCellAt c.args.map.now) _ _ c.in_ok-cells.ensures.cells)

pub returns-in_default-clause-fault : goal.returns-in_default-clause-fault
returns-in_default-clause-fault c = no_line c.args.map.now c.args.bytes.now c.args.number c.in_default.ensures

pub returns-in_err-places-clause-fault : goal.returns-in_err-places-clause-fault
returns-in_err-places-clause-fault c =
    let p = err_from_is_err_and c.from_residual.result c.from_residual.ensures.1 in
    rw (p.1, p.2) (no_places c.args.map.now c.args.bytes.now c.in-Some.line.now c.in-Some.rest.now c.args.number _ c.in-Some.ensures c.in_err-places.ensures.fault)

pub returns-in_err-cells-clause-fault : goal.returns-in_err-cells-clause-fault
returns-in_err-cells-clause-fault c =
    let p = err_from_is_err_and c.from_residual-in_err-cells.result c.from_residual-in_err-cells.ensures.1 in
    rw (p.1, p.2)
    (place_outside c.args.map.now c.args.bytes.now c.in-Some.line.now c.in-Some.rest.now c.deref.result.now c.args.number _ c.in-Some.ensures
    (subst (IsLine c.in-Some.line.now) (sym c.deref.ensures.value) c.in_ok-places.ensures.places) c.in_err-cells.ensures.fault)
