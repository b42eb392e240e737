use Rattle.std.proofs.Common.{arith, refl, get_or, inr}
use Rattle.std.proofs.lemmas.List.{take_more}
use Rattle.std.proofs.lemmas.Option.{slice_get-get_or}
use Rattle.mapf_plan.specs.ReadText.{IsInside, IsCellAt}
use Rattle.mapf_plan.proofs.text.Places.{AllZip-push, below_next}
use Rattle.mapf_plan.proofs.text.reader.cells_of.Goals as goal

pub returns-in_default-clause-fault : goal.returns-in_default-clause-fault
returns-in_default-clause-fault c =
    inr (
      c.loop-place.place,
      refl,
      (
        (get_or c.args.places.now c.loop-place.place (0, 0), slice_get-get_or c.args.places.now c.loop-place.place (0, 0) (omega arith), c.in_default.ensures),
        c.loop-place.invariant.inside,
      ),
    )

pub loop-place-preserved : goal.loop-place-preserved
loop-place-preserved c = record {
  cells = rw (take_more c.args.places.now c.loop-place.place (0, 0) (omega arith), c.in_ok-push.ensures.items)
      (AllZip-push (IsCellAt c.args.map.now) _ _ _ _ c.loop-place.invariant.cells c.in-Some.ensures);
  inside = below_next (IsInside c.args.map.now) c.args.places.now c.loop-place.place (0, 0) c.loop-place.invariant.inside c.in-Some.ensures.0;
}
