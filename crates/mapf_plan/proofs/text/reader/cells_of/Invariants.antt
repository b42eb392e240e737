use Rattle.std.proofs.Common.{◌≡◌, ℕ, ◌<◌, Some, take}
use Rattle.std.specs.Prelude.{slice_get}
use Rattle.std.specs.List.{AllZip}
use Rattle.mapf_plan.specs.ReadText.{IsInside, IsCellAt}
use Rattle.mapf_plan.proofs.text.reader.cells_of.Given as goal

abbrev pub invariant-loop-place : goal.invariant-loop-place
invariant-loop-place l = record {
  cells : AllZip (IsCellAt l.map) (take l.place l.places) l.cells.items;
  inside : (k : ℕ) (place : ℕ × ℕ) → k < l.place → slice_get l.places k ≡ Some place → IsInside l.map place;
}
