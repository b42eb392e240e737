use Rattle.std.proofs.Common.{◌≡◌, ℕ, Some, sym, ◌∙◌, ap, subst}
use Rattle.mapf_grid.specs.Grid.{IsFree}
use Rattle.mapf_low.specs.Distances.Levels.{IsUnseen, distances_of}
use Rattle.mapf_low.proofs.distances.Marking.{Marks-same, Marks-known}
use Rattle.mapf_low.proofs.distances.Telling.{marked_or}
use Rattle.mapf_low.proofs.distances.mark_neighbour.Goals as goal

pub returns-in_ok-mark_cell-clause-marks : goal.returns-in_ok-mark_cell-clause-marks
returns-in_ok-mark_cell-clause-marks c = λ g tell.
    let cell = c.in-Some.cell in
    let free = ((tell cell).0 (c.is_unseen.ensures.0 c.if-is_unseen.true)).0 in
    Marks-same (◌≡◌ cell) (λ v. (c.args.neighbour ≡ Some v) × IsFree g v) c.args.distance (distances_of c.args.marks.now) (distances_of c.mark_cell.new.marks)
    c.args.next.now.items c.mark_cell.new.next.items
    (λ v. (λ e. (c.in-Some.is ∙ ap Some e, subst (IsFree g) e free), λ h. cc (c.in-Some.is, h.0))) c.in_ok-mark_cell.ensures.marks

pub returns-else-is_unseen-clause-marks : goal.returns-else-is_unseen-clause-marks
returns-else-is_unseen-clause-marks c = λ g tell.
    Marks-known (λ v. (c.args.neighbour ≡ Some v) × IsFree g v) c.args.distance (distances_of c.args.marks.now) c.args.next.now.items
    (λ v h. marked_or g c.args.marks.now v tell h.1 (not_unseen v h.0))
  where
    not_unseen : (v : ℕ) → c.args.neighbour ≡ Some v → IsUnseen c.args.marks.now v → ⊥
    not_unseen v e u =
        let same : c.in-Some.cell ≡ v = cc (c.in-Some.is, e) in
        let yes = c.is_unseen.ensures.1 (subst (IsUnseen c.args.marks.now) (sym same) u) in
        cc (yes, c.if-is_unseen.false)
