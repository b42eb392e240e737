use Rattle.std.proofs.Common.{◌≡◌, ℕ, ◌+◌, ◌/◌, true, is_some, sym, ap, refl, ◌∙◌, subst}
use Rattle.mapf_grid.specs.Grid.{IsFree}
use Rattle.mapf_low.specs.Distances.Levels.{IsUnseen, distances_of}
use Rattle.mapf_low.proofs.distances.Marking.{Marks-same, Marks-known, some_from_test}
use Rattle.mapf_low.proofs.distances.Telling.{marked_or}
use Rattle.mapf_low.proofs.distances.mark_in_row.Goals as goal
use Rattle.mapf_low.proofs.distances.mark_in_row.Goals.{else-is_unseen-via-then-is_unseen+else-is_some, else-is_unseen-via-else-is_unseen}

pub returns-in_ok-mark_cell-clause-marks : goal.returns-in_ok-mark_cell-clause-marks
returns-in_ok-mark_cell-clause-marks c =
    let grid = c.args.map.now in
    let left = c.args.left in
    let cell = c.args.cell in
    let free = ((c.requires.unseen cell).0 (c.is_unseen.ensures.0 c.if-is_unseen.true)).0 in
    let right = some_from_test c.cell_at_right.result (sym c.is_some.ensures ∙ c.if-is_some.true) in
    let at = (c.cell_at_right.ensures right.0).0 right.1 in
    let row : (left + 1) / grid.width ≡ left / grid.width = subst (λ k. k / grid.width ≡ left / grid.width) at.0 at.1 in
    Marks-same (◌≡◌ cell) (λ v. ((cell ≡ v) × ((left + 1) / grid.width ≡ left / grid.width)) × IsFree grid v)
    c.args.distance (distances_of c.args.marks.now) (distances_of c.mark_cell.new.marks) c.args.next.now.items c.mark_cell.new.next.items
    (λ v. (λ e. ((e, row), subst (IsFree grid) e free), λ h. h.0.0)) c.in_ok-mark_cell.ensures.marks

pub returns-else-is_unseen-clause-marks : goal.returns-else-is_unseen-clause-marks
returns-else-is_unseen-clause-marks c =
    Marks-known (λ v. ((c.args.cell ≡ v) × ((c.args.left + 1) / c.args.map.now.width ≡ c.args.left / c.args.map.now.width)) × IsFree c.args.map.now v)
    c.args.distance (distances_of c.args.marks.now) c.args.next.now.items
    (λ v h. marked_or c.args.map.now c.args.marks.now v c.requires.unseen h.1 (not_unseen v h.0.0 h.0.1))
  where
    not_unseen : (v : ℕ) → c.args.cell ≡ v → (c.args.left + 1) / c.args.map.now.width ≡ c.args.left / c.args.map.now.width → IsUnseen c.args.marks.now v → ⊥
    not_unseen v e row u =
        elim c.else-is_unseen.branch [
          | else-is_unseen-via-then-is_unseen+else-is_some x ↦
              (let yes : is_some x.cell_at_right.result ≡ true = ap is_some ((x.cell_at_right.ensures (c.args.left + 1)).1 (refl, row)) in
              cc (x.is_some.ensures, x.if-is_some.false, yes))
          | else-is_unseen-via-else-is_unseen x ↦ cc (c.is_unseen.ensures.1 (subst (IsUnseen c.args.marks.now) (sym e) u), x.if-is_unseen.false)
        ]
