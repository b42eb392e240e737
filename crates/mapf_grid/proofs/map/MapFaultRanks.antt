-- Faults of a map file that have one rank are one.
use Rattle.std.proofs.Common.{◌≡◌, ℕ, ◌-◌, ◌≤◌, List, length, get_or, refl, sym, ap, ap₂, ◌∙◌, inl, inr, arith, codes}
use Rattle.std.specs.List.{slice_get}
use Rattle.std.proofs.lemmas.Option.{same_Some}
use Rattle.mapf_grid.specs.Lines.{line_at}
use Rattle.mapf_grid.specs.MapFile.{HasMapFault, map_fault_rank}
use Rattle.mapf_grid.specs.declared.fault.MapFault.{MapFault}
use Rattle.mapf_grid.specs.declared.fault.MapFault.TheVariants.{TypeLine, Height, Width, MapLine, MissingRow, RowLength, BadCell, TextAfterRows, TooLarge}
use Rattle.mapf_grid.proofs.map.MapFaultOrder.{HasSize-one}

-- the first line that a fault of this kind can stand in
abbrev pub first_line_of : MapFault → ℕ
first_line_of (MissingRow k) = 5
first_line_of (RowLength k) = 5
first_line_of (BadCell k column byte) = 5
first_line_of (TextAfterRows k) = 5
first_line_of (TooLarge k) = 2
first_line_of other = 0

-- and the last one
abbrev pub last_line_of : MapFault → ℕ
last_line_of (TooLarge k) = 3
last_line_of other = get_or (map_fault_rank other) 0 0

-- a fault stands in one of these lines
lines_of_fault : (lines : List (List ℕ)) (y : MapFault) → HasMapFault lines y → (first_line_of y ≤ get_or (map_fault_rank y) 0 0) × (get_or (map_fault_rank y) 0 0 ≤ last_line_of y)
lines_of_fault lines (MissingRow k) fault = (omega (arith, fault.1.from), omega arith)
lines_of_fault lines (RowLength k) fault = (omega (arith, fault.1.from), omega arith)
lines_of_fault lines (BadCell k column byte) fault = (omega (arith, fault.1.from), omega arith)
lines_of_fault lines (TextAfterRows k) fault = (omega (arith, fault.2), omega arith)
lines_of_fault lines (TooLarge k) fault =
    elim fault.2 [ inl two ↦ (omega (arith, two.0), omega (arith, two.0)) | inr three ↦ (omega (arith, three.0), omega (arith, three.0)) ]
lines_of_fault lines y fault = (omega arith, omega arith)

-- line 2 has no height where it is too large a one
no_height : (lines : List (List ℕ)) (k : ℕ) → HasMapFault lines Height → HasMapFault lines (TooLarge k) → 2 ≡ k → ⊥
no_height lines k none large same =
    elim large.2 [ inl two ↦ none (large.0, two.1, omega (arith, large.1)) | inr three ↦ omega (arith, same, three.0) ]

-- nor has line 3 a width
no_width : (lines : List (List ℕ)) (k : ℕ) → HasMapFault lines Width → HasMapFault lines (TooLarge k) → 3 ≡ k → ⊥
no_width lines k none large same =
    elim large.2 [ inl two ↦ omega (arith, same, two.0) | inr three ↦ none (large.0, three.1, omega (arith, large.1)) ]

-- no line is a row and behind the rows
no_row_behind : (lines : List (List ℕ)) (j k : ℕ) → HasMapFault lines (MissingRow j) → HasMapFault lines (TextAfterRows k) → j ≡ k → ⊥
no_row_behind lines j k row text same =
    omega (arith, same, row.1.to, text.2, HasSize-one (codes "height") (line_at lines 2) row.1.height text.0 row.1.high text.1)

-- faults of one rank are one
pub map_fault_by_rank : (lines : List (List ℕ)) (a b : MapFault) → HasMapFault lines a → HasMapFault lines b → map_fault_rank a ≡ map_fault_rank b → a ≡ b
map_fault_by_rank lines TypeLine TypeLine p q e = refl
map_fault_by_rank lines Height Height p q e = refl
map_fault_by_rank lines Width Width p q e = refl
map_fault_by_rank lines MapLine MapLine p q e = refl
map_fault_by_rank lines (MissingRow j) (MissingRow k) p q e = ap MissingRow (ap (λ l. get_or l 0 0) e)
map_fault_by_rank lines (RowLength j) (RowLength k) p q e = ap RowLength (ap (λ l. get_or l 0 0) e)
map_fault_by_rank lines (TextAfterRows j) (TextAfterRows k) p q e = ap TextAfterRows (ap (λ l. get_or l 0 0) e)
map_fault_by_rank lines (TooLarge j) (TooLarge k) p q e = ap TooLarge (ap (λ l. get_or l 0 0) e)
map_fault_by_rank lines (BadCell j x byte) (BadCell k y other) p q e =
    let line : j ≡ k = ap (λ l. get_or l 0 0) e in
    let column : x ≡ y = ap (λ l. get_or l 2 0) e in
    let place : slice_get (line_at lines j) (x - 1) ≡ slice_get (line_at lines k) (y - 1) = ap₂ (λ l c. slice_get (line_at lines l) (c - 1)) line column in
    let same : byte ≡ other = same_Some byte other (sym p.4 ∙ place ∙ q.4) in
    λ i. BadCell (line i) (column i) (same i)
map_fault_by_rank lines Height (TooLarge k) p q e = absurd (no_height lines k p q (ap (λ l. get_or l 0 0) e))
map_fault_by_rank lines (TooLarge j) Height p q e = absurd (no_height lines j q p (ap (λ l. get_or l 0 0) (sym e)))
map_fault_by_rank lines Width (TooLarge k) p q e = absurd (no_width lines k p q (ap (λ l. get_or l 0 0) e))
map_fault_by_rank lines (TooLarge j) Width p q e = absurd (no_width lines j q p (ap (λ l. get_or l 0 0) (sym e)))
map_fault_by_rank lines (MissingRow j) (TextAfterRows k) p q e = absurd (no_row_behind lines j k p q (ap (λ l. get_or l 0 0) e))
map_fault_by_rank lines (TextAfterRows j) (MissingRow k) p q e = absurd (no_row_behind lines k j q p (ap (λ l. get_or l 0 0) (sym e)))
map_fault_by_rank lines a b p q e =
    absurd (omega (arith, ap length e, ap (λ l. get_or l 0 0) e, lines_of_fault lines a p, lines_of_fault lines b q))
