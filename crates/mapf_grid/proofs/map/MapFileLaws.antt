-- A file of the grammar has one grid and no fault.
use Rattle.std.proofs.Common.{◌≡◌, ◌≢◌, ℕ, ◌+◌, ◌-◌, ◌*◌, ◌/◌, ◌%◌, ◌<◌, Bool, false, List, [], length, get_or, inl, inr, refl, sym, ap, subst, ◌∙◌, arith, codes}
use Rattle.std.proofs.lemmas.Nat.{row_below_turned}
use Rattle.std.proofs.lemmas.Bool.{true≢false}
use Rattle.std.proofs.lemmas.Option.{get_or_from_slice_get}
use Rattle.std.proofs.lemmas.List.{get_or_past, ext_get_or}
use Rattle.mapf_grid.specs.Lines.{line_at}
use Rattle.mapf_grid.specs.Grid.{Grid}
use Rattle.mapf_grid.specs.MapFile.{IsRow, IsMap, IsRowLine, IsMapFault, HasMapFault, is_cell}
use Rattle.mapf_grid.specs.declared.fault.MapFault.{MapFault}
use Rattle.mapf_grid.specs.declared.fault.MapFault.TheVariants.{TypeLine, Height, Width, MapLine, MissingRow, RowLength, BadCell, TextAfterRows, TooLarge, NoMemory}
use Rattle.mapf_grid.proofs.map.MapFaultOrder.{HasSize-one}

module _ (lines : List (List ℕ)) (g : Grid) (is_map : IsMap lines g) where
  -- a row's line is the line of a row of the grid
  row_of_line : (k w : ℕ) → IsRowLine lines k w → (w ≡ g.width) × IsRow g (k - 5) (line_at lines k)
  row_of_line k w line =
      let wide = HasSize-one (codes "width") (line_at lines 3) w g.width line.wide is_map.width_line in
      let high = HasSize-one (codes "height") (line_at lines 2) line.height g.height line.high is_map.height_line in
      let place : (k - 5) + 5 ≡ k = omega (arith, line.from) in
      let Row : ℕ → Type 0 = λ j. IsRow g (k - 5) (line_at lines j) in
      (wide, subst Row place (is_map.rows (k - 5) (omega (arith, line.from, line.to, high))))

  -- a map file has no fault
  pub IsMap-no_fault : (y : MapFault) → HasMapFault lines y → ⊥
  IsMap-no_fault TypeLine fault = fault is_map.type_line
  IsMap-no_fault Height fault = fault (g.height, is_map.height_line, is_map.sizes.some_height)
  IsMap-no_fault Width fault = fault (g.width, is_map.width_line, is_map.sizes.some_width)
  IsMap-no_fault MapLine fault = fault is_map.map_line
  IsMap-no_fault (MissingRow k) fault =
      let row = row_of_line k fault.0 fault.1 in
      let line : line_at lines k ≡ [] = get_or_past lines (k - 1) [] (omega (arith, fault.2)) in
      let none : 0 ≡ g.width = ap length (sym line) ∙ row.1.exact in
      omega (arith, none, is_map.sizes.some_width)
  IsMap-no_fault (RowLength k) fault =
      let row = row_of_line k fault.0 fault.1 in
      fault.3 (row.1.exact ∙ sym row.0)
  IsMap-no_fault (BadCell k column byte) fault =
      let row = row_of_line k fault.0 fault.1 in
      let cell = row.1.cells (column - 1) (omega (arith, fault.2, fault.3, row.0)) in
      let read = get_or_from_slice_get (line_at lines k) (column - 1) byte 0 fault.4 in
      true≢false (sym cell ∙ (ap is_cell read ∙ fault.5))
  IsMap-no_fault (TextAfterRows k) fault =
      let high = HasSize-one (codes "height") (line_at lines 2) fault.0 g.height fault.1 is_map.height_line in
      true≢false (sym (is_map.rest k (omega (arith, fault.2, high))) ∙ fault.3)
  IsMap-no_fault (TooLarge k) fault =
      elim fault.2 [
        | inl high ↦ omega (
          arith,
          fault.1,
          is_map.sizes.small_height,
          HasSize-one (codes "height") (line_at lines 2) fault.0 g.height high.1 is_map.height_line,
        )
        | inr wide ↦ omega (
          arith,
          fault.1,
          is_map.sizes.small_width,
          HasSize-one (codes "width") (line_at lines 3) fault.0 g.width wide.1 is_map.width_line,
        )
      ]
  IsMap-no_fault NoMemory fault = fault

-- grids of the same sizes and cells are one
Grid-same : (a b : Grid) → a.width ≡ b.width → a.height ≡ b.height → a.free ≡ b.free → a ≡ b
Grid-same a b wide high free =
    let first : a ≡ record { width = b.width; height = a.height; free = a.free } = ap (λ (w : ℕ). record { width = w; height = a.height; free = a.free }) wide in
    let second : record { width = b.width; height = a.height; free = a.free } ≡ record { width = b.width; height = b.height; free = a.free } = ap (λ (h : ℕ). record { width = b.width; height = h; free = a.free }) high in
    let third : record { width = b.width; height = b.height; free = a.free } ≡ b = ap (λ (f : List Bool). record { width = b.width; height = b.height; free = f }) free in
    first ∙ (second ∙ third)

-- each number of a grid's cells has a row and a column
cell_place : (w h i : ℕ) → 0 < w → i < h * w → (y x : ℕ) × (y < h) × (x < w) × (i ≡ y * w + x)
cell_place w h i some below =
    let row = row_below_turned i w h w below (omega arith) in
    (i / w, i % w, row.1, omega arith, omega arith)

-- the lines of a map file are those of one grid
pub IsMap-one : (lines : List (List ℕ)) (a b : Grid) → IsMap lines a → IsMap lines b → a ≡ b
IsMap-one lines a b is_a is_b =
    let wide = HasSize-one (codes "width") (line_at lines 3) a.width b.width is_a.width_line is_b.width_line in
    let high = HasSize-one (codes "height") (line_at lines 2) a.height b.height is_a.height_line is_b.height_line in
    let in_a : length a.free ≡ a.height * a.width = is_a.sizes.each_cell in
    let in_b : length b.free ≡ b.height * b.width = is_b.sizes.each_cell in
    let count : length a.free ≡ length b.free = cc in
    Grid-same a b wide high (ext_get_or false a.free b.free count (λ i below.
    let place = cell_place a.width a.height i is_a.sizes.some_width (omega (arith, below, in_a)) in
    let y = place.0 in
    let x = place.1 in
    let place_b : i ≡ y * b.width + x = place.4 ∙ ap (λ w. y * w + x) wide in
    let at_a = get_or_from_slice_get a.free _ _ false ((is_a.rows y place.2).free x place.3) in
    let at_b = get_or_from_slice_get b.free _ _ false ((is_b.rows y (omega (arith, place.2, high))).free x (omega (arith, place.3, wide))) in
    ap (λ j. get_or a.free j false) place.4 ∙ (at_a ∙ (sym at_b ∙ sym (ap (λ j. get_or b.free j false) place_b)))))

-- where a map file is not read, memory ran out
pub IsMap-no_memory : (lines : List (List ℕ)) (g : Grid) (e : MapFault) → IsMap lines g → (e ≢ NoMemory → IsMapFault lines e) → e ≡ NoMemory
IsMap-no_memory lines g NoMemory is_map found = refl
IsMap-no_memory lines g e is_map found = absurd (IsMap-no_fault lines g is_map e (found (λ same. cc)).member)
