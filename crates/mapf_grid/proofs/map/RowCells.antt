-- The cells of a row, one byte after another, and of a map, one row after another.
use Rattle.std.proofs.Common.{◌≡◌, ℕ, ◌+◌, ◌-◌, ◌*◌, ◌<◌, Bool, true, List, [], ◌∷◌, ◌++◌, length, get_or, take, map, suc, inl, inr, Some, refl, sym, ap, subst, ◌∙◌, arith, zero-add}
use Rattle.std.proofs.lemmas.Bool.{cases_lt, false_from_ne_true}
use Rattle.std.proofs.lemmas.List.{map_more, append_assoc, length-append, length-map, get_or_append_left}
use Rattle.std.proofs.lemmas.Option.{slice_get_within, slice_get-get_or, get_or_from_slice_get, slice_get-map}
use Rattle.std.specs.List.{slice_get}
use Rattle.std.specs.Option.{option_map}
use Rattle.mapf_grid.specs.MapFile.{IsRow, is_cell, is_ground}
use Rattle.mapf_grid.specs.Lines.{line_at}
use Rattle.mapf_grid.specs.MapReading.{AreCellBytes, IsMapRowFault}
use Rattle.mapf_grid.specs.declared.fault.MapFault.TheVariants.{BadCell}

-- the first byte of a row that is no cell is its fault
pub IsMapRowFault-bad_cell : (row : List ℕ) (k width x byte : ℕ) → AreCellBytes row x → x < length row → x < width → byte ≡ get_or row x 0
    → (is_cell byte ≡ true → ⊥) → IsMapRowFault row k width (BadCell k (x + 1) byte)
IsMapRowFault-bad_cell row k width x byte cells there within read other =
    let place : x ≡ (x + 1) - 1 = omega arith in
    let at : slice_get row x ≡ Some byte = slice_get-get_or row x 0 there ∙ ap Some (sym read) in
    let Cells : ℕ → Type 0 = λ n. AreCellBytes row n in
    let At : ℕ → Type 0 = λ n. slice_get row n ≡ Some byte in
    (refl, omega arith, omega (arith, within), subst Cells place cells, subst At place at, false_from_ne_true (is_cell byte) other)

-- one more byte is a cell
pub AreCellBytes-more : (row : List ℕ) (n : ℕ) → AreCellBytes row n → is_cell (get_or row n 0) ≡ true → AreCellBytes row (n + 1)
AreCellBytes-more row n cells cell x below within =
    elim (cases_lt x n) [
      | inl before ↦ cells x before within
      | inr last ↦ (let same : x ≡ n = omega (arith, below, last) in ap (λ k. is_cell (get_or row k 0)) same ∙ cell)
    ]

-- its cell was added behind those of the bytes before it
pub map-is_ground-more : (old now new : List Bool) (row : List ℕ) (n : ℕ) (ground : Bool) → n < length row
    → now ≡ old ++ map is_ground (take n row) → ground ≡ is_ground (get_or row n 0) → new ≡ now ++ ground ∷ []
    → new ≡ old ++ map is_ground (take (n + 1) row)
map-is_ground-more old now new row n ground within before read added =
    let more = map_more is_ground row n 0 within in
    let last = append_assoc old (map is_ground (take n row)) (is_ground (get_or row n 0) ∷ []) in
    cc

-- what a list has at an index stays when more is added
slice_get-append_left : (xs ys : List Bool) (i : ℕ) (b : Bool) → slice_get xs i ≡ Some b → slice_get (xs ++ ys) i ≡ Some b
slice_get-append_left xs ys i b found =
    let within = slice_get_within xs i b found in
    let inside : i < length (xs ++ ys) = omega (arith, within, length-append xs ys) in
    let read = get_or_from_slice_get xs i b b found in
    slice_get-get_or (xs ++ ys) i b inside ∙ ap Some (get_or_append_left xs ys b i within ∙ read)

-- what is added stands behind it
slice_get-append_right : (xs ys : List Bool) (i : ℕ) → slice_get (xs ++ ys) (length xs + i) ≡ slice_get ys i
slice_get-append_right [] ys i = ap (slice_get ys) (zero-add i)
slice_get-append_right (x ∷ xs) ys i =
    let step : suc (length xs) + i ≡ suc (length xs + i) = omega arith in
    ap (slice_get (x ∷ (xs ++ ys))) step ∙ slice_get-append_right xs ys i

module _ (w h : ℕ) (free : List Bool) (row : List ℕ) where
  -- a row stays a row when the next is added
  pub IsRow-append : (y : ℕ) (older : List ℕ) → IsRow (record { width = w; height = h; free = free }) y older
      → IsRow (record { width = w; height = h; free = free ++ map is_ground row }) y older
  IsRow-append y older is_row = record {
    exact = is_row.exact;
    cells = is_row.cells;
    free = λ x below. slice_get-append_left free (map is_ground row) (y * w + x) _ (is_row.free x below);
  }

  -- the row that is added is the next row
  pub IsRow-last : (y : ℕ) → length free ≡ y * w → length row ≡ w → AreCellBytes row w
      → IsRow (record { width = w; height = h; free = free ++ map is_ground row }) y row
  IsRow-last y count exact cells = record {
    exact = exact;
    cells = λ x below. cells x below (omega (arith, below, exact));
    free = λ x below.
        let place : y * w + x ≡ length free + x = omega (arith, count) in
        ap (slice_get (free ++ map is_ground row)) place
        ∙ (slice_get-append_right free (map is_ground row) x
        ∙ (slice_get-map is_ground row x ∙ ap (option_map is_ground) (slice_get-get_or row x 0 (omega (arith, below, exact)))));
  }

  -- so many cells are there then
  pub length-free-more : (y : ℕ) → length free ≡ y * w → length row ≡ w → length (free ++ map is_ground row) ≡ (y + 1) * w
  length-free-more y count exact =
      omega (arith, count, exact, length-append free (map is_ground row), length-map row is_ground)

  -- the rows so far and the next one
  pub IsRow-more : (lines : List (List ℕ)) (y : ℕ)
      → ((j : ℕ) → j < y → IsRow (record { width = w; height = h; free = free }) j (line_at lines (j + 5)))
      → length free ≡ y * w → length row ≡ w → AreCellBytes row w → line_at lines (y + 5) ≡ row
      → (j : ℕ) → j < y + 1 → IsRow (record { width = w; height = h; free = free ++ map is_ground row }) j (line_at lines (j + 5))
  IsRow-more lines y rows count exact cells at j below =
      elim (cases_lt j y) [
        | inl before ↦ IsRow-append j (line_at lines (j + 5)) (rows j before)
        | inr behind ↦
            (let same : y ≡ j = omega (arith, below, behind) in
            let Last : List ℕ → Type 0 = λ bytes. IsRow (record { width = w; height = h; free = free ++ map is_ground row }) y bytes in
            let P : ℕ → Type 0 = λ i. IsRow (record { width = w; height = h; free = free ++ map is_ground row }) i (line_at lines (i + 5)) in
            subst P same (subst Last (sym at) (IsRow-last y count exact cells)))
      ]
