-- Which faults of a map file can come before which: by line, and in a row by column and then by length.
use Rattle.std.proofs.Common.{◌≡◌, ◌≢◌, ℕ, ◌+◌, ◌-◌, ◌<◌, ◌≤◌, true, false, List, [], ◌∷◌, length, drop, get_or, ◌⊎◌, inl, inr, Some, refl, sym, ap, subst, ◌∙◌, arith, codes}
use Rattle.std.specs.List.{slice_get}
use Rattle.std.proofs.lemmas.Bool.{cases_lt, cases_Bool, true≢false}
use Rattle.std.proofs.lemmas.Option.{slice_get_within, get_or_from_slice_get, same_Some}
use Rattle.std.proofs.lemmas.List.{get_or_past}
use Rattle.mapf_grid.proofs.Firsts.{NoneAt, none_before-next, none_before-there}
use Rattle.mapf_grid.proofs.Ranks.{irreflexive}
use Rattle.mapf_grid.specs.Least.{NoneBefore}
use Rattle.mapf_grid.specs.Lines.{line_at, is_blank_line, number_of}
use Rattle.mapf_grid.specs.MapFile.{HasSize, IsRowLine, HasMapFault, IsMapFault, map_fault_rank, is_cell}
use Rattle.mapf_grid.specs.MapReading.{AreCellBytes, IsMapRowFault}
use Rattle.mapf_grid.specs.declared.fault.MapFault.{MapFault}
use Rattle.mapf_grid.specs.declared.fault.MapFault.TheVariants.{MissingRow, RowLength, BadCell, TextAfterRows, TooLarge, NoMemory}

-- no fault ranks before line k
abbrev pub NoFaultBefore : List (List ℕ) → ℕ → Type 0
NoFaultBefore lines k = NoneBefore map_fault_rank (HasMapFault lines) (k ∷ [])

-- one line without a fault more
none_before-more : (lines : List (List ℕ)) (k : ℕ) → NoFaultBefore lines k → NoneAt map_fault_rank (HasMapFault lines) (k ∷ []) → NoFaultBefore lines (k + 1)
none_before-more lines = none_before-next map_fault_rank (HasMapFault lines) []

-- a line states one size
pub HasSize-one : (name line : List ℕ) (m n : ℕ) → HasSize name line m → HasSize name line n → m ≡ n
HasSize-one name line m n a b =
    let same : name ∷ a.digits ∷ [] ≡ name ∷ b.digits ∷ [] = sym a.words ∙ b.words in
    let digits : a.digits ≡ b.digits = cc in
    same_Some m n (sym a.number ∙ (ap number_of digits ∙ b.number))

-- the byte in this column of a row is no cell
abbrev pub IsBadByte : List ℕ → ℕ → ℕ → ℕ → Type 0
IsBadByte row width column byte =
    (0 < column) × (column ≤ width) × (slice_get row (column - 1) ≡ Some byte) × (is_cell byte ≡ false)

-- where the bytes before column n + 1 are cells, the bad byte isn't among them
pub AreCellBytes-no_bad_byte : (row : List ℕ) (n width column byte : ℕ) → AreCellBytes row n → IsBadByte row width column byte → n < column
AreCellBytes-no_bad_byte row n width column byte cells bad =
    elim (cases_lt n column) [
      | inl behind ↦ behind
      | inr among ↦
          (let cell = cells (column - 1) (omega (arith, among, bad.0)) (slice_get_within row (column - 1) byte bad.2) in
          let read = get_or_from_slice_get row (column - 1) byte 0 bad.2 in
          absurd (true≢false (sym cell ∙ (ap is_cell read ∙ bad.3))))
    ]

-- a fault of a row that is there, whose rank goes on like this behind the line, is its length or a bad byte
abbrev pub IsFaultInRow : List ℕ → ℕ → List ℕ → Type 0
IsFaultInRow row width tail =
    ((tail ≡ 1 ∷ []) × (length row ≢ width))
    ⊎ ((column byte : ℕ) × (tail ≡ 0 ∷ column ∷ []) × IsBadByte row width column byte)

module _ (lines : List (List ℕ)) (k w : ℕ) (line : IsRowLine lines k w) (there : k ≤ length lines) (none : NoFaultBefore lines k) where
  -- a fault that ranks by a row's line is one of these
  fault_in_row : (y : MapFault) (u : List ℕ) → HasMapFault lines y → map_fault_rank y ≡ k ∷ u → IsFaultInRow (line_at lines k) w u
  fault_in_row (MissingRow j) u fault e = absurd (omega (arith, there, fault.2, ap (λ l. get_or l 0 0) e))
  fault_in_row (RowLength j) u fault e =
      let same = HasSize-one (codes "width") (line_at lines 3) w fault.0 line.wide fault.1.wide in
      inl (sym (ap (drop 1) e), λ exact. fault.3 (ap (λ l. length (line_at lines (get_or l 0 0))) e ∙ exact ∙ same))
  fault_in_row (BadCell j column byte) u fault e =
      let same = HasSize-one (codes "width") (line_at lines 3) w fault.0 line.wide fault.1.wide in
      let read = ap (λ l. slice_get (line_at lines (get_or l 0 0)) (column - 1)) (sym e) ∙ fault.4 in
      inr (column, byte, sym (ap (drop 1) e), (fault.2, omega (arith, fault.3, same), read, fault.5))
  fault_in_row (TextAfterRows j) u fault e =
      let same = HasSize-one (codes "height") (line_at lines 2) line.height fault.0 line.high fault.1 in
      absurd (omega (arith, line.to, fault.2, same, ap (λ l. get_or l 0 0) e))
  fault_in_row (TooLarge j) u fault e =
      let on = ap (λ l. get_or l 0 0) e in
      elim fault.2 [ inl high ↦ absurd (omega (arith, line.from, high.0, on)) | inr wide ↦ absurd (omega (arith, line.from, wide.0, on)) ]
  fault_in_row y u fault e = absurd (omega (arith, line.from, ap (λ l. get_or l 0 0) e))

  -- a row of the right length with cells alone has no fault
  pub none_before-row : length (line_at lines k) ≡ w → AreCellBytes (line_at lines k) w → NoFaultBefore lines (k + 1)
  none_before-row exact cells =
      none_before-more lines k none (λ y u fault e.
      elim (fault_in_row y u fault e) [
        | inl wrong ↦ wrong.1 exact
        | inr bad ↦ (let behind = AreCellBytes-no_bad_byte (line_at lines k) w w bad.0 bad.1 cells bad.3 in omega (arith, behind, bad.3))
      ])

  -- the first bad byte of a row is the file's first fault
  pub IsMapFault-bad_cell : (column byte : ℕ) → AreCellBytes (line_at lines k) (column - 1) → IsBadByte (line_at lines k) w column byte
      → IsMapFault lines (BadCell k column byte)
  IsMapFault-bad_cell column byte cells bad = record {
    member = (w, line, bad.0, bad.1, bad.2, bad.3);
    least = none_before-there map_fault_rank (HasMapFault lines) (k ∷ []) (0 ∷ column ∷ []) none (λ y u fault e before.
        elim (fault_in_row y u fault e) [
          | inl wrong ↦ elim (rw wrong.0 at before) [ inl less ↦ omega (arith, less) | inr equal ↦ omega (arith, equal.0) ]
          | inr other ↦
              (let behind = AreCellBytes-no_bad_byte (line_at lines k) (column - 1) w other.0 other.1 cells other.3 in
              elim (rw other.2 at before) [
                | inl less ↦ omega (arith, less)
                | inr equal ↦ elim equal.1 [ inl less ↦ omega (arith, less, behind) | inr same_column ↦ same_column.1 ]
              ])
        ]);
  }

  -- a row with cells alone and another length has the file's first fault
  pub IsMapFault-row_length : AreCellBytes (line_at lines k) w → length (line_at lines k) ≢ w → IsMapFault lines (RowLength k)
  IsMapFault-row_length cells wrong = record {
    member = (w, line, there, wrong);
    least = none_before-there map_fault_rank (HasMapFault lines) (k ∷ []) (1 ∷ []) none (λ y u fault e before.
        elim (fault_in_row y u fault e) [
          | inl other ↦ irreflexive (1 ∷ []) (rw other.0 at before)
          | inr bad ↦ (let behind = AreCellBytes-no_bad_byte (line_at lines k) w w bad.0 bad.1 cells bad.3 in omega (arith, behind, bad.3))
        ]);
  }

  -- the fault that a row's reader gives is the file's first
  pub IsMapFault-row : (y : MapFault) → IsMapRowFault (line_at lines k) k w y → y ≢ NoMemory → IsMapFault lines y
  IsMapFault-row (BadCell j column byte) fault named =
      let found = IsMapFault-bad_cell column byte fault.3 (fault.1, fault.2, fault.4, fault.5) in
      let P : ℕ → Type 0 = λ i. IsMapFault lines (BadCell i column byte) in
      subst P (sym fault.0) found
  IsMapFault-row (RowLength j) fault named =
      let found = IsMapFault-row_length fault.1 fault.2 in
      let P : ℕ → Type 0 = λ i. IsMapFault lines (RowLength i) in
      subst P (sym fault.0) found
  IsMapFault-row NoMemory fault named = absurd (named refl)
  IsMapFault-row other fault named = absurd fault

module _ (lines : List (List ℕ)) (h : ℕ) (high : HasSize (codes "height") (line_at lines 2) h) where
  -- a row stands above them
  row_above : (j w : ℕ) → IsRowLine lines j w → j ≤ 4 + h
  row_above j w line = omega (arith, line.to, HasSize-one (codes "height") (line_at lines 2) h line.height high line.high)

  -- a blank line behind the rows has no fault
  no_fault_in_blank : (k : ℕ) → 4 + h < k → is_blank_line (line_at lines k) ≡ true → NoneAt map_fault_rank (HasMapFault lines) (k ∷ [])
  no_fault_in_blank k behind blank (MissingRow j) u fault e = omega (arith, behind, row_above j fault.0 fault.1, ap (λ l. get_or l 0 0) e)
  no_fault_in_blank k behind blank (RowLength j) u fault e = omega (arith, behind, row_above j fault.0 fault.1, ap (λ l. get_or l 0 0) e)
  no_fault_in_blank k behind blank (BadCell j column byte) u fault e = omega (arith, behind, row_above j fault.0 fault.1, ap (λ l. get_or l 0 0) e)
  no_fault_in_blank k behind blank (TextAfterRows j) u fault e =
      true≢false (sym blank ∙ ap (λ l. is_blank_line (line_at lines (get_or l 0 0))) (sym e) ∙ fault.3)
  no_fault_in_blank k behind blank (TooLarge j) u fault e =
      let on = ap (λ l. get_or l 0 0) e in
      elim fault.2 [ inl two ↦ omega (arith, behind, two.0, on) | inr three ↦ omega (arith, behind, three.0, on) ]
  no_fault_in_blank k behind blank y u fault e = omega (arith, behind, ap (λ l. get_or l 0 0) e)

  -- so a blank line behind the rows is one line without a fault more
  pub none_before-blank : (k : ℕ) → 4 + h < k → is_blank_line (line_at lines k) ≡ true → NoFaultBefore lines k → NoFaultBefore lines (k + 1)
  none_before-blank k behind blank none = none_before-more lines k none (no_fault_in_blank k behind blank)

  -- where no fault stands in the lines that are there, all lines behind the rows are blank
  pub blank-from_none_before : (k : ℕ) → NoFaultBefore lines k → length lines < k → (j : ℕ) → 4 + h < j → is_blank_line (line_at lines j) ≡ true
  blank-from_none_before k none past j behind =
      elim (cases_lt j k) [
        | inl above ↦ elim (cases_Bool (is_blank_line (line_at lines j))) [
          | inl blank ↦ blank
          | inr text ↦ absurd (none (TextAfterRows j) (h, high, behind, text) (inl above))
        ]
        | inr there ↦ ap is_blank_line (get_or_past lines (j - 1) [] (omega (arith, past, there)))
      ]
