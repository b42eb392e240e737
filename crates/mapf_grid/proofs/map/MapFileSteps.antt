-- From line to line of a map file.
use Rattle.std.proofs.Common.{◌≡◌, ◌≢◌, ℕ, ◌+◌, ◌-◌, ◌<◌, ◌≤◌, true, false, List, [], ◌∷◌, length, get_or, drop, inl, inr, sym, ap, subst, ◌∙◌, arith, codes}
use Rattle.std.proofs.lemmas.Bool.{cases_lt}
use Rattle.std.proofs.lemmas.List.{drop_more, drop_all}
use Rattle.mapf_grid.specs.Lines.{lines_of, line_at, is_blank_line}
use Rattle.mapf_grid.specs.MapFile.{HasSize, IsRowLine, IsMapFault}
use Rattle.mapf_grid.specs.MapReading.{HasRead, IsHeader, AreCellBytes, IsMapRowFault}
use Rattle.mapf_grid.specs.declared.fault.MapFault.{MapFault}
use Rattle.mapf_grid.specs.declared.fault.MapFault.TheVariants.{MissingRow, TextAfterRows, NoMemory}
use Rattle.mapf_grid.proofs.map.MapFaultOrder.{NoFaultBefore, none_before-row, IsMapFault-row, none_before-blank, blank-from_none_before}

-- the line behind the first k is there, and is this one, and these stand behind it
pub record IsNextLine (lines : List (List ℕ)) (k : ℕ) (text : List ℕ) (more : List (List ℕ)) : Type 0 where
  pub there : k + 1 ≤ length lines
  pub at : line_at lines (k + 1) ≡ text
  pub left : more ≡ drop (k + 1) lines

-- the first of the lines from k on is the next line
pub IsNextLine-from_cons : (lines : List (List ℕ)) (k : ℕ) (text : List ℕ) (more : List (List ℕ)) → text ∷ more ≡ drop k lines → IsNextLine lines k text more
IsNextLine-from_cons lines k text more cut =
    elim (cases_lt k (length lines)) [
      | inl within ↦
          (let next = drop_more lines k [] within in
          let place : (k + 1) - 1 ≡ k = omega arith in
          let at : get_or lines k [] ≡ text = cc in
          record { there = omega (arith, within); at = ap (λ j. get_or lines j []) place ∙ at; left = cc })
      | inr past ↦ (let none = drop_all k lines past in let differ : text ∷ more ≡ [] = cut ∙ none in absurd cc)
    ]

-- where no line is left, all were read
pub length-lines-le : (lines : List (List ℕ)) (k : ℕ) → drop k lines ≡ [] → length lines ≤ k
length-lines-le lines k none =
    elim (cases_lt k (length lines)) [
      | inl within ↦ (let next = drop_more lines k [] within in let differ : get_or lines k [] ∷ drop (k + 1) lines ≡ [] = sym next ∙ none in absurd cc)
      | inr past ↦ past
    ]

module _ (lines : List (List ℕ)) (k : ℕ) (rest : List ℕ) (read : HasRead lines k rest) where
  -- the first line of what is left is the next line
  pub IsNextLine-from_read : (text : List ℕ) (more : List (List ℕ)) → lines_of rest ≡ text ∷ more → IsNextLine lines k text more
  IsNextLine-from_read text more cut = IsNextLine-from_cons lines k text more (sym cut ∙ read.left)

  -- where nothing is left, all lines were read
  pub length-lines-from_read : lines_of rest ≡ [] → length lines ≤ k
  length-lines-from_read none = length-lines-le lines k (sym read.left ∙ none)

module _ (lines : List (List ℕ)) (h : ℕ) (high : HasSize (codes "height") (line_at lines 2) h)
    (k : ℕ) (rest : List ℕ) (read : HasRead lines k rest) (behind : 4 + h ≤ k) where
  -- a blank line behind the rows is read
  pub HasRead-blank : (text after : List ℕ) → lines_of rest ≡ text ∷ lines_of after → is_blank_line text ≡ true → HasRead lines (k + 1) after
  HasRead-blank text after cut blank =
      let next = IsNextLine-from_read lines k rest read text (lines_of after) cut in
      record {
        left = next.left;
        sound = none_before-blank lines h high (k + 1) (omega (arith, behind)) (ap is_blank_line next.at ∙ blank) read.sound;
      }

  -- a line behind the rows that isn't blank has the first fault
  pub IsMapFault-text : (text after : List ℕ) → lines_of rest ≡ text ∷ lines_of after → is_blank_line text ≡ false → IsMapFault lines (TextAfterRows (k + 1))
  IsMapFault-text text after cut other =
      let next = IsNextLine-from_read lines k rest read text (lines_of after) cut in
      record {
        member = (h, high, omega (arith, behind), ap is_blank_line next.at ∙ other);
        least = read.sound;
      }

  -- at the file's end all lines behind the rows were blank
  pub blank-at_end : lines_of rest ≡ [] → (j : ℕ) → 4 + h < j → is_blank_line (line_at lines j) ≡ true
  blank-at_end none =
      let past = length-lines-from_read lines k rest read none in
      blank-from_none_before lines h high (k + 1) read.sound (omega (arith, past))

module _ (lines : List (List ℕ)) (h w : ℕ) (header : IsHeader lines h w) (y : ℕ) (below : y < h)
    (rest : List ℕ) (read : HasRead lines (4 + y) rest) where
  -- the next line is to be a row
  next_is_row : IsRowLine lines (5 + y) w
  next_is_row = record {
    height = h;
    high = header.height_line;
    wide = header.width_line;
    from = omega arith;
    to = omega (arith, below);
  }

  -- no fault ranks before it
  none_before_next : NoFaultBefore lines (5 + y)
  none_before_next =
      let same : (4 + y) + 1 ≡ 5 + y = omega arith in
      subst (NoFaultBefore lines) same read.sound

  -- where no line is left, the row is missing
  pub IsMapFault-missing_row : lines_of rest ≡ [] → IsMapFault lines (MissingRow (5 + y))
  IsMapFault-missing_row none =
      let past = length-lines-from_read lines (4 + y) rest read none in
      record { member = (w, next_is_row, omega (arith, past)); least = none_before_next }

  module _ (row after : List ℕ) (cut : lines_of rest ≡ row ∷ lines_of after) where
    -- it is there
    row_there : IsNextLine lines (4 + y) row (lines_of after)
    row_there = IsNextLine-from_read lines (4 + y) rest read row (lines_of after) cut

    -- and is this row
    row_at : line_at lines (5 + y) ≡ row
    row_at =
        let same : 5 + y ≡ (4 + y) + 1 = omega arith in
        ap (line_at lines) same ∙ row_there.at

    -- row y stands in line y + 5
    pub line_at-row : line_at lines (y + 5) ≡ row
    line_at-row =
        let same : y + 5 ≡ 5 + y = omega arith in
        ap (line_at lines) same ∙ row_at

    -- a right row is read
    pub HasRead-row : length row ≡ w → AreCellBytes row w → HasRead lines (4 + (y + 1)) after
    HasRead-row exact cells =
        let behind : (4 + y) + 1 ≡ 4 + (y + 1) = omega arith in
        let next : (5 + y) + 1 ≡ (4 + (y + 1)) + 1 = omega arith in
        let there : 5 + y ≤ length lines = omega (arith, row_there.there) in
        let Cells : List ℕ → Type 0 = λ bytes. AreCellBytes bytes w in
        let none = none_before-row lines (5 + y) w next_is_row there none_before_next (ap length row_at ∙ exact) (subst Cells (sym row_at) cells) in
        record {
          left = row_there.left ∙ ap (λ k. drop k lines) behind;
          sound = subst (NoFaultBefore lines) next none;
        }

    -- a wrong row has the first fault
    pub IsMapFault-wrong_row : (e : MapFault) → IsMapRowFault row (5 + y) w e → e ≢ NoMemory → IsMapFault lines e
    IsMapFault-wrong_row e fault named =
        let there : 5 + y ≤ length lines = omega (arith, row_there.there) in
        let Fault : List ℕ → Type 0 = λ bytes. IsMapRowFault bytes (5 + y) w e in
        IsMapFault-row lines (5 + y) w next_is_row there none_before_next e (subst Fault (sym row_at) fault) named
