-- Lines as they are written, read again.
use Rattle.std.proofs.Common.{◌≡◌, ◌≢◌, ℕ, ◌+◌, ◌*◌, ◌/◌, ◌%◌, ◌<◌, ◌≤◌, eqb, false, List, [], ◌∷◌, ◌++◌, length, map, refl, sym, ap, ◌∙◌, subst, arith}
use Rattle.std.specs.Prelude.{decimal}
use Rattle.std.specs.List.{join_with_byte, AllByRecursion, AllZip}
use Rattle.std.proofs.lemmas.List.Elements.{All-append}
use Rattle.std.proofs.lemmas.List.Splits.{slice_split_none}
use Rattle.std.proofs.Math.Nat.{div-lt_iff_lt-mul}
use Rattle.mapf_grid.specs.Grid.{Grid, HasSizes, cells}
use Rattle.mapf_plan.specs.declared.plan.path.TheConstants.{MOST_CELLS}
use Rattle.mapf_plan.specs.Text.{position}
use Rattle.mapf_plan.specs.ReadText.{IsPlace, IsCellAt, IsPathLine, words_of}
use Rattle.mapf_plan.proofs.text.Cuts.{Lacks, Lacks-decimal, Lacks-cons, eqb-≢}
use Rattle.mapf_plan.proofs.text.Places.{AllZip-length, words_of-cut, line_is_one}

-- what lacks a byte, with a byte that is another between
pub Lacks-around : (byte b : ℕ) (left right : List ℕ) → b ≢ byte → Lacks byte left → Lacks byte right → Lacks byte (left ++ b ∷ right)
Lacks-around byte b left right other left_lacks right_lacks =
    All-append (λ x. eqb x byte ≡ false) left (b ∷ right) left_lacks (Lacks-cons byte b right (eqb-≢ b byte other) right_lacks)

module _ (g : Grid) (sizes : HasSizes g) where
  cell_parts : (c : ℕ) → c ≡ c / g.width * g.width + c % g.width
  cell_parts c = omega (arith, sizes.some_width)

  row_inside : (c : ℕ) → c < cells g → c / g.width < g.height
  row_inside c inside = (div-lt_iff_lt-mul sizes.some_width).1 inside

  column_inside : (c : ℕ) → c % g.width < g.width
  column_inside c = omega (arith, sizes.some_width)

  position_is_place : (c : ℕ) → c < cells g → IsPlace (position g c) (c % g.width, c / g.width)
  position_is_place c inside =
      let column = column_inside c in let row = row_inside c inside in
      (omega (arith, column, sizes.small_width), omega (arith, row, sizes.small_height), refl)

  place_is_cell : (c : ℕ) → c < cells g → IsCellAt g (c % g.width, c / g.width) c
  place_is_cell c inside = ((column_inside c, row_inside c inside), cell_parts c)

  -- a position has neither a space nor an LF
  Lacks-position : (byte c : ℕ) → byte < 44 → c < cells g → Lacks byte (position g c)
  Lacks-position byte c below inside =
      let is = position_is_place c inside in
      Lacks-around byte 44 (decimal (c % g.width)) (decimal (c / g.width)) (omega arith)
      (Lacks-decimal byte (c % g.width) (omega (arith, is.0)) (omega arith)) (Lacks-decimal byte (c / g.width) (omega (arith, is.1)) (omega arith))

  -- the positions with spaces between them
  abbrev pub written : List ℕ → List ℕ
  written path = join_with_byte 32 (map (position g) path)

  pub Lacks-written : (path : List ℕ) → AllByRecursion (λ c. c < cells g) path → Lacks 10 (written path)
  Lacks-written [] inside = λ k d within. absurd (omega arith)
  Lacks-written (c ∷ []) inside = Lacks-position 10 c (omega arith) inside.0
  Lacks-written (c ∷ d ∷ cs) inside =
      Lacks-around 10 32 (position g c) (written (d ∷ cs)) (omega arith) (Lacks-position 10 c (omega arith) inside.0) (Lacks-written (d ∷ cs) inside.1)

  words_of-written : (c : ℕ) (path : List ℕ) → AllByRecursion (λ c. c < cells g) (c ∷ path) → words_of (written (c ∷ path)) ≡ map (position g) (c ∷ path)
  words_of-written c [] inside = slice_split_none (λ b. eqb b 32) (position g c) (Lacks-position 32 c (omega arith) inside.0)
  words_of-written c (d ∷ cs) inside =
      words_of-cut (position g c) (written (d ∷ cs)) (Lacks-position 32 c (omega arith) inside.0) ∙ ap (λ l. position g c ∷ l) (words_of-written d cs inside.1)

  -- the column and the row of each cell
  places_of : List ℕ → List (ℕ × ℕ)
  places_of path = map (λ c. (c % g.width, c / g.width)) path

  places_spelled : (path : List ℕ) → AllByRecursion (λ c. c < cells g) path → AllZip IsPlace (map (position g) path) (places_of path)
  unfolding places_of
  places_spelled [] inside = tt
  places_spelled (c ∷ cs) inside = (position_is_place c inside.0, places_spelled cs inside.1)

  places_there : (path : List ℕ) → AllByRecursion (λ c. c < cells g) path → AllZip (IsCellAt g) (places_of path) path
  unfolding places_of
  places_there [] inside = tt
  places_there (c ∷ cs) inside = (place_is_cell c inside.0, places_there cs inside.1)

  -- what is written for a path is a line of it
  pub path_line : (path : List ℕ) → (0 < length path) × (length path ≤ MOST_CELLS) → AllByRecursion (λ c. c < cells g) path → IsPathLine g (written path) path
  path_line [] size inside = absurd (omega arith)
  path_line (c ∷ cs) size inside =
      let there = places_there (c ∷ cs) inside in
      let P : List (List ℕ) → Type 0 = λ words. AllZip IsPlace words (places_of (c ∷ cs)) in (
        places_of (c ∷ cs),
        (omega (arith, AllZip-length (IsCellAt g) (places_of (c ∷ cs)) (c ∷ cs) there), subst P (sym (words_of-written c cs inside)) (places_spelled (c ∷ cs) inside)),
        there,
      )

  cells_are_one : (places : List (ℕ × ℕ)) (path other : List ℕ) → AllZip (IsCellAt g) places path → AllZip (IsCellAt g) places other → path ≡ other
  cells_are_one [] [] [] is same = refl
  cells_are_one [] [] (d ∷ ds) is same = absurd same
  cells_are_one [] (c ∷ cs) other is same = absurd is
  cells_are_one (p ∷ ps) [] other is same = absurd is
  cells_are_one (p ∷ ps) (c ∷ cs) [] is same = absurd same
  cells_are_one (p ∷ ps) (c ∷ cs) (d ∷ ds) is same =
      let here : c ≡ d = is.0.1 ∙ sym same.0.1 in let rest = cells_are_one ps cs ds is.1 same.1 in cc

  -- a line is of one path
  pub path_is_one : (text path other : List ℕ) → IsPathLine g text path → IsPathLine g text other → path ≡ other
  path_is_one text path other is same =
      let P : List (ℕ × ℕ) → Type 0 = λ places. AllZip (IsCellAt g) places other in
      cells_are_one is.0 path other is.2 (subst P (line_is_one text same.0 is.0 same.1 is.1) same.2)
