-- Lines cut where no word goes over the cut.
use Rattle.std.specs.Prelude.{◌≡◌, ℕ, ◌-◌, ◌<◌, true, false, List, ◌++◌, length, slice_index}
use Rattle.mapf_grid.specs.Lines.{is_blank, is_blank_line}

-- the line is this back behind blanks alone
pub record IsBehindBlanks (line back : List ℕ) : Type 0 where
  pub before : List ℕ
  pub whole : line ≡ before ++ back
  pub blanks : is_blank_line before ≡ true

-- the line is this front before blanks alone
pub record IsBeforeBlanks (line front : List ℕ) : Type 0 where
  pub after : List ℕ
  pub whole : line ≡ front ++ after
  pub blanks : is_blank_line after ≡ true

-- the line has something behind this front, which is empty or ends with a blank
pub record IsPartedFront (line front : List ℕ) : Type 0 where
  pub after : List ℕ
  pub whole : line ≡ front ++ after
  pub parted : 0 < length front → is_blank (slice_index front (length front - 1)) ≡ true

-- the line has something before this back, which is empty or begins with a blank
pub record IsPartedBack (line back : List ℕ) : Type 0 where
  pub before : List ℕ
  pub whole : line ≡ before ++ back
  pub parted : 0 < length back → is_blank (slice_index back 0) ≡ true

-- the line is this between blanks alone, and this neither begins nor ends with a blank
pub record IsTrimmed (line middle : List ℕ) : Type 0 where
  pub before : List ℕ
  pub after : List ℕ
  pub whole : line ≡ before ++ (middle ++ after)
  pub blanks_before : is_blank_line before ≡ true
  pub blanks_after : is_blank_line after ≡ true
  pub begins : 0 < length middle → is_blank (slice_index middle 0) ≡ false
  pub ends : 0 < length middle → is_blank (slice_index middle (length middle - 1)) ≡ false
