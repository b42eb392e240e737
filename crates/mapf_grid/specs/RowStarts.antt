-- Which cells begin a row: the cell in column x of row y has the number y * width + x.
use Rattle.std.specs.Prelude.{◌≡◌, ◌↔◌, ℕ, ◌%◌, ◌<◌, List, Bool, true, false, length, slice_index_or}

-- of each number whether the cell of this number begins a row
abbrev pub AreRowStarts : ℕ → List Bool → Type 0
AreRowStarts width starts = (c : ℕ) → c < length starts → (slice_index_or starts c false ≡ true) ↔ (c % width ≡ 0)
