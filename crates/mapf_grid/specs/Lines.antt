-- Files as lines, lines as words, words as numbers.
use Rattle.std.specs.Prelude.{ℕ, ◌-◌, Bool, ◌&&◌, ◌||◌, ◌==◌, if◌then◌else◌, nat_lt, nat_le, List, [], ◌∷◌, length, map, filter, take, slice_index, slice_index_or, Option, Some, None}
use Rattle.std.specs.List.{slice_split, list_all}
use Rattle.std.specs.Char.{is_ascii_digit}
use Rattle.std.specs.Str.Parse.{digits_value}

-- a last piece that is empty is no line
abbrev pub without_empty_end : List (List ℕ) → List (List ℕ)
without_empty_end [] = []
without_empty_end (piece ∷ []) = if length piece == 0 then [] else piece ∷ []
without_empty_end (piece ∷ next ∷ pieces) = piece ∷ without_empty_end (next ∷ pieces)

-- one CR at a line's end is dropped
abbrev pub without_cr : List ℕ → List ℕ
without_cr line = if slice_index line (length line - 1) == 13 then take (length line - 1) line else line

-- the bytes are cut at LF
abbrev pub lines_of : List ℕ → List (List ℕ)
lines_of bytes = map without_cr (without_empty_end (slice_split (λ b. b == 10) bytes))

-- line k of a file, from 1; a line that isn't there has no words
abbrev pub line_at : List (List ℕ) → ℕ → List ℕ
line_at lines k = slice_index_or lines (k - 1) []

-- a space or a tab
abbrev pub is_blank : ℕ → Bool
is_blank b = (b == 32) || (b == 9)

-- words are parted by blanks
abbrev pub words : List ℕ → List (List ℕ)
words line = filter (λ piece. nat_lt 0 (length piece)) (slice_split is_blank line)

-- a line without other bytes than blanks
abbrev pub is_blank_line : List ℕ → Bool
is_blank_line line = list_all is_blank line

-- a decimal number is 1 to 9 digits
abbrev pub is_number : List ℕ → Bool
is_number word = (nat_lt 0 (length word) && nat_le (length word) 9) && list_all is_ascii_digit word

abbrev pub number_of : List ℕ → Option ℕ
number_of word = if is_number word then Some (digits_value 10 word) else None
