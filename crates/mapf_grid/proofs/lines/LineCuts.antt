-- A file's lines are its first line and the lines of the bytes behind its first LF.
use Rattle.std.proofs.Common.{◌≡◌, ℕ, ◌+◌, ◌<◌, Bool, List, [], ◌∷◌, length, take, drop, map, Some, None, refl, ap, sym, ◌∙◌, arith, ltb, eqb, inl, inr}
use Rattle.std.specs.List.{position, position_or_len, slice_split}
use Rattle.std.proofs.lemmas.Bool.{cases_Bool, ltb-true, ltb-false, cond-true, cond-false, ne_eqb}
use Rattle.std.proofs.lemmas.Option.{cond_some}
use Rattle.std.proofs.lemmas.List.Sums.{fails_before_first}
use Rattle.std.proofs.lemmas.List.Splits.{slice_split_first, slice_split_none, length-slice_split}
use Rattle.mapf_grid.specs.Lines.{lines_of, without_empty_end, without_cr}

-- the test by which lines are cut
abbrev pub is_lf : ℕ → Bool
is_lf b = eqb b 10

-- the first piece ends at the first element that passes
slice_split-at_position : (p : ℕ → Bool) (xs : List ℕ) (end : ℕ) → position p xs ≡ Some end
    → slice_split p xs ≡ take end xs ∷ slice_split p (drop (end + 1) xs)
slice_split-at_position p xs end found =
    let parts = cond_some (ltb (position_or_len p xs) (length xs)) (position_or_len p xs) end found in
    let split = slice_split_first p xs 0 (ltb-true _ _ parts.0) in
    rw parts.1 at split

-- where none passes, all is one piece
slice_split-no_position : (p : ℕ → Bool) (xs : List ℕ) → position p xs ≡ None → slice_split p xs ≡ xs ∷ []
slice_split-no_position p xs none =
    elim (cases_Bool (ltb (position_or_len p xs) (length xs))) [
      | inl passes ↦ (let found : Some (position_or_len p xs) ≡ None = sym (cond-true _ _ None passes) ∙ none in cc)
      | inr fails ↦ slice_split_none p xs (λ k d within. fails_before_first p xs k d (omega (arith, ltb-false _ _ fails)))
    ]

-- a piece that others follow stays
without_empty_end-cons : (piece : List ℕ) (pieces : List (List ℕ)) → 0 < length pieces
    → without_empty_end (piece ∷ pieces) ≡ piece ∷ without_empty_end pieces
without_empty_end-cons piece [] some = absurd (omega arith)
without_empty_end-cons piece (next ∷ pieces) some = refl

-- a last piece that isn't empty stays
without_empty_end-last : (piece : List ℕ) → 0 < length piece → without_empty_end (piece ∷ []) ≡ piece ∷ []
without_empty_end-last piece some = cond-false _ _ _ (ne_eqb (length piece) 0 (λ none. omega arith))

-- the first line ends at the first LF
pub lines_of-at_lf : (bytes : List ℕ) (end : ℕ) → position is_lf bytes ≡ Some end
    → lines_of bytes ≡ without_cr (take end bytes) ∷ lines_of (drop (end + 1) bytes)
lines_of-at_lf bytes end found =
    let rest = drop (end + 1) bytes in
    let split = slice_split-at_position is_lf bytes end found in
    let kept = without_empty_end-cons (take end bytes) (slice_split is_lf rest) (omega (arith, length-slice_split is_lf rest)) in
    ap (λ pieces. map without_cr (without_empty_end pieces)) split ∙ ap (map without_cr) kept

-- without an LF, all bytes are one line
pub lines_of-without_lf : (bytes : List ℕ) → position is_lf bytes ≡ None → 0 < length bytes
    → lines_of bytes ≡ without_cr bytes ∷ []
lines_of-without_lf bytes none some =
    let last = without_empty_end-last bytes some in
    ap (λ pieces. map without_cr (without_empty_end pieces)) (slice_split-no_position is_lf bytes none) ∙ ap (map without_cr) last
