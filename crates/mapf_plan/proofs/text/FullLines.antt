-- The lines of bytes, each with its LF.
use Rattle.std.proofs.Common.{◌≡◌, ℕ, ◌+◌, ◌-◌, ◌⊎◌, inl, inr, eqb, Some, None, List, [], ◌∷◌, ◌++◌, length, take, refl, sym, ap, ◌∙◌, subst, append_assoc, append-nil, length-append, arith}
use Rattle.std.specs.Prelude.{slice_get, count_by}
use Rattle.std.specs.List.{flat_map, AllByRecursion, join_with_byte}
use Rattle.std.proofs.Math.Seq.{take-append-add}
use Rattle.std.proofs.lemmas.List.Splits.{slice_split_at, slice_split_none, length-slice_split, join_with_byte-slice_split}
use Rattle.std.proofs.lemmas.Bool.Decides.{eqb_tells}
use Rattle.mapf_plan.specs.ReadText.{IsFirstLine, pieces, full_lines}
use Rattle.mapf_plan.proofs.text.Cuts.{Lacks, Lacks-cons, eqb-refl}

-- the lines, each with its LF
abbrev pub ended : List (List ℕ) → List ℕ
ended lines = flat_map (λ l. l ++ 10 ∷ []) lines

pub pieces-ended : (lines : List (List ℕ)) (rest : List ℕ) → AllByRecursion (Lacks 10) lines → pieces (ended lines ++ rest) ≡ lines ++ pieces rest
pieces-ended [] rest apart = refl
pieces-ended (l ∷ ls) rest apart =
    let regrouped : ended (l ∷ ls) ++ rest ≡ l ++ 10 ∷ (ended ls ++ rest) = simp append_assoc in
    ap pieces regrouped ∙ slice_split_at (λ b. eqb b 10) l 10 (ended ls ++ rest) apart.0 (eqb-refl 10) ∙ ap (λ k. l ∷ k) (pieces-ended ls rest apart.1)

pub full_lines-ended : (lines : List (List ℕ)) (rest : List ℕ) → AllByRecursion (Lacks 10) lines → full_lines (ended lines ++ rest) ≡ lines ++ full_lines rest
full_lines-ended lines rest apart =
    let some : length (pieces rest) ≡ count_by (λ b. eqb b 10) rest + 1 = length-slice_split (λ b. eqb b 10) rest in
    let long : length (lines ++ pieces rest) - 1 ≡ length lines + (length (pieces rest) - 1) = omega (arith, some, length-append lines (pieces rest)) in
    ap (λ k. take (length k - 1) k) (pieces-ended lines rest apart) ∙ ap (λ n. take n (lines ++ pieces rest)) long ∙ take-append-add lines (pieces rest) (length (pieces rest) - 1)

pub full_lines-none : (bytes : List ℕ) → Lacks 10 bytes → full_lines bytes ≡ []
full_lines-none bytes lacks = ap (λ k. take (length k - 1) k) (slice_split_none (λ b. eqb b 10) bytes lacks)

pub full_lines-first : (bytes line rest : List ℕ) → IsFirstLine bytes line rest → full_lines bytes ≡ line ∷ full_lines rest
full_lines-first bytes line rest first =
    let regrouped : bytes ≡ ended (line ∷ []) ++ rest = first.0 ∙ simp (append_assoc, append-nil) in
    ap full_lines regrouped ∙ full_lines-ended (line ∷ []) rest (first.1, tt)

pub pieces-first : (bytes line rest : List ℕ) → IsFirstLine bytes line rest → pieces bytes ≡ line ∷ pieces rest
pieces-first bytes line rest first = ap pieces first.0 ∙ slice_split_at (λ b. eqb b 10) line 10 rest first.1 (eqb-refl 10)

-- bytes have an LF, or none
pub first_line_cases : (bytes : List ℕ) → Lacks 10 bytes ⊎ ((line : List ℕ) × (rest : List ℕ) × IsFirstLine bytes line rest)
first_line_cases [] = inl (λ k d within. absurd (omega arith))
first_line_cases (b ∷ bs) =
    elim (eqb_tells b 10) [
      | inl hit ↦ inr ([], bs, (ap (λ x. x ∷ bs) hit.1, λ k d within. absurd (omega arith)))
      | inr miss ↦ elim (first_line_cases bs) [
        | inl lacks ↦ inl (Lacks-cons 10 b bs miss.0 lacks)
        | inr first ↦ inr (b ∷ first.0, first.1, (ap (λ l. b ∷ l) first.2.0, Lacks-cons 10 b first.0 miss.0 first.2.1))
      ]
    ]

-- the first full line is the first line
pub first_full_line : (bytes line : List ℕ) → slice_get (full_lines bytes) 0 ≡ Some line → (rest : List ℕ) × IsFirstLine bytes line rest
first_full_line bytes line is = elim (first_line_cases bytes) [
  | inl lacks ↦ let none = full_lines-none bytes lacks in let no : None ≡ Some line = ap (λ k. slice_get k 0) (sym none) ∙ is in cc
  | inr first ↦ let found = full_lines-first bytes first.0 first.1 first.2 in
      let same : Some first.0 ≡ Some line = ap (λ k. slice_get k 0) (sym found) ∙ is in
      let one : first.0 ≡ line = cc in
      let P : List ℕ → Type 0 = λ l. IsFirstLine bytes l first.1 in (first.1, subst P one first.2)
]

-- nothing behind the last LF, and no line
pub nothing_left : (rest : List ℕ) → pieces rest ≡ [] ∷ [] → rest ≡ []
nothing_left rest is = sym (join_with_byte-slice_split 10 rest) ∙ ap (join_with_byte 10) is

pub empty_from_length : {A : Type 0} (xs : List A) → length xs ≡ 0 → xs ≡ []
empty_from_length [] none = refl
empty_from_length (x ∷ xs) none = absurd (omega arith)
