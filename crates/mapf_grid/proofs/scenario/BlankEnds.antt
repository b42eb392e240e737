-- The lines that stay where the blank ones at a file's end are dropped.
use Rattle.std.proofs.Common.{◌≡◌, ℕ, ◌<◌, ◌≤◌, zero, suc, true, false, cond, List, [], ◌∷◌, length, get_or, drop, refl, sym, ap, ◌∙◌, subst, inl, inr, arith}
use Rattle.std.specs.List.{list_all}
use Rattle.std.proofs.lemmas.Bool.{and_parts, and_cases, true≢false}
use Rattle.mapf_grid.specs.Lines.{is_blank_line}
use Rattle.mapf_grid.specs.ScenarioFile.{without_blank_end, kept_before}

-- a line before some line that stays, stays
length-kept_before : (line : List ℕ) (rest : List (List ℕ)) → 0 < length rest → length (kept_before line rest) ≡ suc (length rest)
length-kept_before line [] some = absurd (omega arith)
length-kept_before line (next ∷ more) some = refl

-- a line that isn't blank stays
length-kept_before_line : (line : List ℕ) (rest : List (List ℕ)) → is_blank_line line ≡ false → 0 < length (kept_before line rest)
length-kept_before_line line [] seen = subst (λ t. 0 < length (cond t [] (line ∷ []))) (sym seen) (omega arith)
length-kept_before_line line (next ∷ more) seen = omega arith

length-kept_before-le : (line : List ℕ) (rest : List (List ℕ)) → length (kept_before line rest) ≤ suc (length rest)
length-kept_before-le line [] = elim (is_blank_line line) as (λ t. length (cond t [] (line ∷ [])) ≤ 1) [ true ↦ omega arith | false ↦ omega arith ]
length-kept_before-le line (next ∷ more) = omega arith

-- at least the lines up to one that isn't blank stay
pub without_blank_end-reaches : (lines : List (List ℕ)) (k : ℕ) → k < length lines → is_blank_line (get_or lines k []) ≡ false → k < length (without_blank_end lines)
without_blank_end-reaches [] k inside seen = absurd (omega arith)
without_blank_end-reaches (line ∷ lines) zero inside seen = length-kept_before_line line (without_blank_end lines) seen
without_blank_end-reaches (line ∷ lines) (suc k) inside seen =
    let more : k < length (without_blank_end lines) = without_blank_end-reaches lines k (omega arith) seen in
    omega (arith, length-kept_before line (without_blank_end lines) (omega arith))

-- where blank lines alone are left, none stays
without_blank_end-blank : (lines : List (List ℕ)) → list_all is_blank_line lines ≡ true → without_blank_end lines ≡ []
without_blank_end-blank [] all = refl
without_blank_end-blank (line ∷ lines) all =
    let p = and_parts (is_blank_line line) (list_all is_blank_line lines) all in
    ap (kept_before line) (without_blank_end-blank lines p.1) ∙ ap (λ t. cond t [] (line ∷ [])) p.0

-- no line stays from where blank lines alone are left
pub without_blank_end-within : (lines : List (List ℕ)) (n : ℕ) → list_all is_blank_line (drop n lines) ≡ true → length (without_blank_end lines) ≤ n
without_blank_end-within lines zero all = omega (arith, ap length (without_blank_end-blank lines all))
without_blank_end-within [] (suc n) all = omega arith
without_blank_end-within (line ∷ lines) (suc n) all =
    omega (arith, without_blank_end-within lines n all, length-kept_before-le line (without_blank_end lines))

-- where not all lines are blank, one isn't
pub seen_line : (lines : List (List ℕ)) → list_all is_blank_line lines ≡ false → (k : ℕ) × (k < length lines) × (is_blank_line (get_or lines k []) ≡ false)
seen_line [] none = absurd (true≢false none)
seen_line (line ∷ lines) none =
    elim (and_cases (is_blank_line line) (list_all is_blank_line lines) none) [
      | inl here ↦ (0, omega arith, here)
      | inr behind ↦ let found = seen_line lines behind in (suc found.0, omega (arith, found.1), found.2)
    ]
