-- Bytes that are cut at a byte.
use Rattle.std.proofs.Common.{◌≡◌, ◌≢◌, ℕ, zero, suc, ◌<◌, ◌≤◌, true, false, eqb, List, [], ◌∷◌, ◌++◌, length, get_or, refl, sym, ap, ◌∙◌, arith, inl, inr, take, drop, ◌-◌, take_all, length-drop, take-append-drop}
use Rattle.std.specs.Prelude.{All, decimal}
use Rattle.std.specs.List.{slice_split}
use Rattle.std.proofs.lemmas.List.{append_cancel_left}
use Rattle.std.proofs.lemmas.List.Splits.{slice_split_at}
use Rattle.std.proofs.lemmas.Grind.{get_or_default_zero}
use Rattle.std.proofs.lemmas.Bool.Decides.{eqb_tells}
use Rattle.std.proofs.lemmas.Bool.{eqb-false}
use Rattle.std.proofs.lemmas.Str.Parse.{digit_at}
use Rattle.mapf_plan.proofs.text.Numbers.{decimal_spells}
use Rattle.mapf_plan.specs.declared.answer.TheConstants.{MOST_STATED}

-- the byte isn't among the bytes
abbrev pub Lacks : ℕ → List ℕ → Type 0
Lacks byte bytes = All (λ b. eqb b byte ≡ false) bytes

pub eqb-refl : (n : ℕ) → eqb n n ≡ true
eqb-refl n = elim (eqb_tells n n) [ inl p ↦ p.0 | inr p ↦ absurd (p.1 refl) ]

pub eqb-≢ : (m n : ℕ) → m ≢ n → eqb m n ≡ false
eqb-≢ m n other = elim (eqb_tells m n) [ inl p ↦ absurd (other p.1) | inr p ↦ p.0 ]

-- what stands before the first such byte, and what behind it, are one
pub cut_is_one : (byte : ℕ) (a b c d : List ℕ) → Lacks byte a → Lacks byte c → a ++ byte ∷ b ≡ c ++ byte ∷ d → (a ≡ c) × (b ≡ d)
cut_is_one byte a b c d a_lacks c_lacks same =
    let left = slice_split_at (λ x. eqb x byte) a byte b a_lacks (eqb-refl byte) in
    let right = slice_split_at (λ x. eqb x byte) c byte d c_lacks (eqb-refl byte) in
    let parts = sym left ∙ ap (slice_split (λ x. eqb x byte)) same ∙ right in
    let front : a ≡ c = cc in
    let behind : byte ∷ b ≡ byte ∷ d = append_cancel_left c (byte ∷ b) (byte ∷ d) (ap (λ l. l ++ byte ∷ b) (sym front) ∙ same) in
    (front, cc)

-- bytes with the byte between them don't lack it
pub Lacks-cut : (byte : ℕ) (a b : List ℕ) → Lacks byte (a ++ byte ∷ b) → ⊥
Lacks-cut byte [] b lacks = eqb-false byte byte (lacks 0 0 (omega arith)) refl
Lacks-cut byte (x ∷ a) b lacks = Lacks-cut byte a b (λ k d within. lacks (suc k) d (omega arith))

-- one more byte, which is another
pub Lacks-cons : (byte b : ℕ) (bs : List ℕ) → eqb b byte ≡ false → Lacks byte bs → (k d : ℕ) → k < length (b ∷ bs) → eqb (get_or (b ∷ bs) k d) byte ≡ false
Lacks-cons byte b bs here lacks zero d within = here
Lacks-cons byte b bs here lacks (suc k) d within = lacks k d (omega arith)

-- the text of a number has digits alone
pub Lacks-decimal : (byte n : ℕ) → n ≤ MOST_STATED → byte < 48 → Lacks byte (decimal n)
Lacks-decimal byte n small below = λ k d within.
    let digit = digit_at (decimal n) k (decimal_spells n small).digits within in
    rw (get_or_default_zero (decimal n) k d within) (eqb-≢ _ _ (omega (arith, digit)))

-- the front, and what stands behind it
pub front_and_rest : (line front : List ℕ) → front ≡ take (length front) line → line ≡ front ++ take (length line - length front) (drop (length front) line)
front_and_rest line front is =
    let rest : take (length line - length front) (drop (length front) line) ≡ drop (length front) line =
    take_all _ (drop (length front) line) (omega (arith, length-drop (length front) line)) in
    rw rest (sym (take-append-drop (length front) line) ∙ ap (λ l. l ++ drop (length front) line) (sym is))
