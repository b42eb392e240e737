-- Words of digits and the numbers that they stand for.
use Rattle.std.proofs.Common.{◌≡◌, Some, None, ℕ, ◌+◌, ◌*◌, ◌-◌, ◌<◌, ◌≤◌, true, ◌&&◌, List, [], ◌∷◌, length, take, get_or, refl, sym, ap, ◌∙◌, arith, length-take-le}
use Rattle.std.specs.Prelude.{nat_lt, nat_le}
use Rattle.std.specs.List.{list_all}
use Rattle.std.specs.Char.{is_ascii_digit}
use Rattle.std.specs.Str.{all_ascii_digits}
use Rattle.std.specs.Str.Parse.{AllDigits, digits_value}
use Rattle.std.proofs.lemmas.Bool.{and_from, and_parts, lt-ltb, le-leb, ltb-true, leb-true, cond-true, cond-false, false_from_ne_true}
use Rattle.mapf_grid.specs.Lines.{is_number, number_of}
use Rattle.std.proofs.lemmas.Str.Parse.{IsNumeralModel, numerals_by_value, tells_digits, tells_all_ascii_digits, digits_value_short}
use Rattle.std.proofs.lemmas.Int.Digits.{digits_value_more}
use Rattle.std.proofs.lemmas.Str.{digit_value_digit}

-- std's own words for digits and their value
abbrev pub own : IsNumeralModel (AllDigits 10) (digits_value 10)
own = numerals_by_value (AllDigits 10) tells_digits

-- and as this project's clauses have them
ascii_is : (word : List ℕ) → list_all is_ascii_digit word ≡ all_ascii_digits word
ascii_is [] = refl
ascii_is (c ∷ word) = ap (λ b. is_ascii_digit c && b) (ascii_is word)

pub ascii_digits : (word : List ℕ) → AllDigits 10 word → list_all is_ascii_digit word ≡ true
ascii_digits word digits = ascii_is word ∙ (numerals_by_value _ tells_all_ascii_digits).from word digits

pub digits_from_ascii : (word : List ℕ) → list_all is_ascii_digit word ≡ true → AllDigits 10 word
digits_from_ascii word digits = (numerals_by_value _ tells_all_ascii_digits).to word (sym (ascii_is word) ∙ digits)

-- up to nine digits stand for less than 10 ^ 9
pub nine_digits : (word : List ℕ) → length word ≤ 9 → AllDigits 10 word → digits_value 10 word < 1000000000
nine_digits word short digits = digits_value_short own word 9 digits short

-- 1 to 9 digits are a number, and no other word is
pub number_from_digits : (word : List ℕ) → 0 < length word → length word ≤ 9 → AllDigits 10 word → number_of word ≡ Some (digits_value 10 word)
number_from_digits word some few digits =
    cond-true _ _ _ (and_from _ _ (and_from _ _ (lt-ltb 0 (length word) some) (le-leb (length word) 9 few)) (ascii_digits word digits))

pub no_number : (word : List ℕ) → ¬ ((0 < length word) × (length word ≤ 9) × AllDigits 10 word) → number_of word ≡ None
no_number word other = cond-false _ _ _ (false_from_ne_true (is_number word) (λ e.
    let parts = and_parts (nat_lt 0 (length word) && nat_le (length word) 9) (list_all is_ascii_digit word) e in
    let sizes = and_parts (nat_lt 0 (length word)) (nat_le (length word) 9) parts.0 in
    other (ltb-true 0 (length word) sizes.0, leb-true (length word) 9 sizes.1, digits_from_ascii word parts.1)))

-- nine digits stand for less than 10 ^ 9
pub short_value : (word : List ℕ) (i : ℕ) → i < length word → length word ≤ 10 → AllDigits 10 (take i word) → digits_value 10 (take i word) < 1000000000
short_value word i within short digits =
    let few : length (take i word) ≤ 9 = omega (arith, length-take-le i word (omega arith)) in
    digits_value_short own (take i word) 9 digits few

-- one more digit
pub value_more : (word : List ℕ) (i value digit : ℕ) → i < length word → value ≡ digits_value 10 (take i word)
    → 48 ≤ get_or word i 0 → get_or word i 0 ≤ 57 → digit ≡ get_or word i 0 - 48
    → value * 10 + digit ≡ digits_value 10 (take (i + 1) word)
value_more word i value digit within is low high digit_is =
    omega (arith, digits_value_more 10 word i within, digit_value_digit (get_or word i 0) (low, high))
