-- Words of digits and the numbers that they stand for.
use Rattle.std.proofs.Common.{◌≡◌, ℕ, zero, suc, ◌<◌, ◌≤◌, List, length, get_or, sym, ap, subst, arith}
use Rattle.std.specs.Prelude.{decimal}
use Rattle.std.specs.Str.Parse.{AllDigits, digits_value}
use Rattle.std.proofs.lemmas.Str.Parse.{digits_value_short}
use Rattle.mapf_grid.proofs.DigitWords.{own}
use Rattle.std.proofs.lemmas.Fmt.{decimal_digit, digits_decimal, digits_value-decimal, decimal-digits_value, first_decimal, length-decimal-le, decimal_nonempty}
use Rattle.mapf_plan.specs.declared.answer.TheConstants.{MOST_STATED}

-- a word of digits without a leading zero is the text of its value
pub word_of_value : (word : List ℕ) → 0 < length word → length word ≤ 10 → AllDigits 10 word
    → (get_or word 0 0 ≡ 48 → length word ≡ 1) → word ≡ decimal (digits_value 10 word)
word_of_value word some short digits canonical =
    let small : digits_value 10 word < 10000000000 = digits_value_short own word 10 digits short in
    sym (decimal-digits_value own word digits some canonical (omega arith))

-- the text of a number up to 10 ^ 9 is a word of 1 to 10 digits that stand for it, without a leading zero
pub record Spells (word : List ℕ) (n : ℕ) : Type 0 where
  pub some : 0 < length word
  pub short : length word ≤ 10
  pub digits : AllDigits 10 word
  pub value : digits_value 10 word ≡ n
  pub canonical : get_or word 0 0 ≡ 48 → length word ≡ 1

-- the text of 0 is one byte, and no other text of a number begins with `0`
decimal_is_canonical : (n : ℕ) → n ≤ MOST_STATED → get_or (decimal n) 0 0 ≡ 48 → length (decimal n) ≡ 1
decimal_is_canonical zero small zero_first = ap length (decimal_digit 0 (omega arith))
decimal_is_canonical (suc n) small zero_first =
    let above : 48 < get_or (decimal (suc n)) 0 0 = first_decimal (suc n) (omega arith) (omega arith) in
    absurd (omega arith)

pub decimal_spells : (n : ℕ) → n ≤ MOST_STATED → Spells (decimal n) n
decimal_spells n small = record {
  some = decimal_nonempty n (omega arith);
  short = length-decimal-le 10 n (omega arith) (omega arith) (omega arith);
  digits = digits_decimal own n (omega arith);
  value = digits_value-decimal own n (omega arith);
  canonical = decimal_is_canonical n small;
}

-- a number whose text the word is has the word's value
pub value_of_text : (word : List ℕ) (n : ℕ) → n ≤ MOST_STATED → word ≡ decimal n → Spells word n
value_of_text word n small is = let P : List ℕ → Type 0 = λ w. Spells w n in subst P (sym is) (decimal_spells n small)
