use Rattle.std.proofs.Common.{arith}
use Rattle.std.proofs.lemmas.Int.Digits.{digits_more}
use Rattle.std.proofs.lemmas.Str.Parse.{digit_at}
use Rattle.mapf_grid.proofs.DigitWords.{short_value, value_more}
use Rattle.mapf_grid.proofs.digits.decimal_value.Goals as goal

pub returns-then-not-is_ascii_digit : goal.returns-then-not-is_ascii_digit
returns-then-not-is_ascii_digit c = record {
  some = λ word. absurd (omega (arith, c.if-not-is_ascii_digit.ensures.cases, digit_at c.args.word.now c.loop-byte.byte-index word.2 (omega arith)));
}

pub overflow_mul-value : goal.overflow_mul-value
overflow_mul-value c = omega (arith, short_value c.args.word.now c.loop-byte.byte-index (omega arith) (omega arith) c.loop-byte.invariant.digits)

pub overflow_add-value : goal.overflow_add-value
overflow_add-value c =
    omega (arith, short_value c.args.word.now c.loop-byte.byte-index (omega arith) (omega arith) c.loop-byte.invariant.digits, c.if-not-is_ascii_digit.ensures.cases)

pub loop-byte-preserved : goal.loop-byte-preserved
loop-byte-preserved c = record {
  digits = digits_more 10 c.args.word.now c.loop-byte.byte-index (omega arith) c.loop-byte.invariant.digits c.if-not-is_ascii_digit.ensures.bound;
  value = value_more c.args.word.now c.loop-byte.byte-index c.loop-byte.value c.from.result (omega arith) c.loop-byte.invariant.value
      (omega (arith, c.if-not-is_ascii_digit.ensures.cases)) (omega (arith, c.if-not-is_ascii_digit.ensures.cases)) c.from.ensures;
}
