use Rattle.std.proofs.Common.{◌≡◌, ◌<◌, length, get_or, arith, refl, ap, sym, ◌∙◌}
use Rattle.std.specs.Prelude.{decimal}
use Rattle.std.proofs.lemmas.Bool.{false≢true}
use Rattle.mapf_plan.proofs.text.Numbers.{Spells, value_of_text, word_of_value}
use Rattle.mapf_plan.proofs.text.number.number.Goals as goal
use Rattle.mapf_plan.proofs.text.number.number.Goals.{then-has_leading_zero-via-then-has_leading_zero, then-has_leading_zero-via-else-has_leading_zero+then-value-most}

pub returns-in_err-value : goal.returns-in_err-value
returns-in_err-value c =
    rw c.from_residual.ensures (λ n within is.
    let spells : Spells c.args.word.now n = value_of_text c.args.word.now n (omega arith) is in
    c.in_err-value.ensures.some (spells.some, spells.short, spells.digits))

pub returns-then-has_leading_zero : goal.returns-then-has_leading_zero
returns-then-has_leading_zero c = λ n within is.
    let spells : Spells c.args.word.now n = value_of_text c.args.word.now n (omega arith) is in
    elim c.then-has_leading_zero.branch [
      | then-has_leading_zero-via-then-has_leading_zero w ↦ let long = w.if-has_leading_zero.ensures.0 refl in absurd (omega (arith, spells.canonical long.0, long.1))
      | then-has_leading_zero-via-else-has_leading_zero+then-value-most w ↦ absurd (omega (arith, c.in_ok-value.ensures.some.1, spells.value))
    ]

pub returns : goal.returns
returns c =
    let found = c.in_ok-value.ensures.some in
    let canonical : get_or c.args.word.now 0 0 ≡ 48 → length c.args.word.now ≡ 1 = λ first.
    let short : 1 < length c.args.word.now → ⊥ = λ long. false≢true (c.if-has_leading_zero.ensures.1 (first, long)) in
    omega (arith, found.0.0) in
    (omega arith, word_of_value c.args.word.now found.0.0 found.0.1 found.0.2 canonical ∙ ap decimal (sym found.1))
