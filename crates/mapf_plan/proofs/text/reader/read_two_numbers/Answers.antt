use Rattle.std.proofs.Common.{◌≡◌, sym, ◌∙◌, subst, arith}
use Rattle.std.specs.Prelude.{decimal}
use Rattle.std.proofs.lemmas.Fmt.{decimal_injective}
use Rattle.mapf_plan.proofs.text.Cuts.{Lacks, Lacks-cut, Lacks-decimal, cut_is_one}
use Rattle.mapf_plan.proofs.text.reader.read_two_numbers.Goals as goal

pub returns-in_err-first : goal.returns-in_err-first
returns-in_err-first c =
    rw c.from_residual.ensures (λ pair is.
    Lacks-cut 32 (decimal pair.0) (decimal pair.1) (subst (Lacks 32) is.3 c.in_err-first.ensures))

pub returns-in_err-first-2 : goal.returns-in_err-first-2
returns-in_err-first-2 c =
    rw c.from_residual-in_err-first-2.ensures (λ pair is.
    let found = c.in_ok-first.ensures in
    let cut = cut_is_one 32 c.in_ok-first.first.now c.in_ok-first.second.now (decimal pair.0) (decimal pair.1)
    found.1 (Lacks-decimal 32 pair.0 (omega (arith, is.1, c.requires.first)) (omega arith)) (sym found.0 ∙ is.3) in
    c.in_err-first-2.ensures pair.0 is.1 cut.0)

pub returns-in_err-second : goal.returns-in_err-second
returns-in_err-second c =
    rw c.from_residual-in_err-second.ensures (λ pair is.
    let found = c.in_ok-first.ensures in
    let cut = cut_is_one 32 c.in_ok-first.first.now c.in_ok-first.second.now (decimal pair.0) (decimal pair.1)
    found.1 (Lacks-decimal 32 pair.0 (omega (arith, is.1, c.requires.first)) (omega arith)) (sym found.0 ∙ is.3) in
    c.in_err-second.ensures pair.1 is.2 cut.1)

pub returns-then-first-eq0 : goal.returns-then-first-eq0
returns-then-first-eq0 c = λ pair is.
    let found = c.in_ok-first.ensures in
    let cut = cut_is_one 32 c.in_ok-first.first.now c.in_ok-first.second.now (decimal pair.0) (decimal pair.1)
    found.1 (Lacks-decimal 32 pair.0 (omega (arith, is.1, c.requires.first)) (omega arith)) (sym found.0 ∙ is.3) in
    let same : c.in_ok-first-2.first ≡ pair.0 =
    decimal_injective c.in_ok-first-2.first pair.0 (omega (arith, c.in_ok-first-2.ensures.0)) (omega (arith, is.1, c.requires.first)) (sym c.in_ok-first-2.ensures.1 ∙ cut.0) in
    absurd (omega (arith, is.0, c.if-first-eq0.true, same))
