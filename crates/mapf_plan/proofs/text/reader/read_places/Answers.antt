use Rattle.std.proofs.Common.{arith, ap, ◌∙◌, ◌∷◌, [], length-append, eqb}
use Rattle.std.proofs.lemmas.Result.{err_from_is_err_and}
use Rattle.std.proofs.lemmas.List.Splits.{slice_split_none}
use Rattle.mapf_plan.specs.ReadText.{words_of}
use Rattle.mapf_plan.proofs.text.Places.{ReadsTo-more, ReadsTo-end, ReadsTo-fault, words_of-cut}
use Rattle.mapf_plan.proofs.text.reader.read_places.Goals as goal

pub returns-in_err-push_place-clause-fault : goal.returns-in_err-push_place-clause-fault
returns-in_err-push_place-clause-fault c =
    let p = err_from_is_err_and c.from_residual.result c.from_residual.ensures.1 in
    let found = c.in-Some.ensures in
    rw (p.1, p.2) (ReadsTo-fault _ _ _ _ _ _ _ c.loop-word.invariant (ap words_of found.0 ∙ words_of-cut c.in-Some.word.now c.in-Some.after.now found.1) c.in_err-push_place.ensures.fault)

pub loop-word-preserved : goal.loop-word-preserved
loop-word-preserved c =
    let found = c.in-Some.ensures in
    let pushed = c.in_ok-push_place.ensures.pushed in
    rw pushed.2 (ReadsTo-more _ _ _ _ _ pushed.0 c.loop-word.invariant found.0 found.1 pushed.1)

pub returns-in_err-push_place-2-clause-fault : goal.returns-in_err-push_place-2-clause-fault
returns-in_err-push_place-2-clause-fault c =
    let p = err_from_is_err_and c.from_residual-in_err-push_place-2.result c.from_residual-in_err-push_place-2.ensures.1 in
    rw (p.1, p.2) (ReadsTo-fault _ _ _ _ _ _ _ c.loop-word.invariant (slice_split_none (λ b. eqb b 32) c.loop-word.rest.now c.in_default.ensures) c.in_err-push_place-2.ensures.fault)

pub returns-clause-places : goal.returns-clause-places
returns-clause-places c =
    let pushed = c.in_ok-push_place-2.ensures.pushed in
    rw pushed.2 (
      omega (arith, pushed.3, length-append c.loop-word.places.items (pushed.0 ∷ [])),
      ReadsTo-end _ _ _ pushed.0 c.loop-word.invariant c.in_default.ensures pushed.1,
    )
