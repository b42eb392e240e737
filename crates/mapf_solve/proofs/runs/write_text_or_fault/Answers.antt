use Rattle.std.proofs.Common.{IfSome, subst, sym}
use Rattle.mapf_plan.proofs.WhatIsLeft.{told}
use Rattle.mapf_solve.specs.Out.{IsTextBy}
use Rattle.mapf_solve.specs.Wanted.{IsWanted}
use Rattle.mapf_solve.proofs.Leaving.{part_is_left}
use Rattle.mapf_solve.proofs.runs.write_text_or_fault.Goals as goal

pub returns-in_err-write_text-clause-text : goal.returns-in_err-write_text-clause-text
returns-in_err-write_text-clause-text g c =
    let text = c.deref-3.result.now in
    let is = subst (IsTextBy (IsWanted c.args.wanted) c.deref.result.now c.deref-2.result.now c.args.ask) (sym c.deref-3.ensures.value) c.in_ok-text.ensures.text in
    part_is_left (IsWanted c.args.wanted) (g.M.Source.remaining c.args.map.now) (g.S.Source.remaining c.args.scen.now) c.args.ask _ _ text c.in_err-write_text.field-0.0 _
    (told _ _ _ (λ m. IfSome (g.S.Source.remaining c.args.scen.now) (λ s. IsTextBy (IsWanted c.args.wanted) m s c.args.ask text)) c.deref.ensures.value c.in_ok-map.ensures.whole
    (told _ _ _ (λ s. IsTextBy (IsWanted c.args.wanted) c.deref.result.now s c.args.ask text) c.deref-2.ensures.value c.in_ok-scen.ensures.whole is))
    c.in_err-write_text.ensures.fault c.from_residual-in_err-write_text.ensures.1
