use Rattle.std.proofs.Common.{subst, sym}
use Rattle.mapf_check.specs.Judged.{AreJudged}
use Rattle.mapf_cli.specs.CheckRun.{IsTextsFault}
use Rattle.mapf_cli.proofs.CheckEnds.{all_told, part_is_left, refused_is_left}
use Rattle.mapf_cli.proofs.checks.check_run.Goals as goal

pub returns-in_err-verdict-clause-verdict : goal.returns-in_err-verdict-clause-verdict
returns-in_err-verdict-clause-verdict g c =
    refused_is_left c.args.rule (g.M.Source.remaining c.args.map.now) (g.S.Source.remaining c.args.scen.now) (g.P.Source.remaining c.args.plan.now) c.args.agents
    (g.O.Sink.contents c.args.out.now) c.deref.result.now c.deref-2.result.now c.deref-3.result.now c.in_err-verdict.field-0.0 c.from_residual-in_err-verdict.result
    c.in_err-verdict.ensures.fault
    (all_told _ _ _ _ _ _ _ _ _ (λ m s p. IsTextsFault m s p c.args.agents c.in_err-verdict.field-0.0) c.deref.ensures.value c.in_ok-map.ensures.whole
    c.deref-2.ensures.value c.in_ok-scen.ensures.whole c.deref-3.ensures.value c.in_ok-plan.ensures.whole c.in_err-verdict.ensures.fault)
    c.from_residual-in_err-verdict.ensures.1

pub returns-in_err-write_text-clause-verdict : goal.returns-in_err-write_text-clause-verdict
returns-in_err-write_text-clause-verdict g c =
    let line = c.as_bytes.result.now in
    part_is_left c.args.rule (g.M.Source.remaining c.args.map.now) (g.S.Source.remaining c.args.scen.now) (g.P.Source.remaining c.args.plan.now) c.args.agents
    (g.O.Sink.contents c.args.out.now) (g.O.Sink.contents c.write_text.new.sink) c.in_ok-verdict.verdict line c.in_err-write_text.field-0.0 c.from_residual-in_err-write_text.result
    (all_told _ _ _ _ _ _ _ _ _ (λ m s p. AreJudged c.args.rule m s p c.args.agents c.in_ok-verdict.verdict line) c.deref.ensures.value c.in_ok-map.ensures.whole
    c.deref-2.ensures.value c.in_ok-scen.ensures.whole c.deref-3.ensures.value c.in_ok-plan.ensures.whole
    (subst (AreJudged c.args.rule c.deref.result.now c.deref-2.result.now c.deref-3.result.now c.args.agents c.in_ok-verdict.verdict) (sym c.as_bytes.ensures.value) c.in_ok-verdict.ensures.judged))
    c.in_err-write_text.ensures.fault c.from_residual-in_err-write_text.ensures.1
