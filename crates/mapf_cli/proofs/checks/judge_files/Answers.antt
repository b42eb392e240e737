use Rattle.mapf_cli.proofs.CheckEnds.{plan_refused}
use Rattle.mapf_cli.proofs.checks.judge_files.Goals as goal

pub returns-in_err-judge-clause-fault : goal.returns-in_err-judge-clause-fault
returns-in_err-judge-clause-fault c =
    plan_refused c.args.map.now c.args.scen.now c.args.plan.now c.args.agents c.in_ok-instance.instance c.in_err-judge.field-0.0 _
    c.in_ok-instance.ensures.asked c.in_err-judge.ensures.fault c.from_residual-in_err-judge.ensures.1
