use Rattle.mapf_solve.proofs.Answering.{answered_is_best, answered_keeps_limit}
use Rattle.mapf_solve.proofs.OneOut.{only_text, only_fault}
use Rattle.mapf_solve.proofs.answers.answer_alone.Goals as goal

pub returns-clause-best : goal.returns-clause-best
returns-clause-best c = answered_is_best (λ bytes. bytes.items) c.args.map.now c.args.scen.now c.args.ask _ c.text_or_fault_alone.ensures.text

pub returns-clause-limit : goal.returns-clause-limit
returns-clause-limit c = answered_keeps_limit (λ bytes. bytes.items) c.args.map.now c.args.scen.now c.args.ask _ c.text_or_fault_alone.ensures.text

pub returns-clause-same : goal.returns-clause-same
returns-clause-same c = only_text (λ bytes. bytes.items) c.args.map.now c.args.scen.now c.args.ask _ c.text_or_fault_alone.ensures.text

pub returns-clause-same_fault : goal.returns-clause-same_fault
returns-clause-same_fault c = only_fault c.args.map.now c.args.scen.now c.args.ask _ c.text_or_fault_alone.ensures.fault
