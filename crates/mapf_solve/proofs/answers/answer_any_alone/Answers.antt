use Rattle.mapf_solve.proofs.Answering.{any_answered_is_best, any_answered_keeps_limit}
use Rattle.mapf_solve.proofs.answers.answer_any_alone.Goals as goal

pub returns-clause-best : goal.returns-clause-best
returns-clause-best c = any_answered_is_best (λ bytes. bytes.items) c.args.map.now c.args.scen.now c.args.ask _ c.text_or_fault_alone.ensures.text

pub returns-clause-limit : goal.returns-clause-limit
returns-clause-limit c = any_answered_keeps_limit (λ bytes. bytes.items) c.args.map.now c.args.scen.now c.args.ask _ c.text_or_fault_alone.ensures.text
