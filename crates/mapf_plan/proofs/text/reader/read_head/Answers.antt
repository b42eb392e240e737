use Rattle.mapf_plan.proofs.text.Heads.{no_head_by_numbers, no_head_by_gave_up}
use Rattle.mapf_plan.proofs.text.reader.read_head.Goals as goal

pub returns-in_err-agents : goal.returns-in_err-agents
returns-in_err-agents c = rw c.from_residual.ensures (no_head_by_numbers _ _ c.in-Some.ensures c.in_err-agents.ensures)

pub returns-in_err-nodes : goal.returns-in_err-nodes
returns-in_err-nodes c = rw c.from_residual-in_err-nodes.ensures (no_head_by_gave_up _ _ c.in-Some-without_front.ensures c.in_err-nodes.ensures)
