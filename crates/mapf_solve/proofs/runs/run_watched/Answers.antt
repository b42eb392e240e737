use Rattle.mapf_solve.proofs.Leaving.{best_is_left, limit_is_left, only_is_left}
use Rattle.mapf_solve.proofs.runs.run_watched.Goals as goal

pub returns-clause-best : goal.returns-clause-best
returns-clause-best g c = λ e. best_is_left _ _ _ _ _ _ e c.write_text_or_fault.ensures.text

pub returns-clause-limit : goal.returns-clause-limit
returns-clause-limit g c = λ n e. limit_is_left _ _ _ n _ _ _ e c.write_text_or_fault.ensures.text

pub returns-clause-same : goal.returns-clause-same
returns-clause-same g c = only_is_left _ _ _ _ _ _ c.write_text_or_fault.ensures.text
