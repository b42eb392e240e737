use Rattle.mapf_solve.proofs.Leaving.{any_best_is_left, any_limit_is_left}
use Rattle.mapf_solve.proofs.runs.run_any_watched.Goals as goal

pub returns-clause-best : goal.returns-clause-best
returns-clause-best g c = λ e. any_best_is_left _ _ _ _ _ _ e c.write_text_or_fault.ensures.text

pub returns-clause-limit : goal.returns-clause-limit
returns-clause-limit g c = λ n e. any_limit_is_left _ _ _ n _ _ _ e c.write_text_or_fault.ensures.text
