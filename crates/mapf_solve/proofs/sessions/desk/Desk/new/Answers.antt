use Rattle.std.proofs.Common.{None, map, slice_index_or, ap, sym, ◌∙◌}
use Rattle.mapf_solve.specs.Sessions.{number_of}
use Rattle.mapf_solve.proofs.Boards.{none_there}
use Rattle.mapf_solve.proofs.sessions.desk.Desk.new.Goals as goal

pub invariant_of-result-clause-sides : goal.invariant_of-result-clause-sides
invariant_of-result-clause-sides g c slot job at = none_there 64 slot job (sym (ap (λ l. slice_index_or l slot None) c.requires.no_job) ∙ at)

pub invariant_of-result-clause-numbered : goal.invariant_of-result-clause-numbered
invariant_of-result-clause-numbered g c = sym (ap (map number_of) c.requires.no_job)
