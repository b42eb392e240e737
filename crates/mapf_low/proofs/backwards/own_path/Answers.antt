use Rattle.std.proofs.Common.{subst, sym, ap, ◌∙◌}
use Rattle.mapf_low.specs.Backwards.Tracing.{HasNoneBefore}
use Rattle.mapf_low.specs.Walk.{distance_at}
use Rattle.mapf_low.proofs.backwards.BackwardCosts.{none_before, none_far}
use Rattle.mapf_low.proofs.backwards.own_path.Goals as goal

pub trace_first-requires-clause-before : goal.trace_first-requires-clause-before
trace_first-requires-clause-before c =
    let query = c.args.query.now in
    subst (HasNoneBefore query) (sym c.max.ensures)
    (none_before query c.goal.ensures.posed c.requires.earliest c.args.least c.in-Some.earliest
    (ap (distance_at query.table) (sym c.goal.ensures.goal) ∙ sym c.entry.ensures ∙ c.in-Some.is) c.requires.least)

pub returns-in-None : goal.returns-in-None
returns-in-None c =
    let query = c.args.query.now in
    none_far query c.goal.ensures.posed c.requires.earliest (ap (distance_at query.table) (sym c.goal.ensures.goal) ∙ sym c.entry.ensures ∙ c.in-None.is)
