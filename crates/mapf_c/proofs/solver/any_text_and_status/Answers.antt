use Rattle.std.proofs.Common.{◌∙◌}
use Rattle.mapf_c.proofs.solver.any_text_and_status.Goals as goal

pub returns-clause-answered : goal.returns-clause-answered
returns-clause-answered c =
    let text = c.in_ok-text.ensures.text in
    record {
      map_read = c.in_ok-test_length.ensures.read;
      scen_read = c.in_ok-test_length-2.ensures.read;
      text = text;
      status_is = c.status_of_text.ensures text.inst.grid text.given (c.deref.ensures.value ∙ text.spelled);
      best = c.in_ok-text.ensures.best;
      limit = c.in_ok-text.ensures.limit;
    }
