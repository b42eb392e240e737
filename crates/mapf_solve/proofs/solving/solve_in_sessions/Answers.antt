use Rattle.std.proofs.Common.{Ok, ap, ◌∙◌, arith}
use Rattle.mapf_tree.proofs.high_level.GoingOn.{right_out}
use Rattle.mapf_solve.proofs.GoingOn.{counts_on, falls, still_open}
use Rattle.mapf_solve.proofs.Telling.{told_any, told_both, told_more, told_nothing}
use Rattle.mapf_solve.proofs.solving.solve_in_sessions.Goals as goal

pub loop-sessions-init : goal.loop-sessions-init
loop-sessions-init g c = (
  c.in_ok-sessions.ensures,
  told_more g.W.Watch.told g.P.OneProblem.problem c.in_ok-sessions.sessions.search.taken c.in_ok-sessions.sessions.search c.args.watch.now c.args.watch.now c.tell.new.watch c.in_ok-sessions.sessions.of_problem (omega arith)
      (told_nothing g.W.Watch.told g.P.OneProblem.problem c.in_ok-sessions.sessions.search.taken c.args.watch.now) c.tell.ensures,
)

pub loop-sessions-preserved : goal.loop-sessions-preserved
loop-sessions-preserved g c = (
  still_open g.P.OneProblem.problem _ c.loop-sessions.sessions.search c.session-further.result.0.search _ c.session-further.ensures (c.in-Ok-Working.is ∙ ap (λ x. Ok x) (rw c.in-Ok-Working.is at c.in-Ok-Working.field-0-is)),
  told_more g.W.Watch.told g.P.OneProblem.problem c.loop-sessions.sessions.search.taken c.session-further.result.0.search c.args.watch.now c.loop-sessions.watch c.tell-in-loop-sessions.new.watch c.session-further.result.0.of_problem (counts_on g.P.OneProblem.problem _ c.loop-sessions.sessions.search c.session-further.result.0.search _ c.session-further.ensures) c.loop-sessions.invariant.1 c.tell-in-loop-sessions.ensures,
)

pub loop-sessions-smaller : goal.loop-sessions-smaller
loop-sessions-smaller g c =
    falls g.P.OneProblem.problem _ c.loop-sessions.sessions.search c.session-further.result.0.search _ c.args.means.now.nodes.0 c.session-further.ensures (c.in-Ok-Working.is ∙ ap (λ x. Ok x) (rw c.in-Ok-Working.is at c.in-Ok-Working.field-0-is))

pub returns-then-is_none-clause-told : goal.returns-then-is_none-clause-told
returns-then-is_none-clause-told g c =
    told_both g.W.Watch.told g.P.OneProblem.problem c.session-further.result.0.search.taken c.args.watch.now c.tell-in-loop-sessions.new.watch c.finish.new.watch c.finish.result
    (told_more g.W.Watch.told g.P.OneProblem.problem c.loop-sessions.sessions.search.taken c.session-further.result.0.search c.args.watch.now c.loop-sessions.watch c.tell-in-loop-sessions.new.watch c.session-further.result.0.of_problem (counts_on g.P.OneProblem.problem _ c.loop-sessions.sessions.search c.session-further.result.0.search _ c.session-further.ensures) c.loop-sessions.invariant.1 c.tell-in-loop-sessions.ensures) c.finish.ensures.told

pub returns-clause-told : goal.returns-clause-told
returns-clause-told g c =
    told_any g.W.Watch.told g.P.OneProblem.problem c.session-further.result.0.search.taken c.args.watch.now c.tell-in-loop-sessions.new.watch c.ok_or.result
    (told_more g.W.Watch.told g.P.OneProblem.problem c.loop-sessions.sessions.search.taken c.session-further.result.0.search c.args.watch.now c.loop-sessions.watch c.tell-in-loop-sessions.new.watch c.session-further.result.0.of_problem (counts_on g.P.OneProblem.problem _ c.loop-sessions.sessions.search c.session-further.result.0.search _ c.session-further.ensures) c.loop-sessions.invariant.1 c.tell-in-loop-sessions.ensures)

pub returns-clause-answer : goal.returns-clause-answer
returns-clause-answer g c =
    right_out g.P.OneProblem.problem c.session-further.result.0.search c.into_answer.result c.ok_or.result _ c.into_answer.ensures.search c.session-further.result.0.of_problem c.into_answer.ensures.answer c.ok_or.ensures.value
