use Rattle.std.proofs.lemmas.Result.{err_from_is_err_and}
use Rattle.std.proofs.Common.{inl, inr, ◌∷◌, [], arith, length-append}
use Rattle.mapf_plan.proofs.text.Lines.{ReadsLines-more, ReadsLines-end}
use Rattle.mapf_plan.proofs.text.reader.read_plan.Goals as goal

pub loop-agent-preserved : goal.loop-agent-preserved
loop-agent-preserved c =
    let read = c.in_ok-path.ensures.read in record {
      lines = rw c.in_ok-push.ensures.items
          (ReadsLines-more c.args.map.now c.args.bytes.now c.loop-agent.rest.now read.0 c.in_ok-path.after.now c.in_ok-path.path c.loop-agent.paths.items
          c.loop-agent.invariant.lines read.1 read.2);
      agents = rw c.in_ok-push.ensures.items (omega (arith, length-append c.loop-agent.paths.items (c.in_ok-path.path ∷ [])));
    }

pub returns-clause-lines : goal.returns-clause-lines
returns-clause-lines c = rw c.of.ensures (ReadsLines-end _ _ _ _ c.loop-agent.invariant.lines c.in_ok-expect_end.ensures)

pub returns-in_err-path-clause-fault : goal.returns-in_err-path-clause-fault
returns-in_err-path-clause-fault c =
    let p = err_from_is_err_and c.from_residual.result c.from_residual.ensures.1 in
    rw (p.1, p.2) (inr (record {
      rest = c.loop-agent.rest.now;
      paths = c.loop-agent.paths.items;
      read = c.loop-agent.invariant.lines;
      stuck = inl (omega arith, rw c.loop-agent.invariant.agents c.in_err-path.ensures.fault);
    }))
