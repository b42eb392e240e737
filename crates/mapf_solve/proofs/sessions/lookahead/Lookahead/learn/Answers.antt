use Rattle.std.proofs.Common.{◌∙◌, ap, sym}
use Rattle.mapf_tree.specs.SideQuery.{SideQuery}
use Rattle.mapf_solve.specs.Rounds.{WantedChild}
use Rattle.mapf_solve.proofs.WorkedAhead.{same_child}
use Rattle.mapf_solve.proofs.sessions.lookahead.Lookahead.learn.Goals as goal

pub learn-requires-clause-child : goal.learn-requires-clause-child
learn-requires-clause-child g c =
    same_child _ _ _ _ _ _ _ (ap (λ (j : WantedChild). j.query.problem) c.parts-job.ensures.same.0 ∙ c.requires ∙ sym (c.deref_mut.ensures.value ∙ c.args.self.now.is_of))
    c.node.ensures.node (ap (λ (q : SideQuery). q.side) c.query.ensures.query) c.parts-job.ensures.fits
