use Rattle.std.proofs.Common.{◌↔◌, IsTrue, subst, sym}
use Rattle.mapf_low.specs.Query.{MayEnd, query_of}
use Rattle.mapf_low.proofs.Ending.{past_may_end, may_end_past}
use Rattle.mapf_low.proofs.query.Query.may_end.Goals as goal

pub returns : goal.returns
returns c =
    let s = c.self.inside in
    let query = query_of s.map.now s.table.now s.constraints.now s.start s.goal s.bound in
    subst (λ q. IsTrue c.is_past.result ↔ MayEnd q c.args.time) c.self.view_is (
      (λ t. past_may_end query c.args.time c.self.inside.last c.self.invariant.last_is (subst IsTrue c.is_past.ensures t)),
      (λ e. subst IsTrue (sym c.is_past.ensures) (may_end_past query c.args.time c.self.inside.last c.self.invariant.last_is e)),
    )
