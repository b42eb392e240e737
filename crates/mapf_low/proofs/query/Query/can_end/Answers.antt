use Rattle.std.proofs.Common.{Contains, ap, subst, sym}
use Rattle.mapf_low.proofs.query.Query.can_end.Goals as goal

pub returns-then-may_end : goal.returns-then-may_end
returns-then-may_end c =
    let same = ap (λ q. q.goal) c.self.view_is in (
      (λ t. (subst (Contains c.args.cells.now) same (c.contains.ensures.0 t), c.may_end.ensures.0 c.if-may_end.true)),
      (λ p. c.contains.ensures.1 (subst (Contains c.args.cells.now) (sym same) p.0)),
    )
