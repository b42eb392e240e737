use Rattle.std.proofs.Common.{subst, sym}
use Rattle.mapf_low.specs.Query.{MayEnd}
use Rattle.mapf_low.proofs.Ending.{ends_by_bound}
use Rattle.mapf_low.proofs.Rising.{not_true}
use Rattle.mapf_low.proofs.forwards.own_path_of.Goals as goal

pub returns-then-not-may_end : goal.returns-then-not-may_end
returns-then-not-may_end c =
    λ p a. not_true c.may_end.result (MayEnd c.args.query.now c.bound.result) c.may_end.ensures c.if-not-may_end.true (subst (MayEnd c.args.query.now) (sym c.bound.ensures.bound) (ends_by_bound c.args.query.now p a))
