use Rattle.std.proofs.Common.{subst₂, ap, MatchOption}
use Rattle.mapf_plan.specs.Plan.{IsFirstConflict, HasNoConflict}
use Rattle.mapf_optimum.specs.Groups.{alone}
use Rattle.mapf_optimum.proofs.Roots.{choice_of}
use Rattle.mapf_optimum.proofs.node.FreeNode.first_conflict.Goals as goal

pub returns : goal.returns
returns c =
    choice_of (alone c.args.part.now) c.args.self.now c.first_conflict_by.result c.requires
    (subst₂ (λ r plan. MatchOption c.first_conflict_by.result (HasNoConflict r plan) (λ k. IsFirstConflict r plan k)) c.rule.ensures (ap (λ n. n.plan) c.self.view_is) c.first_conflict_by.ensures)
