use Rattle.std.proofs.Common.{◌∙◌, sym, subst, map}
use Rattle.std.specs.Prelude.{None}
use Rattle.std.specs.Arc.{arc_value}
use Rattle.mapf_plan.specs.declared.cache.first_times.FirstTime.TheVariants.{Never}
use Rattle.mapf_plan.specs.Plan.{path_of}
use Rattle.mapf_plan.specs.Collisions.{HaveNoneBefore}
use Rattle.mapf_plan.specs.KnownPaths.{KnownPaths}
use Rattle.mapf_plan.proofs.cache.PathTimes.{right_at}
use Rattle.mapf_plan.proofs.cache.known_paths.KnownPaths.first_time.Goals as goal

pub returns-in-Never-clause-time : goal.returns-in-Never-clause-time
returns-in-Never-clause-time c =
    let one = c.args.one in let other = c.args.other in
    subst (λ (s : KnownPaths). HaveNoneBefore s.rule (path_of s.paths one) (path_of s.paths other) None) c.self.view_is
    (right_at c.self.inside.rule (map arc_value c.self.inside.paths.items) c.self.inside.times c.row.result.now one other Never c.self.invariant
    c.row.ensures (sym c.in-Never.is ∙ c.time_of.ensures)).2
