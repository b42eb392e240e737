use Rattle.std.proofs.Common.{◌+◌, refl}
use Rattle.mapf_low.specs.declared.constraint.Constraint.TheVariants.{Vertex, Edge}
use Rattle.mapf_low.proofs.query.Query.may_go.Goals as goal

pub returns-then-is_quiet : goal.returns-then-is_quiet
returns-then-is_quiet c =
    let none = c.is_quiet.ensures c.if-is_quiet.true in (
      (λ t. (
        (λ i. (none (Vertex c.args.from c.args.time) i).0 refl),
        ((λ i. (none (Vertex c.args.to (c.args.time + 1)) i).1 refl), (λ i. (none (Edge c.args.from c.args.to (c.args.time + 1)) i).1 refl)),
      )),
      (λ h. c.if-is_quiet.true),
    )
