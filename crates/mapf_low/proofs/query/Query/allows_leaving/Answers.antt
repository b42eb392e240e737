use Rattle.std.proofs.Common.{◌+◌, refl}
use Rattle.mapf_low.specs.declared.constraint.Constraint.TheVariants.{Vertex, Edge}
use Rattle.mapf_low.proofs.query.Query.allows_leaving.Goals as goal

pub returns-then-quiet : goal.returns-then-quiet
returns-then-quiet c =
    let none = c.requires.quiet c.if-quiet.true in
    (λ t. (λ i. (none (Vertex c.args.from c.args.time) i).0 refl, λ i. (none (Edge c.args.from c.args.to (c.args.time + 1)) i).1 refl), λ h. c.if-quiet.true)
