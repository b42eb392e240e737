use Rattle.mapf_bounds.proofs.collisions.disjoint_collisions.Goals as goal

pub returns : goal.returns
returns g c =
    let is = c.loop-conflict.invariant in (is.chosen, is.disjoint, is.many, is.within)
