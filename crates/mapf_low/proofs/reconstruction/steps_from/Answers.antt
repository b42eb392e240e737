use Rattle.std.proofs.Common.{◌∷◌, [], ◌++◌, ap, ◌∙◌}
use Rattle.mapf_low.proofs.Rising.{all_ways}
use Rattle.mapf_low.proofs.reconstruction.steps_from.Goals as goal

pub returns : goal.returns
returns c =
    all_ways c.args.query.now.grid c.args.cell c.neighbours.result.items c.push.new.self.items c.requires c.neighbours.ensures
    (c.in_ok-push.ensures.ok ∙ ap (λ xs. xs ++ c.args.cell ∷ []) (c.in_ok-found.ensures.ok ∙ c.as_slice-2.ensures))
