use Rattle.std.proofs.Common.{refl, sym, ◌∙◌}
use Rattle.mapf_low.proofs.SameSets.{same_lists}
use Rattle.mapf_low.proofs.constraints.is_same_list.Goals as goal

pub returns : goal.returns
returns c told =
    same_lists _ (record { vertices = λ a b t u. refl; edges = λ a b v w t u. refl; vertex_edge = λ a b w t u. refl; edge_vertex = λ a v b t u. refl })
    c.args.one.now c.args.other.now (sym c.eq.ensures ∙ told)
