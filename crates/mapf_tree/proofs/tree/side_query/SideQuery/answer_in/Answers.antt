use Rattle.std.proofs.Common.{Some, None, subst, sym, ap, ◌∙◌}
use Rattle.mapf_tree.specs.Prelude.{path_of, IsChildOf, SideQuery, IsFoundBy}
use Rattle.mapf_tree.proofs.sides.Queries.{found_of_child}
use Rattle.mapf_tree.proofs.tree.side_query.SideQuery.answer_in.Goals as goal

pub returns-in-Some-last_path : goal.returns-in-Some-last_path
returns-in-Some-last_path c =
    subst (λ p. IsFoundBy c.args.self.now (Some p)) (sym (c.in-Some-last_path.ensures ∙ ap (λ (q : SideQuery). path_of c.in-Some.child.plan q.agent) c.self.view_is))
    (found_of_child c.args.node.now c.args.self.now (Some c.in-Some.child) c.requires.node c.requires.query (subst (IsChildOf c.args.self.now.problem c.args.node.now c.args.self.now.side) c.in-Some.is c.requires.child))

pub returns-in_default : goal.returns-in_default
returns-in_default c =
    found_of_child c.args.node.now c.args.self.now None c.requires.node c.requires.query (subst (IsChildOf c.args.self.now.problem c.args.node.now c.args.self.now.side) c.in_default.is c.requires.child)
