use Rattle.std.proofs.Common.{Some, option_map, subst, subst₂, sym, ap}
use Rattle.mapf_tree.specs.Prelude.{arc_value, IsChildOf, Changed, SideQuery, IsQueryOf, IsFoundBy}
use Rattle.mapf_tree.proofs.sides.Queries.{is_child, no_child}
use Rattle.mapf_tree.proofs.tree.side_query.SideQuery.child.Goals as goal

pub returns-in_default : goal.returns-in_default
returns-in_default c = no_child c.args.node.now c.args.self.now c.requires.query (subst (λ p. IsFoundBy c.args.self.now (option_map arc_value p)) c.in_default.is c.requires.path)

pub returns : goal.returns
returns c =
    let path = arc_value c.in-Some.path in
    let change = c.in_ok-change.change.value in
    let found : IsFoundBy c.args.self.now (Some path) = subst (λ p. IsFoundBy c.args.self.now (option_map arc_value p)) c.in-Some.is c.requires.path in
    let same = c.in_ok-change.ensures.ok in
    let e = c.in_ok-with_change.ensures in
    subst (λ (q : SideQuery). IsChildOf q.problem c.args.node.now q.side (Some c.in_ok-with_change.field-0)) c.self.view_is (is_child c.args.node.now c.in_ok-with_change.field-0 _ change (subst (IsQueryOf c.args.node.now) (sym c.self.view_is) c.requires.query)
    (subst₂ (λ q p. IsFoundBy q (Some p)) (sym c.self.view_is) (sym (ap (λ (x : Changed). x.path) same)) found) (ap (λ (x : Changed). x.agent) same) (ap (λ (x : Changed). x.constraint) same) e.name e.changes e.constraints e.plan e.rule e.conflict)
