use Rattle.std.proofs.Common.{◌≡◌, ◌+◌, length, sym, ap, ◌∙◌, arith}
use Rattle.mapf_tree.specs.Prelude.{Changed, Body}
use Rattle.mapf_tree.proofs.node.Chains.{last_at}
use Rattle.mapf_tree.proofs.node.Node.last_path.Goals as goal

pub returns-then-change-agent : goal.returns-then-change-agent
returns-then-change-agent c =
    let changes = c.deref.result.now.chain.changes in
    let last = c.in_ok-checked_sub.field-0 in
    let many : length changes ≡ last + 1 = omega (arith, c.in_ok-checked_sub.ensures.0, c.in_ok-checked_sub.ensures.1, c.len.ensures) in
    ap (λ (x : Changed). x.path) c.change.view_is
    ∙ last_at _ _ _ c.args.self.now c.self.view_is c.args.agent last c.at-change.result.now c.deref.result.now.chain (ap (λ (b : Body). b.chain) c.deref.ensures) c.at-change.ensures many
    (sym (ap (λ (x : Changed). x.agent) c.change.view_is) ∙ c.if-change-agent.true) c.requires
