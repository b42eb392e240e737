use Rattle.std.proofs.Common.{inl, ap, ◌∙◌}
use Rattle.std.specs.BTreeMap.{insert_entry}
use Rattle.mapf_bounds.specs.Waiting.{WaitingNode, key_cmp, bound_key}
use Rattle.mapf_bounds.proofs.waiting.admit.Goals as goal

pub returns-in-Ok : goal.returns-in-Ok
returns-in-Ok c =
    inl (c.in-Ok.ensures.entries ∙ ap (λ name. insert_entry key_cmp c.args.waiting.now.entries (bound_key c.args.bound name) c.args.entry) (c.in_ok-copy.ensures ∙ c.key.ensures.name ∙ ap (λ (e : WaitingNode). e.node.name) c.entry.view_is))
