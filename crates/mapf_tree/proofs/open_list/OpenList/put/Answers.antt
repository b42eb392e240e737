use Rattle.std.proofs.Common.{reverse, not, OnOk, sym, subst, subst₂, ap, ◌∙◌}
use Rattle.std.proofs.lemmas.Bool.{OnFalse_at}
use Rattle.std.specs.BTreeMap.{is_at}
use Rattle.std.specs.BTreeSet.{insert_key}
use Rattle.std.specs.List.{list_any}
use Rattle.mapf_tree.specs.Prelude.{by_key, IsPut}
use Rattle.mapf_tree.proofs.open_list.Rising.{sorted_rises, new_back}
use Rattle.mapf_tree.proofs.open_list.OpenList.put.Goals as goal

pub returns-in-Ok-true-clause-ok : goal.returns-in-Ok-true-clause-ok
returns-in-Ok-true-clause-ok c =
    let old = c.self.inside.nodes.keys in
    subst₂ (λ before after. IsPut before c.args.node after) c.self.view_is
    (sym (ap reverse (c.in-Ok-true.ensures.keys ∙ ap (insert_key by_key old) c.in-Ok.ensures)))
    (new_back old c.args.node c.self.invariant
    (sym c.in-Ok-true.field-0-test ∙ c.in-Ok-true.ensures.added ∙ ap (λ n. not (list_any (is_at (by_key n)) old)) c.in-Ok.ensures))

pub returns-in-Ok-true-clause-rising : goal.returns-in-Ok-true-clause-rising
returns-in-Ok-true-clause-rising c = sorted_rises c.insert.new.self.keys c.insert.ensures.ordered

pub returns-in-Ok-false-clause-ok : goal.returns-in-Ok-false-clause-ok
returns-in-Ok-false-clause-ok c =
    subst (λ old. OnOk c.replace-in-Ok-false.result (IsPut old c.args.node c.replace-in-Ok-false.new.self)) (ap reverse (OnFalse_at c.in-Ok-false.field-0-test c.in-Ok-false.ensures.unchanged) ∙ c.self.view_is) c.replace-in-Ok-false.ensures.ok

pub returns-in-Err-clause-rising : goal.returns-in-Err-clause-rising
returns-in-Err-clause-rising c = sorted_rises c.insert.new.self.keys c.insert.ensures.ordered
