use Rattle.std.proofs.Common.{reverse, sym, subst₂, ap}
use Rattle.mapf_tree.specs.Prelude.{IsPut}
use Rattle.mapf_tree.proofs.open_list.Rising.{sorted_rises, put_back}
use Rattle.mapf_tree.proofs.open_list.OpenList.replace.Goals.{in-Ok+in-None-1, in-Ok+in-Some-1, in-Err}
use Rattle.mapf_tree.proofs.open_list.OpenList.replace.Goals as goal

pub returns-clause-ok : goal.returns-clause-ok
returns-clause-ok c =
    elim c.match-replace.branch [
      | in-Ok+in-None-1 w ↦ rw w.result-is (subst₂ (λ old new. IsPut old c.args.node new) c.self.view_is (sym (ap reverse w.in-Ok.ensures.keys)) (put_back c.self.inside.nodes.keys c.args.node c.self.invariant))
      | in-Ok+in-Some-1 w ↦ rw w.result-is (subst₂ (λ old new. IsPut old c.args.node new) c.self.view_is (sym (ap reverse w.in-Ok.ensures.keys)) (put_back c.self.inside.nodes.keys c.args.node c.self.invariant))
      | in-Err w ↦ rw w.result-is tt
    ]

pub returns-clause-rising : goal.returns-clause-rising
returns-clause-rising c = sorted_rises c.replace.new.self.keys c.replace.ensures.ordered
