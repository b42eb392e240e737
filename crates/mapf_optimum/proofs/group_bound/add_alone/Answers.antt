use Rattle.std.proofs.Common.{◌≡◌, ℕ, Bool, true, Vec, get_or, length, length-set, subst, subst₂, sym, ◌∙◌, arith}
use Rattle.std.specs.declared.alloc.Global.{Global}
use Rattle.mapf_optimum.specs.Groups.{AreChosen}
use Rattle.mapf_optimum.proofs.ChosenGroups.{chosen_alone}
use Rattle.mapf_optimum.proofs.group_bound.add_alone.Goals.{then-not-index, else-not-index}
use Rattle.mapf_optimum.proofs.group_bound.add_alone.Goals as goal

pub loop-agent-preserved : goal.loop-agent-preserved
loop-agent-preserved c = elim c.if-not-index.branch [
  | then-not-index w ↦ record {
    long = subst (λ (t : Vec Bool Global). length t.items ≡ length c.args.costs.now) (sym w.taken-is) (length-set c.loop-agent.taken.items c.loop-agent.agent true ∙ c.loop-agent.invariant.long);
    chosen = λ groups are.
        subst₂ (λ (t : Vec Bool Global) (s : ℕ). AreChosen c.args.costs.now groups t.items s) (sym w.taken-is) (sym w.sum-is)
        (chosen_alone c.args.costs.now groups c.loop-agent.taken.items c.loop-agent.sum w.saturating_add-sum.result c.loop-agent.agent w.from.result (c.loop-agent.invariant.chosen groups are)
        c.loop-agent-test.true (sym (subst (λ (b : Bool). b ≡ get_or c.loop-agent.taken.items c.loop-agent.agent b) w.if-not-index.true c.index.ensures)) w.from.ensures
        (omega (arith, w.saturating_add-sum.ensures)));
  }
  | else-not-index w ↦ record {
    long = subst (λ (t : Vec Bool Global). length t.items ≡ length c.args.costs.now) (sym w.taken-is) c.loop-agent.invariant.long;
    chosen = λ groups are. subst₂ (λ (t : Vec Bool Global) (s : ℕ). AreChosen c.args.costs.now groups t.items s) (sym w.taken-is) (sym w.sum-is) (c.loop-agent.invariant.chosen groups are);
  }
]
