use Rattle.std.proofs.Common.{ℕ, Bool, Vec, List, ◌<◌, get_or, length, refl, subst, subst₂, sym, ◌∙◌, arith, Contains}
use Rattle.std.specs.declared.alloc.Global.{Global}
use Rattle.mapf_optimum.specs.Groups.{AreChosen, Takes}
use Rattle.mapf_optimum.proofs.ChosenGroups.{chosen_more, one_of}
use Rattle.mapf_optimum.proofs.group_bound.add_groups.Goals.{then-surplus-gt0+then-take, else-surplus-gt0, else-surplus-gt0-via-then-surplus-gt0+else-take, else-surplus-gt0-via-else-surplus-gt0}
use Rattle.mapf_optimum.proofs.group_bound.add_groups.Goals as goal

pub take-requires : goal.take-requires
take-requires c =
    let has : Contains c.args.groups.now c.index-groups-groups.result = one_of c.args.groups.now _ c.index-groups-groups.result (omega (arith, c.loop-place-test.true)) c.index-groups-groups.is in
    subst (λ (l : List ℕ). (k : ℕ) → k < length l → get_or l k 0 < length c.loop-place.taken.items) (sym c.deref.ensures.value)
    (λ k h. omega (arith, (c.requires.groups c.index-groups-groups.result has).inside k h, c.loop-place.invariant.long))

pub loop-place-preserved : goal.loop-place-preserved
loop-place-preserved c =
    let has : Contains c.args.groups.now c.index-groups-groups.result = one_of c.args.groups.now _ c.index-groups-groups.result (omega (arith, c.loop-place-test.true)) c.index-groups-groups.is in
    elim c.if-surplus-gt0.branch [
      | then-surplus-gt0+then-take w ↦
          subst₂ (λ (t : Vec Bool Global) (s : ℕ). AreChosen c.args.costs.now c.args.groups.now t.items s) (sym w.taken-is) (sym w.sum-is)
          (chosen_more c.args.costs.now c.args.groups.now c.loop-place.taken.items w.take.new.taken.items c.loop-place.sum w.saturating_add-sum.result
          c.index-groups-groups.result.agents.items c.index-groups-groups.result.least c.loop-place.invariant (c.requires.groups c.index-groups-groups.result has)
          (λ problem sets least are. are c.index-groups-groups.result has)
          (subst (λ (l : List ℕ). Takes l c.loop-place.taken.items w.take.new.taken.items) w.deref.ensures.value (w.if-take.ensures.takes refl))
          (omega (arith, w.saturating_add-sum.ensures)))
      | else-surplus-gt0 w ↦ elim w.else-surplus-gt0.branch [
        | else-surplus-gt0-via-then-surplus-gt0+else-take v ↦
            subst₂ (λ (t : Vec Bool Global) (s : ℕ). AreChosen c.args.costs.now c.args.groups.now t.items s) (sym (w.taken-is ∙ v.taken-is)) (sym w.sum-is)
            (subst (λ (l : List Bool). AreChosen c.args.costs.now c.args.groups.now l c.loop-place.sum) (sym (v.if-take.ensures.stands refl)) c.loop-place.invariant)
        | else-surplus-gt0-via-else-surplus-gt0 v ↦
            subst₂ (λ (t : Vec Bool Global) (s : ℕ). AreChosen c.args.costs.now c.args.groups.now t.items s) (sym (w.taken-is ∙ v.taken-is)) (sym w.sum-is) c.loop-place.invariant
      ]
    ]
