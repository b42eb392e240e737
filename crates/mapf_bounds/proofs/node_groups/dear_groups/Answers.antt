use Rattle.std.proofs.Common.{Vec, subst, sym, ◌∙◌, arith}
use Rattle.std.specs.declared.alloc.Global.{Global}
use Rattle.mapf_optimum.specs.declared.group_bound.GroupBound.{GroupBound}
use Rattle.mapf_bounds.specs.Groups.{Follow}
use Rattle.mapf_bounds.proofs.Groups.{follow_on}
use Rattle.mapf_bounds.proofs.node_groups.dear_groups.Goals.{then-surplus-gt0+in_ok-copy+in_ok-put, else-surplus-gt0}
use Rattle.mapf_bounds.proofs.node_groups.dear_groups.Goals as goal

pub loop-place-preserved : goal.loop-place-preserved
loop-place-preserved c =
    elim c.if-surplus-gt0.branch [
      | then-surplus-gt0+in_ok-copy+in_ok-put w ↦
          subst (λ (v : Vec GroupBound Global). Follow c.args.groups.now v.items) (sym w.kept-is)
          (follow_on c.args.groups.now c.loop-place.kept.items w.put.new.groups.items w.in_ok-copy.copy c.index-groups-groups.result c.loop-place.invariant
          (_, omega (arith, c.loop-place-test.true), sym c.index-groups-groups.is) (sym (w.in_ok-copy.ensures.agents ∙ w.deref.ensures.value)) (sym w.in_ok-copy.ensures.least) w.in_ok-put.ensures)
      | else-surplus-gt0 w ↦ subst (λ (v : Vec GroupBound Global). Follow c.args.groups.now v.items) (sym w.kept-is) c.loop-place.invariant
    ]
