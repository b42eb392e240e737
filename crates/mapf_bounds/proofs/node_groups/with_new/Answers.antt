use Rattle.std.proofs.Common.{List, Vec, Contains, refl, subst, sym, ap, ◌∙◌}
use Rattle.std.specs.declared.alloc.Global.{Global}
use Rattle.mapf_grid.proofs.Members.{here, there}
use Rattle.mapf_optimum.specs.declared.group_bound.GroupBound.{GroupBound}
use Rattle.mapf_optimum.specs.FreeTree.{AreGroupBounds}
use Rattle.mapf_bounds.proofs.Groups.{with_one}
use Rattle.mapf_bounds.proofs.node_groups.with_new.Goals as goal

pub returns-then-is_empty : goal.returns-then-is_empty
returns-then-is_empty c problem sets known new g has =
    known g (subst (λ (v : Vec GroupBound Global). Contains v.items g) c.in_ok-try_clone.ensures has)

pub loop-group-init : goal.loop-group-init
loop-group-init c = record {
  among = λ g has. subst (λ (l : List GroupBound). Contains l g) c.into_iter-group-iterator.ensures.into_iter_gives.0 has;
  both = λ problem sets known new.
      c.in_ok-all.ensures problem sets
      (subst (AreGroupBounds problem sets) (sym (c.deref-2.ensures.value ∙ ap (λ (v : Vec GroupBound Global). v.items) c.deref.ensures)) known);
}

pub loop-group-preserved : goal.loop-group-preserved
loop-group-preserved c =
    let rest = c.in-Some.ensures.steps.0 in
    let inv = c.loop-group.invariant in record {
      among = λ g has. inv.among g (subst (λ (l : List GroupBound). Contains l g) (sym rest) (there _ has));
      both = λ problem sets known new.
          c.in_ok-put.ensures problem sets
          (with_one problem sets c.loop-group.all.items c.in-Some.group (new c.in-Some.group (inv.among c.in-Some.group (subst (λ (l : List GroupBound). Contains l c.in-Some.group) (sym rest) (here _ refl))))
          (inv.both problem sets known new));
    }

pub returns : goal.returns
returns c problem sets known new g has =
    subst (λ (v : Vec GroupBound Global). AreGroupBounds problem sets v.items) (sym c.in_ok-new.ensures.ok) (c.loop-group.invariant.both problem sets known new) g has
