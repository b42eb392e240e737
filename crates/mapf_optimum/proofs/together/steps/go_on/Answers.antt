use Rattle.std.proofs.Common.{Contains, length, inl, subst, sym, ⊎_elim, arith}
use Rattle.std.proofs.lemmas.Result.{on_ok_weaker}
use Rattle.mapf_optimum.proofs.AgentPlaces.{both_ok}
use Rattle.mapf_optimum.proofs.JointLists.{grows_both, still_known}
use Rattle.mapf_optimum.proofs.JointSums.{cost_first}
use Rattle.mapf_optimum.proofs.together.steps.go_on.Goals as goal

pub returns-clause-grows : goal.returns-clause-grows
returns-clause-grows c = on_ok_weaker c.add_all.result (λ grows. grows_both c.args.known.now c.add_from.new.known c.add_all.new.known c.in_ok-add_from.ensures.grows grows) c.add_all.ensures.grows

pub returns-clause-next : goal.returns-clause-next
returns-clause-next c =
    both_ok c.add_all.result
    (λ grows has plan time goes.
    let at = c.in_ok-add_from.ensures.adds plan time goes (record {
      there = λ i l. absurd (omega (arith, l));
      numbered = λ i known l is. absurd (omega (arith, l));
      costs = omega (arith, c.cost_of-cost.ensures, cost_first plan (length c.args.places.now) c.args.joint.now);
    }) in
    (at.0, inl (⊎_elim (λ k. still_known c.add_from.new.known c.add_all.new.known at.0 grows k) (λ i. has at.0 (subst (λ l. Contains l at.0) (sym c.deref.ensures.value) i)) at.1), at.2))
    c.add_all.ensures.grows c.add_all.ensures.has
