use Rattle.std.proofs.Common.{◌≡◌, ℕ, ◌<◌, List, get_or, length, MatchOption, subst, sym, ap, ◌∙◌, ⊎_elim, arith}
use Rattle.std.specs.Prelude.{⊤}
use Rattle.std.proofs.lemmas.Bool.{cases_lt}
use Rattle.std.proofs.lemmas.List.{get_or_default}
use Rattle.mapf_plan.specs.declared.pair_conflicts.PairConflict.{PairConflict}
use Rattle.mapf_plan.specs.FirstConflict.{IsConflictAt, IsEarlier}
use Rattle.mapf_plan.proofs.collisions.OfPairConflicts.{first_of_known}
use Rattle.mapf_plan.proofs.pair_conflicts.first_at_pair_conflicts.Goals.{then-conflict-time, else-conflict-time}
use Rattle.mapf_plan.proofs.pair_conflicts.first_at_pair_conflicts.Goals as goal

-- a pair conflict at that index is the loop's
same_pair_conflict : (ms : List PairConflict) (k i : ℕ) (m none : PairConflict) → k ≡ i → i < length ms → get_or ms k m ≡ m → m ≡ get_or ms i none
same_pair_conflict ms k i m none e lt is = sym is ∙ ap (λ k. get_or ms k m) e ∙ get_or_default ms i m none lt

pub loop-conflict-preserved : goal.loop-conflict-preserved
loop-conflict-preserved g c =
    let rule = c.args.rule in let plan = g.P.AgentPaths.paths c.args.plan.now in let t = c.args.time in let ms = c.args.conflicts.now in let i = c.loop-conflict.conflict-index in
    let none : PairConflict = record { first = 0; second = 0; time = 0 } in
    elim c.if-conflict-time.branch [
      | then-conflict-time w ↦ (
        subst (λ known. MatchOption known ⊤ (IsConflictAt rule plan t)) (sym w.known-is) w.earlier_of_two-known.ensures.conflict,
        λ m k l here at d is of_first of_second before.
            let sooner = subst (λ known. IsEarlier d known) w.known-is before in
            ⊎_elim (λ h. c.loop-conflict.invariant.1 m k h here at d is of_first of_second (w.earlier_of_two-known.ensures.keeps d sooner))
            (λ h.
            let e : m ≡ get_or ms i none = same_pair_conflict ms k i m none (omega (arith, l, h)) c.loop-conflict-test.true here in
            w.earlier_of_two-known.ensures.first d is (of_first ∙ ap (λ m. m.first) e ∙ sym w.from-first.ensures) (of_second ∙ ap (λ m. m.second) e ∙ sym w.from-second.ensures) sooner)
            (cases_lt k i),
      )
      | else-conflict-time w ↦ (
        subst (λ known. MatchOption known ⊤ (IsConflictAt rule plan t)) (sym w.known-is) c.loop-conflict.invariant.0,
        λ m k l here at d is of_first of_second before.
            ⊎_elim (λ h. c.loop-conflict.invariant.1 m k h here at d is of_first of_second (subst (λ known. IsEarlier d known) w.known-is before))
            (λ h.
            let e : m ≡ get_or ms i none = same_pair_conflict ms k i m none (omega (arith, l, h)) c.loop-conflict-test.true here in
            w.if-conflict-time.false (sym (ap (λ m. m.time) e) ∙ at))
            (cases_lt k i),
      )
    ]

pub returns : goal.returns
returns g c =
    let rule = c.args.rule in let plan = g.P.AgentPaths.paths c.args.plan.now in
    first_of_known rule plan c.args.time c.loop-conflict.known c.requires.before c.loop-conflict.invariant.0
    (λ d is.
    let w = c.requires.conflicts d is.0 in
    let inside : w.1.0 < c.loop-conflict.conflict-index = omega (arith, w.1.1, c.loop-conflict-test.false, c.loop-conflict.auto.conflict-index-end) in
    let at : w.0.time ≡ c.args.time = omega (arith, w.2.2, is.1, c.requires.least w.0 w.1) in
    c.loop-conflict.invariant.1 w.0 w.1.0 inside w.1.2 at d is (sym w.2.0) (sym w.2.1))
