use Rattle.std.proofs.Common.{refl, map, min, max, List, [], ◌∷◌, ◌++◌, ap, sym, subst, ◌≡◌, ◌∙◌, ⊎_elim, arith}
use Rattle.std.specs.Prelude.{slice_index}
use Rattle.std.specs.Arc.{arc_value}
use Rattle.std.proofs.lemmas.Bool.{cases_lt}
use Rattle.std.proofs.lemmas.List.Elements.{Contains-push, Contains-append_left}
use Rattle.mapf_plan.specs.PairConflicts.{HasAllOf}
use Rattle.mapf_plan.specs.declared.pair_conflicts.PairConflict.{PairConflict}
use Rattle.mapf_plan.proofs.collisions.OfPairConflicts.{meet_added, meet_never}
use Rattle.mapf_plan.specs.KnownPaths.{KnownPaths, AreMet, time_in}
use Rattle.mapf_plan.proofs.cache.PathTimes.{met_in_more, met_known, right_at}
use Rattle.mapf_plan.proofs.cache.known_paths.KnownPaths.add_pair_conflicts.Goals as goal
use Rattle.mapf_plan.proofs.cache.known_paths.KnownPaths.add_pair_conflicts.Goals.{in-Some+in_ok-push, in_default}

pub loop-other-init : goal.loop-other-init
loop-other-init c =
    let agent = c.args.agent in let number = c.args.number in let numbers = c.args.numbers.now in let ms = c.add_known.new.conflicts.items in let row = c.row-row.result.now in
    let known : KnownPaths = record { rule = c.self.inside.rule; paths = map arc_value c.self.inside.paths.items } in (
      refl,
      c.in_ok-known.ensures.keeps,
      λ k f l n.
          subst (λ (s : KnownPaths). AreMet s agent number k (slice_index numbers k) ms) c.self.view_is
          (met_known known agent number k (slice_index numbers k) (time_in row (slice_index numbers k)) ms
          (right_at known.rule known.paths c.self.inside.times row number (slice_index numbers k) _ c.self.invariant c.row-row.ensures refl) (c.in_ok-known.ensures.added k f l n)),
    )

pub loop-other-preserved : goal.loop-other-preserved
loop-other-preserved c =
    let self = c.args.self.now in let agent = c.args.agent in let number = c.args.number in let numbers = c.args.numbers.now in
    let other = c.loop-other.other in let old = c.loop-other.conflicts.items in let ms = c.match-first_time.conflicts.items in
    let rule = c.loop-other.self.rule in
    let Added : List PairConflict → Type 0 = λ ms. HasAllOf ms old × AreMet c.loop-other.self agent number other (slice_index numbers other) ms in
    let added : Added ms = elim c.match-first_time.branch [
      | in-Some+in_ok-push w ↦
          let m : PairConflict = record { first = min agent other; second = max agent other; time = w.in-Some.time } in
          let is : ms ≡ old ++ m ∷ [] = ap (λ v. v.items) w.conflicts-is ∙ w.in_ok-push.ensures.items ∙ ap (λ x. old ++ x ∷ []) w.pair_conflict_of.ensures in
          subst Added (sym is) (
            (λ x h. Contains-append_left old (m ∷ []) x h),
            λ plan is_p is_q.
                meet_added rule plan agent other _ _ (old ++ m ∷ []) w.in-Some.time (Contains-push old m) is_p is_q w.in-Some.ensures.time,
          )
      | in_default w ↦
          subst Added (sym (ap (λ v. v.items) w.conflicts-is)) ((λ x h. h), λ plan is_p is_q. meet_never rule plan agent other _ _ old is_p is_q w.in_default.ensures.time)
    ] in (
      c.first_time.ensures.known ∙ c.loop-other.invariant.0,
      (λ m h. added.0 m (c.loop-other.invariant.1 m h)),
      λ k f l n.
          ⊎_elim (λ h. met_in_more self agent number k (slice_index numbers k) old ms added.0 (c.loop-other.invariant.2 k f h n))
          (λ h.
          let e : other ≡ k = omega (arith, l, h) in
          subst (λ k. AreMet self agent number k (slice_index numbers k) ms) e
          (subst (λ (s : KnownPaths). AreMet s agent number other (slice_index numbers other) ms) c.loop-other.invariant.0 added.1))
          (cases_lt k other),
    )
