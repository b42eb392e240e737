use Rattle.std.proofs.Common.{◌≡◌, ◌∙◌, List, ℕ, sym, ap, ap₂, subst, subst₂, map, set}
use Rattle.std.specs.Prelude.{MatchOption}
use Rattle.std.specs.Arc.{arc_value}
use Rattle.mapf_plan.specs.Plan.{path_of, IsConflict, IsFirstConflict, HasNoConflict}
use Rattle.mapf_plan.specs.PairConflicts.{HavePairConflicts}
use Rattle.mapf_plan.specs.KnownPaths.{KnownPaths, plan_of}
use Rattle.mapf_plan.proofs.cache.known_paths.KnownPaths.first_conflict_of_changed.Goals as goal

pub first_conflict_of_pair_conflicts-found-requires : goal.first_conflict_of_pair_conflicts-found-requires
first_conflict_of_pair_conflicts-found-requires c =
    let changed : List (List ℕ) → List ℕ → List (List ℕ) = λ paths numbers. set (plan_of paths numbers) c.args.changed (path_of paths c.args.number) in
    let same = c.self.view_is ∙ c.in_ok-conflicts.ensures.known in let numbers = c.args.plan.now.numbers.items in
    let is : changed c.args.self.now.paths numbers ≡ changed (map arc_value c.deref.result.now) c.deref-2.result.now =
    ap (λ (s : KnownPaths). changed s.paths numbers) (sym same) ∙ sym (ap₂ (λ xs ns. changed (map arc_value xs) ns) c.deref.ensures.value c.deref-2.ensures.value) in
    subst (HavePairConflicts (IsConflict c.self.inside.rule (changed (map arc_value c.deref.result.now) c.deref-2.result.now))) (sym c.deref-3.ensures.value)
    (subst₂ (λ rule plan. HavePairConflicts (IsConflict rule plan) c.in_ok-conflicts.conflicts.items) (ap (λ (s : KnownPaths). s.rule) (sym same)) is c.in_ok-conflicts.ensures.conflicts)

pub returns-clause-conflict : goal.returns-clause-conflict
returns-clause-conflict c =
    let changed : List (List ℕ) → List ℕ → List (List ℕ) = λ paths numbers. set (plan_of paths numbers) c.args.changed (path_of paths c.args.number) in
    let same = c.self.view_is ∙ c.in_ok-conflicts.ensures.known in let numbers = c.args.plan.now.numbers.items in
    let is : changed (map arc_value c.deref.result.now) c.deref-2.result.now ≡ changed c.args.self.now.paths numbers =
    ap₂ (λ xs ns. changed (map arc_value xs) ns) c.deref.ensures.value c.deref-2.ensures.value ∙ ap (λ (s : KnownPaths). changed s.paths numbers) same in
    subst₂ (λ rule plan. MatchOption c.first_conflict_of_pair_conflicts-found.result (HasNoConflict rule plan) (IsFirstConflict rule plan)) (ap (λ (s : KnownPaths). s.rule) same) is c.first_conflict_of_pair_conflicts-found.ensures
