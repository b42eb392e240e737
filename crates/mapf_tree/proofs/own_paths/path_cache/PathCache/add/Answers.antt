use Rattle.mapf_tree.proofs.Prelude.{◌≡◌, ℕ, List, Option, Some, ◌∙◌, IfSome_then, IfOk-weaker, known_stays}
use Rattle.mapf_tree.specs.Prelude.{slice_get, KnownPaths, Problem, ConstraintSet, Path, IsRemembered, IsTold, TellsUpTo}
use Rattle.mapf_tree.specs.declared.own_paths.path_cache.node_numbers.NodeNumbers.{NodeNumbers}
use Rattle.mapf_tree.proofs.own_paths.PathCaches.{known_kept}
use Rattle.mapf_tree.proofs.own_paths.path_cache.PathCache.add.Goals as goal

-- all that is remembered stays so where each path keeps its number
all_kept : (problem : Problem) (old new : KnownPaths) (sets : List ConstraintSet) (firsts : List ℕ) (latest : Option NodeNumbers) → new.rule ≡ old.rule →
    ((n : ℕ) (p : List ℕ) → slice_get old.paths n ≡ Some p → slice_get new.paths n ≡ Some p) → IsRemembered problem firsts latest sets old → IsRemembered problem firsts latest sets new
all_kept problem old new sets firsts latest same keeps is = (
  known_kept problem old.paths new.paths sets keeps is.0,
  is.1,
  same ∙ is.2,
  IfSome_then latest is.3 (λ at known. known_stays old new at.plan.numbers.items at.plan.conflicts.items same keeps known),
)

pub invariant_of-self-in_err-number-in-Some : goal.invariant_of-self-in_err-number-in-Some
invariant_of-self-in_err-number-in-Some c =
    all_kept c.self.inside.problem.now c.self.inside.paths c.number.new.self c.self.inside.sets c.self.inside.firsts.items c.self.inside.latest c.number.ensures.rule c.number.ensures.keeps c.self.invariant

pub invariant_of-self-in-Some : goal.invariant_of-self-in-Some
invariant_of-self-in-Some c =
    all_kept c.self.inside.problem.now c.self.inside.paths c.number.new.self c.self.inside.sets c.self.inside.firsts.items c.self.inside.latest c.number.ensures.rule c.number.ensures.keeps c.self.invariant

pub returns-in_ok-number-in-Some-clause-told : goal.returns-in_ok-number-in-Some-clause-told
returns-in_ok-number-in-Some-clause-told c =
    let sets = c.push.new.self.sets in
    IfOk-weaker c.push.result (λ set. (bound : ℕ) → IsTold bound (Path c.in_ok-number-in-Some.number c.in_ok-path-in-Some.path) → TellsUpTo sets set bound) (λ set. TellsUpTo sets set c.args.bound) (λ set told. told c.args.bound tt) c.push.ensures.told
