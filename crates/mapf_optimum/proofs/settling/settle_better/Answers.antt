use Rattle.std.proofs.Common.{List, ℕ, Vec, Global, subst, sym}
use Rattle.mapf_optimum.specs.FreeTree.{HaveAllowedPaths}
use Rattle.mapf_optimum.specs.Groups.{alone}
use Rattle.mapf_optimum.proofs.settling.settle_better.Goals as goal
use Rattle.mapf_optimum.proofs.settling.settle_better.Goals.{in-Some+in_ok-add_conflicts+then-are_better+then-accept, in-Some+in_ok-add_conflicts+else-are_better, else-are_better-via-then-are_better+else-accept, else-are_better-via-else-are_better, in_default}

pub returns : goal.returns
returns c =
    let there = λ (v : Vec (List ℕ) Global). HaveAllowedPaths (alone c.args.part.now) c.args.sets.now v.items in
    elim c.match-branch-3.branch [
      | in-Some+in_ok-add_conflicts+then-are_better+then-accept w ↦ subst there (sym w.paths-is) w.accept.ensures
      | in-Some+in_ok-add_conflicts+else-are_better w ↦
          subst there (sym w.paths-is) (elim w.else-are_better.branch [
            | else-are_better-via-then-are_better+else-accept w' ↦ subst there (sym w'.paths-is) w'.accept.ensures
            | else-are_better-via-else-are_better w' ↦ subst there (sym w'.paths-is) c.requires.paths
          ])
      | in_default w ↦ subst there (sym w.paths-is) c.requires.paths
    ]
