-- A search for any optimum tells how many nodes it expanded, no more than its limit.
use Rattle.std.proofs.Common.{◌≡◌, ℕ, ◌≤◌, ⊎_elim, List, Option, Some, refl, subst, arith}
use Rattle.std.proofs.lemmas.Bool.{cases_lt}
use Rattle.mapf_plan.specs.declared.answer.Answer.{Answer}
use Rattle.mapf_tree.specs.Problem.{Problem}
use Rattle.mapf_tree.specs.Told.{IsEndOf, one_more, tells}
use Rattle.mapf_tree.proofs.high_level.Telling as tree
use Rattle.mapf_optimum.specs.FreeTree.{FreeNode}
use Rattle.mapf_optimum.specs.FreeSearch.{Bounds, Expands}
use Rattle.mapf_optimum.specs.Told.{Begins, IsBegun, IsLeastLabel, IsWatched}

module _ {W : Type 0} (told : W → ℕ → ℕ → W → Type 0) (problem : Problem) (limit : Option ℕ) where
  -- so many nodes were expanded so far, no more than the limit, and the watch was told of them
  pub record IsTelling (n : ℕ) (old new : W) (waiting : List FreeNode) : Type 0 where
    pub tells : tree.IsTelling told (Begins problem) (Bounds problem) (Expands problem) (IsLeastLabel problem) n old new waiting
    pub within : (most : ℕ) → limit ≡ Some most → n ≤ most

  pub telling_begins : (w : W) (waiting : List FreeNode) → IsBegun problem waiting → IsTelling 0 w w waiting
  telling_begins w waiting begun = record { tells = tree.telling_begins told (Begins problem) (Bounds problem) (Expands problem) (IsLeastLabel problem) 0 w waiting (refl, begun); within = λ most e. omega arith }

  pub telling_goes : (n : ℕ) (old new : W) (waiting next : List FreeNode) → IsTelling n old new waiting → Bounds problem waiting next → IsTelling n old new next
  telling_goes n old new waiting next t step = record { tells = tree.telling_goes told (Begins problem) (Bounds problem) (Expands problem) (IsLeastLabel problem) n old new waiting next t.tells step; within = t.within }

  module _ (n least : ℕ) (old between new : W) (waiting : List FreeNode) (t : IsTelling n old between waiting) (is : IsLeastLabel problem waiting least) (tell : told between n least new) where
    pub telling_ends : (given : Answer) → IsEndOf (record { nodes = n; least = least }) given → IsWatched told problem limit old new given
    telling_ends given end = record {
      tells = record {
        last = record { nodes = n; least = least };
        earlier = t.tells.heard;
        waiting = waiting;
        account = tells t.tells.account is;
        hears = (between, t.tells.hears, tell);
        ends = end;
      };
      within = t.within;
    }

    pub telling_expands : (next : List FreeNode) → Expands problem waiting next → ¬ (limit ≡ Some n) → IsTelling (one_more n) old new next
    telling_expands next step below = record {
      tells = tree.telling_expands told (Begins problem) (Bounds problem) (Expands problem) (IsLeastLabel problem) n least old between new waiting t.tells is tell next step;
      within = λ most e. ⊎_elim (λ lt. omega (arith, lt)) (λ ge. absurd (below (subst (λ k. limit ≡ Some k) (omega (arith, ge, t.within most e)) e))) (cases_lt n most);
    }
