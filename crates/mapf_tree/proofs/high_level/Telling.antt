-- What a search has told goes on with its steps.
use Rattle.std.proofs.Common.{ℕ, List, [], ◌∷◌, refl}
use Rattle.mapf_plan.specs.declared.answer.Answer.{Answer}
use Rattle.mapf_tree.specs.Told.{Standing, Hears, IsAccount, IsEndOf, IsWatched, one_more, begins, goes, tells, expands}

-- so many nodes were expanded so far, and the watch was told of them
pub record IsTelling {W S : Type 0} (told : W → ℕ → ℕ → W → Type 0) (Begins : ℕ → S → Type 0) (Goes Expands : S → S → Type 0) (Least : S → ℕ → Type 0) (n : ℕ) (old new : W) (waiting : S) : Type 0 where
  pub heard : List Standing
  pub account : IsAccount Begins Goes Expands Least n heard waiting
  pub hears : Hears told old heard new

module _ {W S : Type 0} (told : W → ℕ → ℕ → W → Type 0) (Begins : ℕ → S → Type 0) (Goes Expands : S → S → Type 0) (Least : S → ℕ → Type 0) where
  pub telling_begins : (n : ℕ) (w : W) (waiting : S) → Begins n waiting → IsTelling told Begins Goes Expands Least n w w waiting
  telling_begins n w waiting begun = record { heard = []; account = begins begun; hears = refl }

  pub telling_goes : (n : ℕ) (old new : W) (waiting next : S) → IsTelling told Begins Goes Expands Least n old new waiting → Goes waiting next → IsTelling told Begins Goes Expands Least n old new next
  telling_goes n old new waiting next t step = record { heard = t.heard; account = goes t.account step; hears = t.hears }

  module _ (n least : ℕ) (old between new : W) (waiting : S) (t : IsTelling told Begins Goes Expands Least n old between waiting) (is : Least waiting least) (tell : told between n least new) where
    pub telling_ends : (given : Answer) → IsEndOf (record { nodes = n; least = least }) given → IsWatched told Begins Goes Expands Least old new given
    telling_ends given end = record {
      last = record { nodes = n; least = least };
      earlier = t.heard;
      waiting = waiting;
      account = tells t.account is;
      hears = (between, t.hears, tell);
      ends = end;
    }

    pub telling_expands : (next : S) → Expands waiting next → IsTelling told Begins Goes Expands Least (one_more n) old new next
    telling_expands next step = record {
      heard = record { nodes = n; least = least } ∷ t.heard;
      account = expands (tells t.account is) refl step;
      hears = (between, t.hears, tell);
    }
