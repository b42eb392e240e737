-- What a search by bounds has told goes on with its turns.
use Rattle.std.proofs.Common.{◌≡◌, ℕ, List, [], Option, Some, None, Result, Ok, Err, IfOk, subst, sym, refl}
use Rattle.mapf_grid.specs.declared.fault.NoMemory.{NoMemory}
use Rattle.mapf_grid.proofs.Members.{nowhere}
use Rattle.mapf_plan.specs.declared.answer.Answer.{Answer}
use Rattle.mapf_tree.specs.declared.tree.key.Key.{Key}
use Rattle.mapf_tree.specs.Answered.{IsStated}
use Rattle.mapf_tree.specs.LowerBound.{IsBelowAll, least_stated}
use Rattle.mapf_tree.specs.Problem.{Problem}
use Rattle.mapf_tree.specs.Search.{CountsTaken}
use Rattle.mapf_tree.specs.Told.{IsEndOf, one_more}
use Rattle.mapf_tree.specs.Tree.{IsAnswer}
use Rattle.mapf_tree.proofs.high_level.Telling.{IsTelling, telling_begins, telling_ends, telling_expands, telling_goes}
use Rattle.mapf_bounds.specs.Bounds.{Bounding}
use Rattle.mapf_bounds.specs.Told.{Begins, IsWatched}
use Rattle.mapf_bounds.specs.Waiting.{Branches, GoesOn, IsCovering, WaitingNode}

-- an answer's lower bound is what was told last
pub stated_ends : (problem : Problem) (given : Answer) (n : ℕ) → IsStated problem given → IsEndOf (record { nodes = n; least = least_stated given }) given
stated_ends problem given n (Some plan, is, e) = subst (λ a. IsEndOf (record { nodes = n; least = least_stated a }) a) (sym e) refl
stated_ends problem given n (None, is, e) = subst (λ a. IsEndOf (record { nodes = n; least = least_stated a }) a) (sym e) refl

-- where there is no solution, nothing has to wait
covering_nothing : (problem : Problem) → IsAnswer problem None → IsCovering problem 0 []
covering_nothing problem none = record {
  keyed = record { stand = λ e c. absurd (nowhere c); keys = λ e c. absurd (nowhere c); groups = λ e c. absurd (nowhere c) };
  covers = λ s solution within. absurd (none s solution);
}

module _ {W : Type 0} (told : W → ℕ → ℕ → W → Type 0) where
  -- so many nodes were expanded so far, of which so many by keys, and the watch was told of the others
  abbrev pub IsTellingBy : Bounding → (taken n : ℕ) → (old new : W) → List (Key × WaitingNode) → Type 0
  IsTellingBy b taken = IsTelling told (Begins b.problem b.most taken) (GoesOn b.problem b.most) (Branches b.problem b.most) (λ waiting. IsBelowAll b.problem)

  -- the end of a search by keys without a solution
  pub watched_empty : (problem : Problem) (taken least : ℕ) (old new : W) (given : Answer) → IsAnswer problem None → IsBelowAll problem least → told old taken least new → IsEndOf (record { nodes = taken; least = least }) given →
      IsWatched told problem taken old new given
  watched_empty problem taken least old new given none below tell end = (
    0,
    telling_ends told (Begins problem 0 taken) (GoesOn problem 0) (Branches problem 0) (λ waiting. IsBelowAll problem) taken least old old new []
        (telling_begins told (Begins problem 0 taken) (GoesOn problem 0) (Branches problem 0) (λ waiting. IsBelowAll problem) taken old [] (refl, covering_nothing problem none)) below tell given end,
  )

  -- what a search by bounds tells, behind one that took so many nodes
  pub watched_behind : (p q : Problem) (last : Option (List ℕ)) (taken n : ℕ) (old new : W) (r : Result Answer NoMemory) → p ≡ q → taken ≡ n → CountsTaken q last taken → IfOk r (IsWatched told p taken old new) →
      IfOk r (λ given. CountsTaken q last n × IsWatched told q n old new given)
  watched_behind p q last taken n old new (Ok given) same is took w =
      (subst (CountsTaken q last) is took, subst (λ k. IsWatched told q k old new given) is (subst (λ x. IsWatched told x taken old new given) same w))
  watched_behind p q last taken n old new (Err e) same is took w = tt

  module _ (b : Bounding) (taken : ℕ) where
    pub by_begins : (w : W) (waiting : List (Key × WaitingNode)) → IsCovering b.problem b.most waiting → IsTellingBy b taken taken w w waiting
    by_begins w waiting covering = telling_begins told (Begins b.problem b.most taken) (GoesOn b.problem b.most) (Branches b.problem b.most) (λ waiting. IsBelowAll b.problem) taken w waiting (refl, covering)

    pub by_goes : (n : ℕ) (old new : W) (waiting next : List (Key × WaitingNode)) → IsTellingBy b taken n old new waiting → GoesOn b.problem b.most waiting next → IsTellingBy b taken n old new next
    by_goes = telling_goes told (Begins b.problem b.most taken) (GoesOn b.problem b.most) (Branches b.problem b.most) (λ waiting. IsBelowAll b.problem)

    pub by_expands : (n least : ℕ) (old between new : W) (waiting : List (Key × WaitingNode)) → IsTellingBy b taken n old between waiting → IsBelowAll b.problem least → told between n least new →
        (next : List (Key × WaitingNode)) → Branches b.problem b.most waiting next → IsTellingBy b taken (one_more n) old new next
    by_expands = telling_expands told (Begins b.problem b.most taken) (GoesOn b.problem b.most) (Branches b.problem b.most) (λ waiting. IsBelowAll b.problem)

    pub by_ends : (n least : ℕ) (old between new : W) (waiting : List (Key × WaitingNode)) → IsTellingBy b taken n old between waiting → IsBelowAll b.problem least → told between n least new →
        (given : Answer) → IsEndOf (record { nodes = n; least = least }) given → IsWatched told b.problem taken old new given
    by_ends n least old between new waiting t below tell given end =
        (b.most, telling_ends told (Begins b.problem b.most taken) (GoesOn b.problem b.most) (Branches b.problem b.most) (λ waiting. IsBelowAll b.problem) n least old between new waiting t below tell given end)
