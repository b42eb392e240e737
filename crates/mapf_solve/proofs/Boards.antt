-- The current jobs of a board's slots, each for a child of a node of one problem's tree.
use Rattle.std.proofs.Common.{◌≡◌, ◌∙◌, ℕ, zero, suc, true, List, [], ◌∷◌, Option, Some, None, Result, Ok, Err, OnOk, IfOk, IfErr, ap, is_ok, map, replicate, slice_index_or, slice_set, sym, subst}
use Rattle.std.proofs.lemmas.List.{map-set}
use Rattle.std.proofs.lemmas.Option.{same_Some}
use Rattle.mapf_board.specs.Views.{Seen, posting, noting}
use Rattle.mapf_board.specs.declared.live.found.Found.{Found}
use Rattle.mapf_tree.specs.Problem.{Problem}
use Rattle.mapf_tree.specs.Nodes.{Node}
use Rattle.mapf_solve.specs.Rounds.{WantedChild}
use Rattle.mapf_solve.specs.Sessions.{AreSidesOf}

-- where there is nothing there is no job
pub none_there : {J X : Type 0} (size slot : ℕ) (job : J) → slice_index_or (replicate size None) slot None ≡ Some job → X
none_there zero slot job e = cc
none_there (suc size) zero job e = cc
none_there (suc size) (suc slot) job e = none_there size slot job e

-- where one slot changes, the others have the jobs that they had
pub with_slot : (p : Problem) (current : List (Option WantedChild)) (k : ℕ) (now : Option WantedChild) → AreSidesOf p current → ((job : WantedChild) → now ≡ Some job → job.query.problem ≡ p) → AreSidesOf p (slice_set current k now)
with_slot p [] k now all is slot job at = all slot job at
with_slot p (c ∷ rest) zero now all is zero job at = is job at
with_slot p (c ∷ rest) zero now all is (suc slot) job at = all (suc slot) job at
with_slot p (c ∷ rest) (suc k) now all is zero job at = all zero job at
with_slot p (c ∷ rest) (suc k) now all is (suc slot) job at = with_slot p rest k now (λ s. all (suc s)) is slot job at

-- a job of the problem may have been posted
pub posted_sides : (p : Problem) (r : Result (Unit {0}) (WantedChild × Found)) (old new : Seen WantedChild (Option Node)) (slot : ℕ) (job : WantedChild) → OnOk r (new ≡ posting old slot job) → IfErr r (λ e. new ≡ noting old slot e.1) → job.query.problem ≡ p → AreSidesOf p old.current → AreSidesOf p new.current
posted_sides p (Ok done) old new slot job posted found of all =
    subst (λ v. AreSidesOf p v.current) (sym posted) (with_slot p old.current slot (Some job) all (λ other e. subst (λ j. j.query.problem ≡ p) (same_Some job other e) of))
posted_sides p (Err e) old new slot job posted found of all = subst (λ v. AreSidesOf p v.current) (sym found) all

-- a slot may have no job any more
pub freed_sides : {X : Type 0} (p : Problem) (r : Result X Found) (old new : Seen WantedChild (Option Node)) (slot : ℕ) (freeing : X → Seen WantedChild (Option Node)) → ((x : X) → (freeing x).current ≡ slice_set old.current slot None) → IfOk r (λ x. new ≡ freeing x) → IfErr r (λ found. new ≡ noting old slot found) → AreSidesOf p old.current → AreSidesOf p new.current
freed_sides p (Ok x) old new slot freeing frees freed found all =
    subst (λ v. AreSidesOf p v.current) (sym freed) (subst (AreSidesOf p) (sym (frees x)) (with_slot p old.current slot None all (λ job e. cc)))
freed_sides p (Err e) old new slot freeing frees freed found all = subst (λ v. AreSidesOf p v.current) (sym found) all

-- where one slot changes, so does what is noted of it, and of the others it stays
pub with_note : {J N : Type 0} (of : Option J → N) (notes : List N) (old new : List (Option J)) (k : ℕ) (now : Option J) → notes ≡ map of old → new ≡ slice_set old k now → slice_set notes k (of now) ≡ map of new
with_note of notes old new k now are becomes = ap (λ n. slice_set n k (of now)) are ∙ sym (map-set of old k now) ∙ ap (map of) (sym becomes)

-- a job that was posted is the slot's current one
pub posted_current : (r : Result (Unit {0}) (WantedChild × Found)) (old new : Seen WantedChild (Option Node)) (slot : ℕ) (job : WantedChild) → is_ok r ≡ true → OnOk r (new ≡ posting old slot job) → new.current ≡ slice_set old.current slot (Some job)
posted_current (Ok done) old new slot job ok posted = ap (λ v. v.current) posted
posted_current (Err e) old new slot job ok posted = cc
