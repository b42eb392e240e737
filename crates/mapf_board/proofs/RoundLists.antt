-- Lists that a round makes of its workers' lists, and places beside orders.
use Rattle.std.proofs.Common.{◌≡◌, ◌⊎◌, inl, inr, ◌<◌, ℕ, zero, suc, Bool, true, false, List, [], ◌∷◌, ◌++◌, All, Contains, Option, Some, None, IfSome, length, map, set, refl, sym, ap, ◌∙◌, subst, arith, if◌then◌else◌, get_or}
use Rattle.std.specs.List.{AllZip}
use Rattle.std.specs.Prelude.{slice_get}
use Rattle.std.proofs.lemmas.List.{get_or-map, length-map}
use Rattle.std.proofs.lemmas.Option.{IfSome_then, none-some, same_Some, slice_get-get_or}
use Rattle.std.proofs.lemmas.List.Elements.{All-contains}
use mathlib.Core.List.{append_assoc, append-nil}
use Rattle.mapf_board.specs.Rounds.{ArePlacesOf, IsNumbered}
use Rattle.mapf_board.proofs.Sums.{All_more, All_first, All_rest}

-- what holds of each item of a list, and of one that may be added
pub All_if_more : {A : Type 0} (P : A → Type 0) (b : Bool) (old new : List A) (x : A) → new ≡ if b then old ++ x ∷ [] else old → All P old → P x → All P new
All_if_more P true old new x e all one = All_more P old new x e all one
All_if_more P false old new x e all one = subst (λ (l : List _). All P l) (sym e) all

-- what is made of an item that was read at a place of a list stands there among those that are made of the list's
pub made_at : {A B : Type 0} (f : A → B) (l : List A) (n : ℕ) (x : A) (y : B) → n < length l → y ≡ f (get_or l n x) → slice_get (map f l) n ≡ Some y
made_at f l n x y low same =
    slice_get-get_or (map f l) n y (subst (λ k. n < k) (sym (length-map l f)) low) ∙ ap Some (get_or-map f l n x y low ∙ sym same)

module _ {J A : Type 0} where
  -- places that are all empty may stand beside the jobs of any orders
  pub all_empty : {O : Type 0} (f : O → J) (orders : List O) (places : List (Option (J × A))) → length places ≡ length orders → All (λ place. place ≡ None) places → ArePlacesOf (map f orders) places
  all_empty f [] [] each empty = tt
  all_empty f [] (p ∷ places) each empty = absurd (omega (arith, each))
  all_empty f (o ∷ orders) [] each empty = absurd (omega (arith, each))
  all_empty f (o ∷ orders) (p ∷ places) each empty = (
    subst (λ place. IfSome place (λ pair. pair.0 ≡ f o)) (sym (All_first (λ place. place ≡ None) (p ∷ places) places p refl empty)) tt,
    all_empty f orders places (omega (arith, each)) (All_rest (λ place. place ≡ None) (p ∷ places) places p refl empty),
  )

  -- a pair put in the place of its number
  pub put_at : (jobs : List J) (places : List (Option (J × A))) (n : ℕ) (pair : J × A) → IsNumbered jobs (n, pair) → ArePlacesOf jobs places → ArePlacesOf jobs (set places n (Some pair))
  put_at [] places n pair at all = absurd (none-some pair.0 at)
  put_at (j ∷ jobs) [] n pair at all = absurd all
  put_at (j ∷ jobs) (p ∷ places) zero pair at all = (sym (same_Some j pair.0 at), all.1)
  put_at (j ∷ jobs) (p ∷ places) (suc n) pair at all = (all.0, put_at jobs places n pair at all.1)

  -- the first job has the first place, and the others have the others
  pub next_place : (left fewer : List J) (places others : List (Option (J × A))) (job : J) (place : Option (J × A)) → left ≡ job ∷ fewer → places ≡ place ∷ others → ArePlacesOf left places
      → IfSome place (λ pair. pair.0 ≡ job) × ArePlacesOf fewer others
  next_place left fewer places others job place e f all = subst (λ l. ArePlacesOf l (place ∷ others)) e (subst (ArePlacesOf left) f all)

  -- where no place is left no job is, and the other way round
  pub none_left : (jobs : List J) (places : List (Option (J × A))) → ArePlacesOf jobs places → (jobs ≡ []) ⊎ (places ≡ []) → jobs ≡ []
  none_left jobs places all (inl none) = none
  none_left [] places all (inr none) = refl
  none_left (j ∷ jobs) places all (inr none) = absurd (subst (ArePlacesOf (j ∷ jobs)) none all)

  -- the pair in a place has the job of that place
  of_place : (jobs : List J) (places : List (Option (J × A))) (k : ℕ) (d : Option (J × A)) → ArePlacesOf jobs places → k < length places → IfSome (get_or places k d) (λ pair. Contains jobs pair.0)
  of_place [] [] k d all low = absurd (omega (arith, low))
  of_place [] (p ∷ places) k d all low = absurd all
  of_place (j ∷ jobs) [] k d all low = absurd all
  of_place (j ∷ jobs) (p ∷ places) zero d all low = IfSome_then p all.0 (λ pair is. (0, omega arith, sym is))
  of_place (j ∷ jobs) (p ∷ places) (suc k) d all low = IfSome_then (get_or places k d) (of_place jobs places k d all.1 (omega (arith, low))) (λ pair at. (suc at.0, omega (arith, at.1), at.2))

  -- so pairs that the places hold are of the jobs
  pub of_jobs : (jobs : List J) (places : List (Option (J × A))) (pairs : List (J × A)) → ArePlacesOf jobs places → All (λ pair. Contains places (Some pair)) pairs → All (λ pair. Contains jobs pair.0) pairs
  of_jobs jobs places pairs all held = λ k d low.
      let at = held k d low in
      subst (λ place. IfSome place (λ pair. Contains jobs pair.0)) at.2 (of_place jobs places at.0 (Some (get_or pairs k d)) all at.1)

  -- what holds of each job holds of the job of each pair that was made for one of them
  pub All_of_jobs : (P : J → Type 0) (jobs : List J) (pairs : List (J × A)) → All P jobs → All (λ pair. Contains jobs pair.0) pairs → All (λ pair. P pair.0) pairs
  All_of_jobs P jobs pairs all each = λ k d low. All-contains P jobs (get_or pairs k d).0 all (each k d low)

module _ {J B : Type 0} (R : J → B → Type 0) where
  -- the answers so far: what answers the jobs that are left answers, after them, all jobs
  abbrev pub AreAnswered : List J → List J → List B → Type 0
  AreAnswered jobs left answers = (more : List B) → AllZip R left more → AllZip R jobs (answers ++ more)

  -- one answer more
  pub answered_more : (jobs left fewer : List J) (old new : List B) (job : J) (answer : B) → left ≡ job ∷ fewer → new ≡ old ++ answer ∷ [] → R job answer → AreAnswered jobs left old → AreAnswered jobs fewer new
  answered_more jobs left fewer old new job answer e is one all more rest =
      subst (λ l. AllZip R jobs l) (sym (append_assoc old (answer ∷ []) more) ∙ ap (λ l. l ++ more) (sym is)) (all (answer ∷ more) (subst (λ l. AllZip R l (answer ∷ more)) (sym e) (one, rest)))

  -- where no job is left, all are answered
  pub answered_all : (jobs left : List J) (answers : List B) → left ≡ [] → AreAnswered jobs left answers → AllZip R jobs answers
  answered_all jobs left answers none all = subst (λ l. AllZip R jobs l) (append-nil answers) (all [] (subst (λ l. AllZip R l []) (sym none) tt))
