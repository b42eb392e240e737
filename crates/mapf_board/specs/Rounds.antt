-- What a clause says of a round's jobs and of the places for their answers.
use Rattle.std.specs.Prelude.{◌≡◌, ℕ, List, slice_get, Option, Some, IfSome}
use Rattle.std.specs.List.{AllZip}

module _ {J A : Type 0} where
  -- a place for each job: it is empty, or it holds the job with an answer
  abbrev pub ArePlacesOf : List J → List (Option (J × A)) → Type 0
  ArePlacesOf jobs places = AllZip (λ job place. IfSome place (λ pair. pair.0 ≡ job)) jobs places

  -- the pair has the job of this number
  abbrev pub IsNumbered : List J → ℕ × (J × A) → Type 0
  IsNumbered jobs n = slice_get jobs n.0 ≡ Some n.1.0
