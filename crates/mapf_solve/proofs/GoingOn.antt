-- How a search goes on in a session.
use Rattle.std.proofs.Common.{◌≡◌, ℕ, ◌<◌, ◌≤◌, None, Result, Ok, Err, refl, subst}
use Rattle.mapf_grid.specs.declared.fault.NoMemory.{NoMemory}
use Rattle.mapf_tree.specs.declared.search.progress.Progress.{Progress}
use Rattle.mapf_tree.specs.declared.search.progress.Progress.TheVariants.{Working, Finished}
use Rattle.mapf_tree.specs.Problem.{Problem}
use Rattle.mapf_tree.specs.Search.{Searched, TakesBetween}
use Rattle.mapf_tree.proofs.high_level.Remaining.{remaining, remaining_falls}
use Rattle.mapf_solve.specs.Sessions.{HasTaken}

-- as the search tells it
pub went_on : (p q : Problem) (n : ℕ) (from s : Searched) (r : Result Progress NoMemory) → q ≡ p → from.taken ≤ s.taken →
    (r ≡ Ok Working → (s.outcome ≡ Ok None) × TakesBetween q from.last s.last n) → (r ≡ Ok Finished → (m : ℕ) × (m ≤ n) × TakesBetween q from.last s.last m) → HasTaken p n from s r
went_on p q n from s (Ok Working) e more w f = let k = w refl in (k.0, subst (λ x. TakesBetween x from.last s.last n) e k.1, more)
went_on p q n from s (Ok Finished) e more w f = let k = f refl in (k.0, k.1, subst (λ x. TakesBetween x from.last s.last k.0) e k.2, more)
went_on p q n from s (Err refused) e more w f = more

-- while it goes on there is no answer yet
pub still_open : (p : Problem) (n : ℕ) (from s : Searched) (r : Result Progress NoMemory) → HasTaken p n from s r → r ≡ Ok Working → s.outcome ≡ Ok None
still_open p n from s (Ok Working) went on = went.0
still_open p n from s (Ok Finished) went on = cc
still_open p n from s (Err refused) went on = cc

-- the number of taken nodes doesn't fall
pub counts_on : (p : Problem) (n : ℕ) (from s : Searched) (r : Result Progress NoMemory) → HasTaken p n from s r → from.taken ≤ s.taken
counts_on p n from s (Ok Working) went = went.2
counts_on p n from s (Ok Finished) went = went.3
counts_on p n from s (Err refused) went = went

-- and fewer nodes are left
pub falls : (p : Problem) (n : ℕ) (from s : Searched) (r : Result Progress NoMemory) → 1 ≤ n → HasTaken p n from s r → r ≡ Ok Working → remaining p s.last < remaining p from.last
falls p n from s (Ok Working) some went on = remaining_falls p p from.last s.last n refl some went.1
falls p n from s (Ok Finished) some went on = cc
falls p n from s (Err refused) some went on = cc
