-- Sums over some of a list's elements, each once.
use Rattle.std.proofs.Common.{◌≡◌, ◌≢◌, ℕ, suc, ◌<◌, ◌≤◌, List, [], ◌∷◌, length, get_or, set, get_or-set_other, replicate, sym, refl, ap, arith, length-set}
use Rattle.std.specs.List.{sum_by}
use Rattle.std.proofs.lemmas.List.{get_or-replicate}
use Rattle.std.proofs.lemmas.List.Folds.{sum_by-replicate}
use lib.ListN.{length-replicate}
use Rattle.std.proofs.lemmas.List.Sums.{sum_by-cons, sum_by-set}
use Rattle.mapf_grid.specs.Instance.{IsDistinct}

-- none of the rest is the first
first_once : (i : ℕ) (is : List ℕ) → IsDistinct (i ∷ is) → (k : ℕ) → k < length is → i ≢ get_or is k 0
first_once i is once k h = once 0 (suc k) (omega arith) (omega (arith, h))

-- and the rest has each once
rest_once : (i : ℕ) (is : List ℕ) → IsDistinct (i ∷ is) → IsDistinct is
rest_once i is once a b l h = once (suc a) (suc b) (omega (arith, l)) (omega (arith, h))

module _ {X : Type 0} (f : X → ℕ) (d : X) (nothing : f d ≡ 0) where
  -- the sum at some places
  abbrev pub sum_at : List X → List ℕ → ℕ
  sum_at xs is = sum_by (λ i. f (get_or xs i d)) is

  -- what is at another place doesn't matter
  same_at : (xs : List X) (i : ℕ) (is : List ℕ) → ((k : ℕ) → k < length is → i ≢ get_or is k 0) → sum_at (set xs i d) is ≡ sum_at xs is
  same_at xs i [] ne = refl
  same_at xs i (j ∷ is) ne =
      omega (
        arith,
        sum_by-cons (λ k. f (get_or (set xs i d) k d)) j is,
        sum_by-cons (λ k. f (get_or xs k d)) j is,
        ap f (get_or-set_other xs i j d d (λ e. ne 0 (omega arith) (sym e))),
        same_at xs i is (λ k h. ne (suc k) (omega (arith, h))),
      )

  -- some elements come to no more than all
  pub some_at_most : (is : List ℕ) (xs : List X) → IsDistinct is → ((k : ℕ) → k < length is → get_or is k 0 < length xs) → sum_at xs is ≤ sum_by f xs
  some_at_most [] xs once inside = omega arith
  some_at_most (i ∷ is) xs once inside =
      omega (
        arith,
        nothing,
        sum_by-cons (λ k. f (get_or xs k d)) i is,
        same_at xs i is (first_once i is once),
        sum_by-set f xs i d d (inside 0 (omega arith)),
        some_at_most is (set xs i d) (rest_once i is once) (λ k h. omega (arith, inside (suc k) (omega (arith, h)), length-set xs i d)),
      )

-- numbers below n, each once, are no more than n
pub are_few : (n : ℕ) (is : List ℕ) → IsDistinct is → ((k : ℕ) → k < length is → get_or is k 0 < n) → length is ≤ n
are_few n is once inside =
    omega (
      arith,
      ones is inside,
      some_at_most (λ c. c) 0 refl is (replicate n 1) once (λ k h. omega (arith, inside k h, length-replicate {A = ℕ} n 1)),
      sum_by-replicate (λ c. c) n 1,
    )
  where
    ones : (is : List ℕ) → ((k : ℕ) → k < length is → get_or is k 0 < n) → sum_at (λ c. c) 0 refl (replicate n 1) is ≡ length is
    ones [] inside = refl
    ones (i ∷ is) inside =
        omega (arith, sum_by-cons (λ k. get_or (replicate n 1) k 0) i is, get_or-replicate {A = ℕ} n i 1 0 (inside 0 (omega arith)), ones is (λ k h. inside (suc k) (omega (arith, h))))
