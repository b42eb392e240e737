-- Lists of all lists, and lists made from an index.
use Rattle.std.proofs.Common.{◌≡◌, ◌≢◌, ◌⊎◌, ℕ, zero, suc, ◌<◌, ◌≤◌, List, [], ◌∷◌, ◌++◌, map, length, get_or, set, get_or-set_same, get_or-set_other, inl, inr, subst, sym, refl, ap, ◌∙◌, ⊎_elim, arith, Contains}
use native.Mathlib.Decide.{ℕ_discrete}
use Rattle.std.specs.List.{AllByRecursion, flat_map, sum_by}
use Rattle.std.proofs.lemmas.Bool.{cases_eq}
use Rattle.std.proofs.lemmas.List.{length-map, get_or-map}
use Rattle.std.proofs.lemmas.List.Elements.{Contains-append_left, Contains-append_right}
use Rattle.std.proofs.lemmas.List.Sums.{sum_by-cons}
use Rattle.mapf_grid.proofs.Decide.{by_cases}
use Rattle.mapf_grid.proofs.Members.{nowhere, here, there, here_or_there}

-- the image of an element is in the image of the list
pub Contains-map : {X Y : Type 0} (f : X → Y) (xs : List X) (x : X) → Contains xs x → Contains (map f xs) (f x)
Contains-map f xs x c = (c.0, omega (arith, c.1, length-map xs f), get_or-map f xs c.0 x (f x) c.1 ∙ ap f c.2)

-- and so it is where the images are lists that are put together
pub Contains-flat_map : {X Y : Type 0} (f : X → List Y) (xs : List X) (x : X) (y : Y) → Contains xs x → Contains (f x) y → Contains (flat_map f xs) y
Contains-flat_map f [] x y c d = absurd (nowhere c)
Contains-flat_map f (z ∷ xs) x y c d =
    ⊎_elim (λ e. Contains-append_left (f z) (flat_map f xs) y (subst (λ w. Contains (f w) y) (sym e) d))
    (λ i. Contains-append_right (f z) (flat_map f xs) y (Contains-flat_map f xs x y i d)) (here_or_there xs c)

-- the numbers below n
abbrev pub below : ℕ → List ℕ
below zero = []
below (suc n) = n ∷ below n

-- each smaller number is there
pub Contains-below : (n k : ℕ) → k < n → Contains (below n) k
Contains-below zero k h = absurd (omega (arith, h))
Contains-below (suc n) k h = ⊎_elim (λ e. here (below n) e) (λ e. there (below n) (Contains-below n k (omega (arith, h, e)))) (cases_eq n k)

-- the lists of n numbers below m
abbrev pub lists : ℕ → ℕ → List (List ℕ)
lists m zero = [] ∷ []
lists m (suc n) = flat_map (λ c. map (λ p. c ∷ p) (lists m n)) (below m)

-- each such list is there
Contains-lists : (m : ℕ) (p : List ℕ) → AllByRecursion (λ c. c < m) p → Contains (lists m (length p)) p
Contains-lists m [] a = here [] refl
Contains-lists m (c ∷ p) a =
    Contains-flat_map (λ c. map (λ p. c ∷ p) (lists m (length p))) (below m) c (c ∷ p) (Contains-below m c a.0)
    (Contains-map (λ p. c ∷ p) (lists m (length p)) p (Contains-lists m p a.1))

-- the lists of at most n numbers below m
abbrev pub lists_up : ℕ → ℕ → List (List ℕ)
lists_up m zero = lists m zero
lists_up m (suc n) = lists m (suc n) ++ lists_up m n

-- each such list is there
pub Contains-short_lists : (m n : ℕ) (p : List ℕ) → length p ≤ n → AllByRecursion (λ c. c < m) p → Contains (lists_up m n) p
Contains-short_lists m zero p h a = let e : length p ≡ 0 = omega (arith, h) in subst (λ k. Contains (lists m k) p) e (Contains-lists m p a)
Contains-short_lists m (suc n) p h a =
    ⊎_elim (λ e. Contains-append_left (lists m (suc n)) (lists_up m n) p (subst (λ k. Contains (lists m k) p) e (Contains-lists m p a)))
    (λ e. Contains-append_right (lists m (suc n)) (lists_up m n) p (Contains-short_lists m n p (omega (arith, h, e)) a)) (cases_eq (length p) (suc n))

module _ {X : Type 0} (d : X) where
  -- a list of n elements, each with what R says of its place
  abbrev pub Row : ℕ → (ℕ → X → Type 0) → Type 0
  Row n R = (xs : List X) × (length xs ≡ n) × ((i : ℕ) → i < n → R i (get_or xs i d))

  -- of no elements
  no_row : (R : ℕ → X → Type 0) → Row 0 R
  no_row R = ([], refl, λ i h. absurd (omega (arith, h)))

  -- with one element in front
  row_with : (n : ℕ) (R : ℕ → X → Type 0) → (x : X) × R 0 x → Row n (λ i. R (suc i)) → Row (suc n) R
  row_with n R x r = (x.0 ∷ r.0, ap suc r.1, at_place)
    where
      at_place : (i : ℕ) → i < suc n → R i (get_or (x.0 ∷ r.0) i d)
      at_place zero h = x.1
      at_place (suc i) h = r.2 i (omega (arith, h))

  -- it is there, where each place has an element
  pub build : (n : ℕ) (R : ℕ → X → Type 0) → ((i : ℕ) → i < n → (x : X) × R i x) → Row n R
  build zero R f = no_row R
  build (suc n) R f = row_with n R (f 0 (omega arith)) (build n (λ i. R (suc i)) (λ i h. f (suc i) (omega (arith, h))))

  -- or some place has none
  pub build_or : (n : ℕ) (R : ℕ → X → Type 0) → ((i : ℕ) → ((x : X) × R i x) ⊎ ((x : X) → ¬ R i x)) → Row n R ⊎ ((i : ℕ) × (i < n) × ((x : X) → ¬ R i x))
  build_or zero R f = inl (no_row R)
  build_or (suc n) R f =
      ⊎_elim (λ x. ⊎_elim (λ r. inl (row_with n R x r)) (λ r. inr (suc r.0, omega (arith, r.1), r.2)) (build_or n (λ i. R (suc i)) (λ i. f (suc i))))
      (λ e. inr (0, omega arith, e)) (f 0)

-- what P says of the elements of a list of which one is replaced
pub set_cases : {X : Type 0} (P : X → Type 0) (xs : List X) (j i : ℕ) (y d : X) → i < length xs → (j ≡ i → P y) → (j ≢ i → P (get_or xs i d)) → P (get_or (set xs j y) i d)
set_cases P xs j i y d inside new old =
    by_cases (ℕ_discrete j i) (λ e. subst P (sym (ap (λ k. get_or (set xs k y) i d) e ∙ get_or-set_same xs i y d inside)) (new e))
    (λ n. subst P (sym (get_or-set_other xs j i y d (λ e. n (sym e)))) (old n))

-- sums place by place
pub sum_by-le : {X : Type 0} (f : X → ℕ) (d : X) (xs ys : List X) → length xs ≡ length ys → ((i : ℕ) → i < length xs → f (get_or xs i d) ≤ f (get_or ys i d)) → sum_by f xs ≤ sum_by f ys
sum_by-le f d [] [] n h = omega arith
sum_by-le f d [] (y ∷ ys) n h = absurd (omega (arith, n))
sum_by-le f d (x ∷ xs) [] n h = absurd (omega (arith, n))
sum_by-le f d (x ∷ xs) (y ∷ ys) n h =
    omega (arith, sum_by-cons f x xs, sum_by-cons f y ys, h 0 (omega arith), sum_by-le f d xs ys (omega (arith, n)) (λ i l. h (suc i) (omega (arith, l))))
