-- What is tested in the order of its rank and met first is the least.
use Rattle.std.proofs.Common.{◌≡◌, ℕ, ◌+◌, ◌<◌, List, [], ◌∷◌, ◌++◌, inl, inr, refl, ap₂, subst, arith}
use Rattle.mapf_grid.specs.Least.{Precedes, IsLeast, NoneBefore}

-- nothing precedes the empty rank
pub not_before_end : (p : List ℕ) → ¬ Precedes p []
not_before_end [] before = before
not_before_end (a ∷ p) before = before

-- what precedes a place stands before it
pub before_place : (a k : ℕ) (p : List ℕ) → Precedes (a ∷ p) (k ∷ []) → a < k
before_place a k p (inl less) = less
before_place a k p (inr same) = absurd (not_before_end p same.1)

-- what precedes p with t behind it, and not p, is p with something before t behind it
begins_with : (p t r : List ℕ) → ¬ Precedes r p → Precedes r (p ++ t) → (u : List ℕ) × (r ≡ p ++ u) × Precedes u t
begins_with [] t r from before = (r, refl, before)
begins_with (a ∷ p) t [] from before = absurd (from tt)
begins_with (a ∷ p) t (b ∷ r) from (inl less) = absurd (from (inl less))
begins_with (a ∷ p) t (b ∷ r) from (inr same) =
    let more = begins_with p t r (λ h. from (inr (same.0, h))) same.1 in (more.0, ap₂ (λ x xs. x ∷ xs) same.0 more.1, more.2)

-- and so does what precedes the place behind p's
begins_at : (q : List ℕ) (k : ℕ) (r : List ℕ) → ¬ Precedes r (q ++ k ∷ []) → Precedes r (q ++ (k + 1) ∷ []) → (u : List ℕ) × (r ≡ (q ++ k ∷ []) ++ u)
begins_at [] k [] from before = absurd (from tt)
begins_at [] k (b ∷ r) from (inl less) = (r, ap₂ (λ x xs. x ∷ xs) (at_least (λ h. from (inl h)) less) refl)
  where
    at_least : ¬ (b < k) → b < k + 1 → b ≡ k
    at_least low high = omega (arith, low, high)
begins_at [] k (b ∷ r) from (inr same) = absurd (not_before_end r same.1)
begins_at (a ∷ q) k [] from before = absurd (from tt)
begins_at (a ∷ q) k (b ∷ r) from (inl less) = absurd (from (inl less))
begins_at (a ∷ q) k (b ∷ r) from (inr same) =
    let more = begins_at q k r (λ h. from (inr (same.0, h))) same.1 in (more.0, ap₂ (λ x xs. x ∷ xs) same.0 more.1)

module _ {A : Type 0} (rank : A → List ℕ) (S : A → Type 0) where
  -- no member's rank begins with this
  abbrev pub NoneAt : List ℕ → Type 0
  NoneAt p = (y : A) (u : List ℕ) → S y → rank y ≡ p ++ u → ⊥

  -- one place more is tested, and there is nothing
  pub none_before-next : (q : List ℕ) (k : ℕ) → NoneBefore rank S (q ++ k ∷ []) → NoneAt (q ++ k ∷ []) → NoneBefore rank S (q ++ (k + 1) ∷ [])
  none_before-next q k none here y s before = let at = begins_at q k (rank y) (none y s) before in here y at.0 s at.1

  -- where nothing precedes a place, and nothing at that place precedes t, nothing precedes t at that place
  pub none_before-there : (p t : List ℕ) → NoneBefore rank S p → ((y : A) (u : List ℕ) → S y → rank y ≡ p ++ u → ¬ Precedes u t) → NoneBefore rank S (p ++ t)
  none_before-there p t none here y s before = let at = begins_with p t (rank y) (none y s) before in here y at.0 s at.1 at.2

  -- the least of those at the first place is the least of all
  pub first_is_least : (T : A → Type 0) (p t : List ℕ) (x : A) → NoneBefore rank S p → ((y : A) (u : List ℕ) → S y → rank y ≡ p ++ u → T y) → S x → rank x ≡ p ++ t → IsLeast rank T x → IsLeast rank S x
  first_is_least T p t x none here s at least = record {
    member = s;
    least = λ y sy before. let found = begins_with p t (rank y) (none y sy) (subst (λ r. Precedes (rank y) r) at before) in
        least.least y (here y found.0 sy found.1) before;
  }
