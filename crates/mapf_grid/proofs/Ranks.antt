-- The order of ranks, and the least of what a list holds.
use Rattle.std.proofs.Common.{◌≡◌, ◌≢◌, ◌⊎◌, ℕ, ◌≤◌, List, [], ◌∷◌, inl, inr, subst, sym, refl, ap₂, ◌∙◌, ⊎_elim, arith, All, Contains}
use Rattle.std.proofs.lemmas.Bool.{cases_order, cases_lt}
use Rattle.std.proofs.lemmas.List.Elements.{All-nil, All-cons, All-tail, All-contains}
use Rattle.mapf_grid.proofs.Decide.{by_cases}
use Rattle.mapf_grid.specs.Least.{Precedes, IsLeast}

-- by cases: two ranks are equal, or one precedes the other
pub by_compare : {P : Type 0} (p q : List ℕ) → (p ≡ q → P) → (Precedes p q → P) → (Precedes q p → P) → P
by_compare [] [] same less more = same refl
by_compare [] (b ∷ q) same less more = less tt
by_compare (a ∷ p) [] same less more = more tt
by_compare (a ∷ p) (b ∷ q) same less more =
    ⊎_elim (λ e. by_compare p q (λ f. same (ap₂ (λ x xs. x ∷ xs) e f)) (λ h. less (inr (e, h))) (λ h. more (inr (sym e, h))))
    (⊎_elim (λ h. less (inl h)) (λ h. more (inl h))) (cases_order a b)

-- no rank precedes itself
pub irreflexive : (p : List ℕ) → ¬ Precedes p p
irreflexive [] h = h
irreflexive (a ∷ p) (inl h) = omega (arith, h)
irreflexive (a ∷ p) (inr h) = irreflexive p h.1

-- what precedes is another rank
pub before_is_other : (p q : List ℕ) → Precedes p q → p ≢ q
before_is_other p q h e = irreflexive q (subst (λ r. Precedes r q) e h)

-- what precedes a preceding rank precedes
pub transitive : (p q r : List ℕ) → Precedes p q → Precedes q r → Precedes p r
transitive [] [] r h k = absurd h
transitive [] (b ∷ q) [] h k = absurd k
transitive [] (b ∷ q) (c ∷ r) h k = tt
transitive (a ∷ p) [] r h k = absurd h
transitive (a ∷ p) (b ∷ q) [] h k = absurd k
transitive (a ∷ p) (b ∷ q) (c ∷ r) (inl h) (inl k) = inl (omega (arith, h, k))
transitive (a ∷ p) (b ∷ q) (c ∷ r) (inl h) (inr k) = inl (omega (arith, h, k.0))
transitive (a ∷ p) (b ∷ q) (c ∷ r) (inr h) (inl k) = inl (omega (arith, h.0, k))
transitive (a ∷ p) (b ∷ q) (c ∷ r) (inr h) (inr k) = inr (h.0 ∙ k.0, transitive p q r h.1 k.1)

-- of two ranks one at most precedes the other
pub asymmetric : (p q : List ℕ) → Precedes p q → ¬ Precedes q p
asymmetric p q h k = irreflexive p (transitive p q p h k)

-- whether a rank precedes another can be decided
pub dec_precedes : (p q : List ℕ) → Dec (Precedes p q)
dec_precedes p q = by_compare p q (λ e. no (λ h. before_is_other p q h e)) yes (λ h. no (asymmetric q p h))

-- p is at most q, which is before r
pub le_before : (p q r : List ℕ) → ¬ Precedes q p → Precedes q r → Precedes p r
le_before p q r n h = by_compare p q (λ e. subst (λ x. Precedes x r) (sym e) h) (λ k. transitive p q r k h) (λ k. absurd (n k))

-- p is before q, which is at most r
pub before_le : (p q r : List ℕ) → Precedes p q → ¬ Precedes r q → Precedes p r
before_le p q r h n = by_compare q r (λ e. subst (λ x. Precedes p x) e h) (λ k. transitive p q r h k) (λ k. absurd (n k))

-- the first numbers of two ranks, where the second rank doesn't precede the first
pub first_le : (a b : ℕ) (p q : List ℕ) → ¬ Precedes (b ∷ q) (a ∷ p) → a ≤ b
first_le a b p q n = ⊎_elim (λ h. absurd (n (inl h))) (λ h. h) (cases_lt b a)

-- two least ones have one rank
pub same_rank : {A : Type 0} (rank : A → List ℕ) (S : A → Type 0) (x y : A) → IsLeast rank S x → IsLeast rank S y → rank x ≡ rank y
same_rank rank S x y l m = by_compare (rank x) (rank y) (λ e. e) (λ h. absurd (m.least x l.member h)) (λ h. absurd (l.least y m.member h))

module _ {A : Type 0} (rank : A → List ℕ) (S : A → Type 0) where
  -- no element of the list that is in S precedes x
  abbrev NonePrecedes : List A → A → Type 0
  NonePrecedes xs x = All (λ y. S y → ¬ Precedes (rank y) (rank x)) xs

  -- the least element of the list that is in S, or none is
  abbrev Best : List A → Type 0
  Best xs = ((x : A) × S x × NonePrecedes xs x) ⊎ All (λ y. ¬ S y) xs

  -- with one element in front
  more : (x : A) (xs : List A) → Dec (S x) → Best xs → Best (x ∷ xs)
  more x xs (no n) (inr f) = inr (All-cons (λ y. ¬ S y) x xs n f)
  more x xs (no n) (inl b) = inl (b.0, b.1, All-cons (λ y. S y → ¬ Precedes (rank y) (rank b.0)) x xs (λ s. absurd (n s)) b.2)
  more x xs (yes t) (inr f) = inl (x, t, All-cons (λ y. S y → ¬ Precedes (rank y) (rank x)) x xs (λ s. irreflexive (rank x)) (λ k d l s. absurd (f k d l s)))
  more x xs (yes t) (inl b) =
      by_cases (dec_precedes (rank b.0) (rank x))
      (λ h. inl (b.0, b.1, All-cons (λ y. S y → ¬ Precedes (rank y) (rank b.0)) x xs (λ s. asymmetric (rank b.0) (rank x) h) b.2))
      (λ n. inl (x, t, All-cons (λ y. S y → ¬ Precedes (rank y) (rank x)) x xs (λ s. irreflexive (rank x)) (λ k d l s h. b.2 k d l s (before_le _ _ _ h n))))

  -- it is there, where S is decided for each
  among : (xs : List A) → All (λ x. Dec (S x)) xs → Best xs
  among [] d = inr (All-nil (λ y. ¬ S y))
  among (x ∷ xs) d = more x xs (d 0 x (omega arith)) (among xs (All-tail (λ y. Dec (S y)) x xs d))

  -- so a set whose members a list holds has a least member, or none
  pub least_by : (xs : List A) → All (λ x. Dec (S x)) xs → ((y : A) → S y → Contains xs y) → ((x : A) × IsLeast rank S x) ⊎ ((y : A) → ¬ S y)
  least_by xs d all =
      ⊎_elim (λ b. inl (b.0, record { member = b.1; least = λ y s. All-contains (λ z. S z → ¬ Precedes (rank z) (rank b.0)) xs y b.2 (all y s) s }))
      (λ f. inr (λ y s. All-contains (λ z. ¬ S z) xs y f (all y s) s)) (among xs d)

  -- as a set that is decided everywhere
  pub least_of : ((x : A) → Dec (S x)) → (xs : List A) → ((y : A) → S y → Contains xs y) → ((x : A) × IsLeast rank S x) ⊎ ((y : A) → ¬ S y)
  least_of d xs all = least_by xs (λ k x l. d _) all
