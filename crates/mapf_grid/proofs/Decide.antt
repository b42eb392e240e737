-- Decisions.
use Rattle.std.proofs.Common.{◌⊎◌, ℕ, zero, suc, ◌+◌, ◌<◌, List, [], ◌∷◌, inl, inr, subst, ⊎_elim, arith}
use Rattle.std.specs.List.{AllByRecursion}
use native.Mathlib.Decide.{ℕ_discrete}

-- by cases on a fact that can be decided
pub by_cases : {A P : Type 0} → Dec A → (A → P) → (¬ A → P) → P
by_cases (yes a) f g = f a
by_cases (no n) f g = g n

-- of facts that say the same
pub dec_map : {A B : Type 0} → (A → B) → (B → A) → Dec A → Dec B
dec_map f g (yes a) = yes (f a)
dec_map f g (no n) = no (λ b. n (g b))

-- of two facts
pub dec_and : {A B : Type 0} → Dec A → Dec B → Dec (A × B)
dec_and (yes a) (yes b) = yes (a, b)
dec_and (yes a) (no n) = no (λ h. n h.1)
dec_and (no n) d = no (λ h. n h.0)

-- of one of two facts
pub dec_or : {A B : Type 0} → Dec A → Dec B → Dec (A ⊎ B)
dec_or (yes a) d = yes (inl a)
dec_or (no n) (yes b) = yes (inr b)
dec_or (no n) (no m) = no (⊎_elim n m)

-- of a denial
pub dec_not : {A : Type 0} → Dec A → Dec (¬ A)
dec_not (yes a) = no (λ n. n a)
dec_not (no n) = yes n

-- what isn't denied, where it can be decided
pub decided : {A : Type 0} → Dec A → ¬ (¬ A) → A
decided (yes a) f = a
decided (no n) f = absurd (f n)

-- what holds below n and at n holds up to n
pub up_to : (P : ℕ → Type 0) (n k : ℕ) → k < n + 1 → (k < n → P k) → P n → P k
up_to P n k l below here = by_cases (ℕ_discrete n k) (λ e. subst P e here) (λ e. below (omega (arith, l, e)))

-- P for each number below n
pub dec_below : (P : ℕ → Type 0) → ((k : ℕ) → Dec (P k)) → (n : ℕ) → Dec ((k : ℕ) → k < n → P k)
dec_below P d zero = yes (λ k h. absurd (omega (arith, h)))
dec_below P d (suc n) =
    dec_map (λ h k l. up_to P n k (omega (arith, l)) (h.1 k) h.0) (λ f. (f n (omega arith), λ k l. f k (omega (arith, l))))
    (dec_and (d n) (dec_below P d n))

-- P for each element
pub dec_all : {X : Type 0} (P : X → Type 0) → ((x : X) → Dec (P x)) → (xs : List X) → Dec (AllByRecursion P xs)
dec_all P d [] = yes tt
dec_all P d (x ∷ xs) = dec_and (d x) (dec_all P d xs)
