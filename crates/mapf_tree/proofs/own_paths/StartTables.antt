-- Tables of the distances from agents' starts.
use Rattle.std.proofs.Common.{ℕ, zero, suc, List, [], ◌∷◌, ◌++◌, get_or, set, Option, None}

-- what is so of no table and of each one stays so with one more that isn't there
pub right_with_none : {X : Type 0} (P : ℕ → Option X → Type 0) (tables : List (Option X)) → ((k : ℕ) → P k (get_or tables k None)) → (k : ℕ) → P k (get_or (tables ++ None ∷ []) k None)
right_with_none P [] right zero = right zero
right_with_none P [] right (suc k) = right (suc k)
right_with_none P (x ∷ xs) right zero = right zero
right_with_none P (x ∷ xs) right (suc k) = right_with_none (λ n. P (suc n)) xs (λ n. right (suc n)) k

-- and where one is another of which it is so
pub right_with_other : {X : Type 0} (P : ℕ → Option X → Type 0) (tables : List (Option X)) (i : ℕ) (other : Option X) → ((k : ℕ) → P k (get_or tables k None)) → P i other → (k : ℕ) → P k (get_or (set tables i other) k None)
right_with_other P [] i other right one k = right k
right_with_other P (x ∷ xs) zero other right one zero = one
right_with_other P (x ∷ xs) zero other right one (suc k) = right (suc k)
right_with_other P (x ∷ xs) (suc i) other right one zero = right zero
right_with_other P (x ∷ xs) (suc i) other right one (suc k) = right_with_other (λ n. P (suc n)) xs i other (λ n. right (suc n)) one k
