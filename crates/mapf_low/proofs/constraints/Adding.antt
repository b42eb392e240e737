-- What a search in a set of constraints finds, and what a constraint more leaves.
use Rattle.std.proofs.Common.{◌≡◌, ◌⊎◌, ◌↔◌, ℕ, zero, suc, List, ◌∷◌, length, Result, Ok, Err, MatchResult, Contains, inl, inr, subst, sym, arith, insert, IsPermutation}
use Rattle.std.specs.List.Sorted.{IsSearchInRange, IsBinarySearchResult}
use Rattle.std.proofs.lemmas.List.Sorted.{searchable_from_sorted, IsPermutation-insert, IsPermutation-sym, Contains-permutation, All-permutation}
use Rattle.std.proofs.lemmas.List.Elements.{All-cons}
use Rattle.mapf_low.specs.declared.constraint.Constraint.{Constraint}
use Rattle.mapf_low.specs.contracts.constraint.ConstraintOrd.TheImpl as impl
use Rattle.mapf_low.specs.Kept.{constraint_cmp, HasTwoEnds, IsKept}
use Rattle.mapf_low.proofs.constraints.ConstraintOrder.{derived, total, same}
use Rattle.mapf_low.proofs.constraints.SortedSets.{finds, sorted_insert}

-- a search by the derived order says whether the constraint is in the set
pub finds_constraint : (xs : List Constraint) (x : Constraint) (r : Result ℕ ℕ) → IsKept xs → IsSearchInRange r (length xs) → IsBinarySearchResult (λ y. (impl.ghosts).cmp y x) xs r → MatchResult r (λ _. Contains xs x) (λ _. ¬ Contains xs x)
finds_constraint xs x r k b p = finds constraint_cmp total same xs x r k.sorted b (subst (λ R. IsBinarySearchResult (λ y. R y x) xs r) derived p)

-- the new set has the old one's constraints and one more
pub record Adds (old : List Constraint) (x : Constraint) (new : List Constraint) : Type 0 where
  pub kept : IsKept new
  pub members : (c : Constraint) → Contains new c ↔ ((c ≡ x) ⊎ Contains old c)

-- the head of a list, or the rest
front_or_rest : (old : List Constraint) (x c : Constraint) → Contains (x ∷ old) c ↔ ((c ≡ x) ⊎ Contains old c)
front_or_rest old x c = (to, from)
  where
    to : Contains (x ∷ old) c → (c ≡ x) ⊎ Contains old c
    to (zero, l, e) = inl (sym e)
    to (suc k, l, e) = inr (k, omega (arith, l), e)

    from : (c ≡ x) ⊎ Contains old c → Contains (x ∷ old) c
    from (inl e) = (0, omega arith, sym e)
    from (inr (k, l, e)) = (suc k, omega (arith, l), e)

pub adds : (old : List Constraint) (x : Constraint) (new : List Constraint) (r : Result ℕ ℕ) → IsKept old → HasTwoEnds x → IsSearchInRange r (length old) → IsBinarySearchResult (λ y. (impl.ghosts).cmp y x) old r →
    MatchResult r (λ _. new ≡ old) (λ i. new ≡ insert old i x) → Adds old x new
adds old x new (Ok i) k two b p e =
    let found = finds_constraint old x (Ok i) k b p in
    subst (λ xs. Adds old x xs) (sym e) (record { kept = k; members = λ c. (inr, back found c) })
  where
    back : Contains old x → (c : Constraint) → (c ≡ x) ⊎ Contains old c → Contains old c
    back found c (inl s) = subst (λ d. Contains old d) (sym s) found
    back found c (inr h) = h
adds old x new (Err i) k two b p e =
    let q = subst (λ R. IsBinarySearchResult (λ y. R y x) old (Err i)) derived p in
    let parts = q (searchable_from_sorted total (λ y. y) old x k.sorted) in
    subst (λ xs. Adds old x xs) (sym e) (record {
      kept = record { sorted = sorted_insert constraint_cmp total same old x i k.sorted b parts; ends = All-permutation HasTwoEnds (x ∷ old) (insert old i x) moved (All-cons HasTwoEnds x old two k.ends) };
      members = λ c. ((λ h. (front_or_rest old x c).0 (Contains-permutation (insert old i x) (x ∷ old) c (IsPermutation-sym (x ∷ old) (insert old i x) moved) h)), (λ h. Contains-permutation (x ∷ old) (insert old i x) c moved ((front_or_rest old x c).1 h)));
    })
  where
    moved : IsPermutation (x ∷ old) (insert old i x)
    moved = IsPermutation-insert old i x
