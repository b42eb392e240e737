-- Lists in which no element stands twice are no longer than the lists that they lie in.
use Rattle.mapf_tree.proofs.Prelude.{◌≡◌, ◌⊎◌, suc, ◌≤◌, List, [], ◌∷◌, length, inl, inr, subst, sym, refl, ap, ◌∙◌, ⊎_elim, arith, Contains, nowhere, here, there, here_or_there}

-- no element stands twice
abbrev pub Distinct : {X : Type 0} → List X → Type 0
Distinct [] = Unit {0}
Distinct (x ∷ xs) = (¬ Contains xs x) × Distinct xs

-- a list without one of its elements
abbrev Without : {X : Type 0} → List X → X → Type 0
Without {X} us x = (vs : List X) × (length us ≡ suc (length vs)) × ((y : X) → Contains us y → (x ≡ y) ⊎ Contains vs y)

without : {X : Type 0} (us : List X) (x : X) → Contains us x → Without us x
without [] x c = absurd (nowhere c)
without {X} (u ∷ us) x c = ⊎_elim first (λ i. later (without us x i)) (here_or_there us c)
  where
    first : u ≡ x → Without (u ∷ us) x
    first e = (us, refl, λ y d. ⊎_elim (λ f. inl (sym e ∙ f)) inr (here_or_there us d))

    later : Without us x → Without (u ∷ us) x
    later w = (u ∷ w.0, ap suc w.1, λ y d. ⊎_elim (λ f. inr (here w.0 f)) (λ j. ⊎_elim inl (λ k. inr (there w.0 k)) (w.2 y j)) (here_or_there us d))

-- a list without a double has no more elements than one that has them all
pub distinct_le : {X : Type 0} (xs us : List X) → Distinct xs → ((x : X) → Contains xs x → Contains us x) → length xs ≤ length us
distinct_le [] us d all = omega arith
distinct_le (x ∷ xs) us d all =
    let w = without us x (all x (here xs refl)) in
    omega (arith, w.1, distinct_le xs w.0 d.1 (λ y j. ⊎_elim (λ e. absurd (d.0 (subst (Contains xs) (sym e) j))) (λ i. i) (w.2 y (all y (there xs j)))))
