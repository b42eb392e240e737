-- The order of keys is that of their ranks.
use Rattle.mapf_tree.proofs.Prelude.{◌≡◌, ◌⊎◌, ◌↔◌, ℕ, ◌<◌, List, [], ◌∷◌, Less, Equal, Greater, nat_cmp, inl, inr, refl, sym, ap, ◌∙◌, arith, cases_order, nat_tests}
use Rattle.mapf_tree.specs.Prelude.{ordering_then, slice_cmp, Precedes}

-- std compares numbers by their order
pub cmp_less : (a b : ℕ) → a < b → nat_cmp a b ≡ Less
cmp_less a b h = grind (arith, nat_tests)

pub cmp_equal : (a b : ℕ) → a ≡ b → nat_cmp a b ≡ Equal
cmp_equal a b h = grind (arith, nat_tests)

pub cmp_greater : (a b : ℕ) → b < a → nat_cmp a b ≡ Greater
cmp_greater a b h = grind (arith, nat_tests)

-- the order of std is that of the ranks
pub Precedes-slice_cmp : (p q : List ℕ) → (slice_cmp nat_cmp p q ≡ Less) ↔ Precedes p q
Precedes-slice_cmp [] [] = ((λ e. cc), (λ h. absurd h))
Precedes-slice_cmp [] (b ∷ q) = ((λ e. tt), (λ h. refl))
Precedes-slice_cmp (a ∷ p) [] = ((λ e. cc), (λ h. absurd h))
Precedes-slice_cmp (a ∷ p) (b ∷ q) = go (Precedes-slice_cmp p q)
  where
    go : ((slice_cmp nat_cmp p q ≡ Less) ↔ Precedes p q) → (ordering_then (nat_cmp a b) (slice_cmp nat_cmp p q) ≡ Less) ↔ Precedes (a ∷ p) (b ∷ q)
    go ih = (forth (cases_order a b), back)
      where
        forth : (a ≡ b) ⊎ ((a < b) ⊎ (b < a)) → ordering_then (nat_cmp a b) (slice_cmp nat_cmp p q) ≡ Less → Precedes (a ∷ p) (b ∷ q)
        forth (inl e) h = inr (e, ih.0 (sym (ap (λ o. ordering_then o (slice_cmp nat_cmp p q)) (cmp_equal a b e)) ∙ h))
        forth (inr (inl l)) h = inl l
        forth (inr (inr l)) h = let z : Greater ≡ Less = sym (ap (λ o. ordering_then o (slice_cmp nat_cmp p q)) (cmp_greater a b l)) ∙ h in cc

        back : Precedes (a ∷ p) (b ∷ q) → ordering_then (nat_cmp a b) (slice_cmp nat_cmp p q) ≡ Less
        back (inl l) = ap (λ o. ordering_then o (slice_cmp nat_cmp p q)) (cmp_less a b l)
        back (inr h) = ap (λ o. ordering_then o (slice_cmp nat_cmp p q)) (cmp_equal a b h.0) ∙ ih.1 h.1
