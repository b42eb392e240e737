-- Sets of constraints, with one constraint more.
use Rattle.mapf_tree.proofs.Prelude.{◌≡◌, ◌⊎◌, ◌↔◌, List, ◌∷◌, inl, inr, sym, ⊎_elim, Contains, here, there, here_or_there}
use Rattle.mapf_tree.specs.Prelude.{Constraint, IsSameSet}

-- what one set more holds
abbrev pub IsWith : Constraint → List Constraint → List Constraint → Type 0
IsWith k old more = (x : Constraint) → Contains more x ↔ ((x ≡ k) ⊎ Contains old x)

-- a list with one element in front has that element more
pub with_front : (k : Constraint) (old : List Constraint) → IsWith k old (k ∷ old)
with_front k old x = ((λ h. ⊎_elim (λ e. inl (sym e)) inr (here_or_there old h)), ⊎_elim (λ e. here old (sym e)) (there old))

-- one constraint more than a set of the same constraints has
pub with_same : (k : Constraint) (old same more : List Constraint) → IsSameSet old same → IsWith k old more → IsWith k same more
with_same k old same more is after x =
    ((λ h. ⊎_elim inl (λ i. inr ((is x).0 i)) ((after x).0 h)), (λ h. (after x).1 (⊎_elim inl (λ i. inr ((is x).1 i)) h)))

-- so it is the set of the list with that constraint in front
pub IsWith-cons : (k : Constraint) (cs old more : List Constraint) → IsSameSet old cs → IsWith k old more → IsSameSet more (k ∷ cs)
IsWith-cons k cs old more same is x =
    let after = with_same k old cs more same is x in
    ((λ h. (with_front k cs x).1 (after.0 h)), (λ h. after.1 ((with_front k cs x).0 h)))
