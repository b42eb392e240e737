-- What joint places get more in one time step, item by item of a list.
use Rattle.std.proofs.Common.{◌≡◌, ℕ, ◌+◌, ◌<◌, List, [], ◌∷◌, ◌++◌, length, take, get_or, Contains, subst, sym, ap, ◌∙◌, ⊎_elim, arith}
use Rattle.std.proofs.Math.Seq.{take-length}
use Rattle.std.proofs.lemmas.List.{take_more}
use Rattle.std.proofs.lemmas.List.Elements.{Contains-push_cases}

module _ {X : Type 0} (P : X → Type 0) where
  -- what holds of each of no items
  pub each_none : (x : X) → Contains {X = X} [] x → P x
  each_none x h = absurd (omega (arith, h.1))

  module _ (items : List X) (k : ℕ) where
    -- what holds of the first ones and of the next one
    pub each_more : (a : X) → k < length items → a ≡ get_or items k a → ((x : X) → Contains (take k items) x → P x) → P a → (x : X) → Contains (take (k + 1) items) x → P x
    each_more a l is before next x h =
        ⊎_elim (λ i. before x i) (λ e. subst P e next) (Contains-push_cases (take k items) a x (subst (λ xs. Contains xs x) more h))
      where
        more : take (k + 1) items ≡ take k items ++ a ∷ []
        more = take_more items k a l ∙ ap (λ y. take k items ++ y ∷ []) (sym is)

    -- the first ones are all
    pub each_all : k ≡ length items → ((x : X) → Contains (take k items) x → P x) → (x : X) → Contains items x → P x
    each_all e h x i = h x (subst (λ xs. Contains xs x) (sym (ap (λ n. take n items) e ∙ take-length items)) i)
