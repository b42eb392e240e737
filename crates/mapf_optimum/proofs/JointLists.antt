-- Lists of joint places that get more.
use Rattle.std.proofs.Common.{◌≡◌, ◌⊎◌, ℕ, ◌<◌, List, [], ◌∷◌, ◌++◌, length, Contains, Some, inl, inr, subst, sym, refl, ap, ◌∙◌, ⊎_elim, arith}
use Rattle.std.specs.Prelude.{slice_get}
use Rattle.std.proofs.lemmas.Bool.{cases_lt}
use Rattle.std.proofs.lemmas.List.{length_push, get_or_push, get_or_append_left}
use Rattle.std.proofs.lemmas.List.Elements.{Contains-append_left, Contains-push}
use Rattle.std.proofs.lemmas.Option.{slice_get-get_or, slice_get_within, get_or_from_slice_get}
use Rattle.mapf_optimum.specs.PlaceNumbers.{Known, Grows, IsKnown}

module _ {X : Type 0} (xs : List X) (y : X) where
  -- what was there is there
  pub got_before : (n : ℕ) (x : X) → slice_get xs n ≡ Some x → slice_get (xs ++ y ∷ []) n ≡ Some x
  got_before n x is =
      let l : n < length xs = slice_get_within xs n x is in
      slice_get-get_or (xs ++ y ∷ []) n x (omega (arith, l, length_push xs y))
      ∙ ap Some (get_or_append_left xs (y ∷ []) x n l ∙ get_or_from_slice_get xs n x x is)

  -- and the new one is the last
  pub got_last : slice_get (xs ++ y ∷ []) (length xs) ≡ Some y
  got_last = slice_get-get_or (xs ++ y ∷ []) (length xs) y (omega (arith, length_push xs y)) ∙ ap Some (get_or_push xs y y (length xs) refl)

  -- what is there was there, or is the new one
  pub got_after : (n : ℕ) (x : X) → slice_get (xs ++ y ∷ []) n ≡ Some x → (slice_get xs n ≡ Some x) ⊎ (n ≡ length xs)
  got_after n x is =
      ⊎_elim
      (λ l. inl (slice_get-get_or xs n x l ∙ ap Some (sym (get_or_append_left xs (y ∷ []) x n l) ∙ get_or_from_slice_get (xs ++ y ∷ []) n x x is)))
      (λ h. inr (let l : n < length (xs ++ y ∷ []) = slice_get_within (xs ++ y ∷ []) n x is in omega (arith, h, l, length_push xs y)))
      (cases_lt n (length xs))

-- nothing new
pub grows_none : (known : Known) → Grows known known
grows_none known = record { keeps = λ n x h. h; waits = λ n h. h; fresh = λ n x h. inl h }

-- first the one and then the other
pub grows_both : (a b c : Known) → Grows a b → Grows b c → Grows a c
grows_both a b c h k = record {
  keeps = λ n x i. k.keeps n x (h.keeps n x i);
  waits = λ n i. k.waits n (h.waits n i);
  fresh = λ n x i. ⊎_elim (λ j. ⊎_elim (λ m. inl m) (λ m. inr (k.waits n m)) (h.fresh n x j)) (λ j. inr j) (k.fresh n x i);
}

-- what is known stays so
pub still_known : (old new : Known) (x : List ℕ) → Grows old new → IsKnown old x → IsKnown new x
still_known old new x grows h = (h.0, grows.keeps h.0 x h.1)

-- one at the end, which waits
pub grows_pushed : (old new : Known) (joint : List ℕ) → new.all ≡ old.all ++ joint ∷ [] → new.waiting ≡ old.waiting ++ length old.all ∷ [] → Grows old new × IsKnown new joint
grows_pushed old new joint all waiting = (
  record {
    keeps = λ n x h. subst (λ l. slice_get l n ≡ Some x) (sym all) (got_before old.all joint n x h);
    waits = λ n h. subst (λ l. Contains l n) (sym waiting) (Contains-append_left old.waiting (length old.all ∷ []) n h);
    fresh = λ n x h. ⊎_elim (λ i. inl i) (λ i. inr (last n i)) (got_after old.all joint n x (subst (λ l. slice_get l n ≡ Some x) all h));
  },
  (length old.all, subst (λ l. slice_get l (length old.all) ≡ Some joint) (sym all) (got_last old.all joint)),
)
  where
    last : (n : ℕ) → n ≡ length old.all → Contains new.waiting n
    last n e = subst (Contains new.waiting) (sym e) (subst (λ l. Contains l (length old.all)) (sym waiting) (Contains-push old.waiting (length old.all)))
