-- Layers, one more at a time.
use Rattle.std.proofs.Common.{◌≡◌, ℕ, ◌+◌, ◌<◌, List, [], ◌∷◌, ◌++◌, length, Contains, subst, subst₂, sym, ap, arith}
use Rattle.std.proofs.lemmas.List.{get_or_append_left, get_or_at, length-append}
use Rattle.mapf_grid.proofs.Decide.{up_to}
use Rattle.mapf_low.specs.Query.{Query}
use Rattle.mapf_low.specs.Layers.{IsFirstLayer, IsNextLayer, InLayers, layer_at}
use Rattle.mapf_low.specs.Reached.{EndsAt}
use Rattle.mapf_low.proofs.by_layers.Layering.{AreLayers}

-- the earlier layers stand
pub layer_kept : (layers : List (List ℕ)) (next : List ℕ) (t : ℕ) → t < length layers → layer_at (layers ++ next ∷ []) t ≡ layer_at layers t
layer_kept layers next t l = get_or_append_left layers (next ∷ []) [] t l

pub layer_new : (layers : List (List ℕ)) (next : List ℕ) (t : ℕ) → length layers ≡ t → layer_at (layers ++ next ∷ []) t ≡ next
layer_new layers next t e = get_or_at layers next [] [] t e

module _ (query : Query) where
  pub layers_one : (layers : List (List ℕ)) (first : List ℕ) → layers ≡ [] → IsFirstLayer query first → AreLayers query (layers ++ first ∷ [])
  layers_one layers first e f =
      let is : layers ++ first ∷ [] ≡ first ∷ [] = ap (λ ls. ls ++ first ∷ []) e in
      subst (AreLayers query) (sym is) (record { first = f; next = λ t l. absurd (omega (arith, l)) })

  pub layers_push : (layers : List (List ℕ)) (next : List ℕ) (time : ℕ) → AreLayers query layers → length layers ≡ time + 1 →
      IsNextLayer query (time + 1) (layer_at layers time) next → AreLayers query (layers ++ next ∷ [])
  layers_push layers next time h long n = record { first = subst (IsFirstLayer query) (sym (layer_kept layers next 0 (omega (arith, long)))) h.first; next = each }
    where
      each : (t : ℕ) → t + 1 < length (layers ++ next ∷ []) → IsNextLayer query (t + 1) (layer_at (layers ++ next ∷ []) t) (layer_at (layers ++ next ∷ []) (t + 1))
      each t l =
          up_to (λ k. IsNextLayer query (k + 1) (layer_at (layers ++ next ∷ []) k) (layer_at (layers ++ next ∷ []) (k + 1))) time t
          (omega (arith, l, length-append layers (next ∷ []), long))
          (λ m.
          subst₂ (λ a b. IsNextLayer query (t + 1) a b) (sym (layer_kept layers next t (omega (arith, m, long))))
          (sym (layer_kept layers next (t + 1) (omega (arith, m, long)))) (h.next t (omega (arith, m, long))))
          (subst₂ (λ a b. IsNextLayer query (time + 1) a b) (sym (layer_kept layers next time (omega (arith, long)))) (sym (layer_new layers next (time + 1) long)) n)

-- where nothing arrived before, and not now, nothing arrived up to now
pub not_yet : (query : Query) (layers : List (List ℕ)) (next : List ℕ) (time : ℕ) → length layers ≡ time + 1 → ((t : ℕ) → t < time → ¬ EndsAt query (InLayers layers) t) → ¬ EndsAt query (InLayers layers) time →
    (t : ℕ) → t < time + 1 → ¬ EndsAt query (InLayers (layers ++ next ∷ [])) t
not_yet query layers next time long before now t l a =
    up_to (λ k. ¬ EndsAt query (InLayers layers) k) time t l (before t) now
    (subst (λ layer. Contains layer query.goal) (layer_kept layers next t (omega (arith, l, long))) a.0, a.1)
