-- Facts of one path, and that it can be decided whether a list is one.
use Rattle.std.proofs.Common.{◌≡◌, ◌≢◌, ℕ, zero, suc, ◌<◌, ◌≤◌, ◌+◌, min, true, List, length, get_or, slice_index, subst, sym, ap, ◌∙◌, ⊎_elim, arith}
use Rattle.std.specs.List.{AllByRecursion}
use Rattle.std.proofs.lemmas.List.Elements.{recursion_from_All}
use Rattle.std.proofs.lemmas.List.{get_or_default}
use Rattle.std.proofs.lemmas.Option.{slice_get_within}
use Rattle.std.proofs.lemmas.Bool.{cases_lt}
use native.Mathlib.Decide.{ℕ_discrete, dec_lt}
use Rattle.mapf_grid.specs.Grid.{Grid, IsFree, Next}
use Rattle.mapf_plan.specs.Path.{cost, at, IsPath}
use Rattle.mapf_grid.proofs.Decide.{dec_map, dec_and, dec_below}
use Rattle.mapf_grid.proofs.Steps.{dec_free, dec_next}

-- whether a list is a path can be decided
pub dec_path : (g : Grid) (s e : ℕ) (p : List ℕ) → Dec (IsPath g s e p)
dec_path g s e p =
    dec_map
    (λ h. record { some = h.0; starts = h.1.0; ends = h.1.1.0; free = h.1.1.1.0; steps = h.1.1.1.1.0; arrives = λ t k. h.1.1.1.1.1 t (omega (arith, k)) k })
    (λ h. (h.some, (h.starts, (h.ends, (h.free, (h.steps, λ t l. h.arrives t))))))
    all
  where
    last : (t : ℕ) → Dec (t + 1 ≡ cost p → at p t ≢ e)
    last t = go (ℕ_discrete (t + 1) (cost p)) (ℕ_discrete (at p t) e)
      where
        go : Dec (t + 1 ≡ cost p) → Dec (at p t ≡ e) → Dec (t + 1 ≡ cost p → at p t ≢ e)
        go (no n) d = yes (λ h. absurd (n h))
        go (yes h) (yes a) = no (λ f. f h a)
        go (yes h) (no n) = yes (λ k. n)

    all : Dec ((0 < length p) × ((at p 0 ≡ s) × ((at p (cost p) ≡ e) × (IsFree g s × (((t : ℕ) → t < cost p → Next g (at p t) (at p (t + 1))) × ((t : ℕ) → t < cost p → t + 1 ≡ cost p → at p t ≢ e))))))
    all =
        dec_and (dec_lt 0 (length p)) (dec_and (ℕ_discrete (at p 0) s) (dec_and (ℕ_discrete (at p (cost p)) e) (dec_and (dec_free g s)
        (dec_and (dec_below (λ t. Next g (at p t) (at p (t + 1))) (λ t. dec_next g _ _) (cost p)) (dec_below (λ t. t + 1 ≡ cost p → at p t ≢ e) last (cost p))))))

-- up to its end the path is the list
pub at_inside : (p : List ℕ) (t : ℕ) → t < length p → at p t ≡ slice_index p t
at_inside p t h = let e : min t (cost p) ≡ t = omega (arith, h) in ap (λ k. slice_index p k) e

-- past its end it stays
pub at_past : (p : List ℕ) (t : ℕ) → cost p ≤ t → at p t ≡ at p (cost p)
at_past p t h = let e : min t (cost p) ≡ min (cost p) (cost p) = omega (arith, h) in ap (λ k. slice_index p k) e

-- up to its end it is on free cells
cell_free : (g : Grid) (s e : ℕ) (p : List ℕ) → IsPath g s e p → (t : ℕ) → t < length p → IsFree g (at p t)
cell_free g s e p h zero l = subst (λ c. IsFree g c) (sym h.starts) h.free
cell_free g s e p h (suc t) l =
    let n : t + 1 ≡ suc t = omega arith in
    subst (λ k. IsFree g (at p k)) n (h.steps t (omega (arith, l))).1

-- its cells have numbers below the length of the grid's list
pub cells_below : (g : Grid) (s e : ℕ) (p : List ℕ) → IsPath g s e p → AllByRecursion (λ c. c < length g.free) p
cells_below g s e p h =
    recursion_from_All (λ c. c < length g.free) p
    (λ k d l. slice_get_within g.free (get_or p k d) true (subst (λ c. IsFree g c) (at_inside p k l ∙ get_or_default p k 0 d l) (cell_free g s e p h k l)))

-- it is always on a free cell
pub place_free : (g : Grid) (s e : ℕ) (p : List ℕ) → IsPath g s e p → (t : ℕ) → IsFree g (at p t)
place_free g s e p h t =
    ⊎_elim (λ l. cell_free g s e p h t l)
    (λ l. subst (λ c. IsFree g c) (sym (at_past p t (omega (arith, l)))) (cell_free g s e p h (cost p) (omega (arith, h.some)))) (cases_lt t (length p))

-- where it changes its place, it makes a step of the grid
pub moves : (g : Grid) (s e : ℕ) (p : List ℕ) → IsPath g s e p → (k t : ℕ) → k + 1 ≡ t → at p k ≢ at p t → Next g (at p k) (at p t)
moves g s e p h k t n ne =
    ⊎_elim (λ l. subst (λ m. Next g (at p k) (at p m)) n (h.steps k l))
    (λ l. absurd (ne (at_past p k l ∙ sym (at_past p t (omega (arith, l, n)))))) (cases_lt k (cost p))
