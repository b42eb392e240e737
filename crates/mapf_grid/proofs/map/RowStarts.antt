-- Rows one after the other: which of their cells begin one.
use Rattle.std.proofs.Common.{◌≡◌, ◌⊎◌, ◌↔◌, ℕ, ◌+◌, ◌-◌, ◌*◌, ◌/◌, ◌%◌, ◌<◌, ◌≤◌, List, Bool, true, false, [], ◌∷◌, ◌++◌, length, get_or, inl, inr, sym, ◌∙◌, subst, ap, arith}
use Rattle.std.proofs.lemmas.Bool.{cases_lt}
use Rattle.std.proofs.lemmas.List.{get_or_append_left}
use Rattle.std.proofs.Math.Seq.{get_or-append_seam}
use Rattle.std.proofs.lemmas.Nat.{mod-mul-add}
use Rattle.std.proofs.Math.Nat.{mod-add-div}
use Rattle.mapf_grid.specs.RowStarts.{AreRowStarts}

-- behind whole rows a number is in its row's column
mod-whole_add : (n w r : ℕ) → n % w ≡ 0 → r < w → (n + r) % w ≡ r
mod-whole_add n w r whole small =
    let times : n ≡ n / w * w = omega (arith, whole, mod-add-div n w) in
    subst (λ k. (k + r) % w ≡ r) (sym times) (mod-mul-add (n / w) w r small)

-- whole rows and one more
pub row_starts-row : (w : ℕ) (old new : List Bool) → 0 < w → length old % w ≡ 0 → AreRowStarts w old → length new ≡ length old + w →
    ((k : ℕ) → k < length old + 1 → get_or new k false ≡ get_or (old ++ true ∷ []) k false) →
    ((k : ℕ) → length old + 1 ≤ k → k < length new → get_or new k false ≡ false) → AreRowStarts w new
row_starts-row w old new wide whole starts long first rest c inside = go (cases_lt c (length old))
  where
    go : (c < length old) ⊎ (length old ≤ c) → (get_or new c false ≡ true) ↔ (c % w ≡ 0)
    go (inl before) =
        let same : get_or new c false ≡ get_or old c false =
        first c (omega (arith, before)) ∙ get_or_append_left old (true ∷ []) false c before in
        rw same (starts c before)
    go (inr past) = behind (cases_lt (length old) c)
      where
        behind : (length old < c) ⊎ (c ≤ length old) → (get_or new c false ≡ true) ↔ (c % w ≡ 0)
        behind (inl later) =
            let column : c % w ≡ c - length old =
            subst (λ k. k % w ≡ c - length old) (omega (arith, later)) (mod-whole_add (length old) w (c - length old) whole (omega (arith, later, long, inside))) in
            let none : get_or new c false ≡ false = rest c (omega (arith, later)) inside in
            (λ e. absurd (cc (e, none)), λ e. absurd (omega (arith, e, column, later)))
        behind (inr here) =
            let is : c ≡ length old = omega (arith, here, past) in
            let begins : get_or new c false ≡ true =
            first c (omega (arith, is)) ∙ subst (λ k. get_or (old ++ true ∷ []) k false ≡ true) (sym is) (get_or-append_seam old true [] false) in
            (λ e. ap (λ k. k % w) is ∙ whole, λ e. begins)
