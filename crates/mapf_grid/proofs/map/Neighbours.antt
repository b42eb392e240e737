-- The list of a cell's free neighbours, side by side.
use Rattle.std.proofs.Common.{◌≡◌, ◌≢◌, ◌⊎◌, ◌↔◌, ℕ, ◌+◌, ◌<◌, ◌≤◌, ◌/◌, List, [], ◌∷◌, ◌++◌, length, Option, Some, inl, inr, subst, sym, ◌∙◌, ap, ⊎_elim, arith, div-one, get_or, length-append}
use Rattle.std.specs.List.{Contains}
use Rattle.std.specs.List.Sorted.{IsStrictlyIncreasing}
use Rattle.std.proofs.lemmas.Bool.{cases_order, cases_lt}
use Rattle.std.proofs.lemmas.List.{get_or_append_left, get_or_at}
use Rattle.std.proofs.lemmas.List.Elements.{Contains-append_left, Contains-push, Contains-push_cases, Contains-get_or}
use Rattle.mapf_grid.specs.Grid.{Grid, IsFree, IsBeside, Next}
use Rattle.mapf_grid.specs.FreeNeighbours.{PushesFree}

-- a rising list that is pushed something larger
increasing_push : (xs : List ℕ) (c : ℕ) → IsStrictlyIncreasing xs → ((v : ℕ) → Contains xs v → v < c) → IsStrictlyIncreasing (xs ++ c ∷ [])
increasing_push xs c rising larger k h = go (cases_lt (k + 1) (length xs))
  where
    go : (k + 1 < length xs) ⊎ (length xs ≤ k + 1) → get_or (xs ++ c ∷ []) k 0 < get_or (xs ++ c ∷ []) (k + 1) 0
    go (inl inside) =
        let here : k < length xs = omega (arith, inside) in
        rw (get_or_append_left xs (c ∷ []) 0 k here, get_or_append_left xs (c ∷ []) 0 (k + 1) inside) (rising k inside)
    go (inr past) =
        let whole : k + 1 < length xs + 1 = omega (arith, simp (length-append) at h) in
        let here : k < length xs = omega (arith, whole) in
        let last : length xs ≡ k + 1 = omega (arith, whole, past) in
        rw (get_or_append_left xs (c ∷ []) 0 k here, get_or_at xs c [] 0 (k + 1) last) (larger (get_or xs k 0) (Contains-get_or xs k 0 here))

-- the cells of the list are those of which P holds, and they rise
pub record Holds (P : ℕ → Type 0) (items : List ℕ) : Type 0 where
  pub cells : (v : ℕ) → Contains items v ↔ P v
  pub rising : IsStrictlyIncreasing items

pub holds_none : Holds (λ _. ⊥) []
holds_none = record { cells = λ v. ((λ h. omega (arith, h.1)), λ h. absurd h); rising = λ k h. absurd (omega (arith, h)) }

-- a neighbour that lies behind all others joins them, if it is free
pub holds_push : (g : Grid) (P : ℕ → Type 0) (near : Option ℕ) (old new : List ℕ) → Holds P old → PushesFree g near old new →
    ((v c : ℕ) → P v → near ≡ Some c → v < c) → Holds (λ v. P v ⊎ ((near ≡ Some v) × IsFree g v)) new
holds_push g P near old new h (inl (c, is, free, e)) larger =
    subst (Holds (λ v. P v ⊎ ((near ≡ Some v) × IsFree g v))) (sym e) (record {
      cells = λ v. (to v, from v);
      rising = increasing_push old c h.rising (λ v i. larger v c ((h.cells v).0 i) is);
    })
  where
    to : (v : ℕ) → Contains (old ++ c ∷ []) v → P v ⊎ ((near ≡ Some v) × IsFree g v)
    to v i = ⊎_elim (λ i. inl ((h.cells v).0 i)) (λ e. inr (is ∙ ap Some e, subst (IsFree g) e free)) (Contains-push_cases old c v i)

    from : (v : ℕ) → P v ⊎ ((near ≡ Some v) × IsFree g v) → Contains (old ++ c ∷ []) v
    from v (inl p) = Contains-append_left old (c ∷ []) v ((h.cells v).1 p)
    from v (inr p) =
        let same : c ≡ v = cc (is, p.0) in
        subst (Contains (old ++ c ∷ [])) same (Contains-push old c)
holds_push g P near old new h (inr (blocked, e)) larger =
    subst (Holds (λ v. P v ⊎ ((near ≡ Some v) × IsFree g v))) (sym e) (record { cells = λ v. (to v, from v); rising = h.rising })
  where
    to : (v : ℕ) → Contains old v → P v ⊎ ((near ≡ Some v) × IsFree g v)
    to v i = inl ((h.cells v).0 i)

    from : (v : ℕ) → P v ⊎ ((near ≡ Some v) × IsFree g v) → Contains old v
    from v (inl p) = (h.cells v).1 p
    from v (inr p) = absurd (blocked v p.0 p.1)

-- where two neighbouring numbers lie in one row, a row has more than one cell
wide : (w u : ℕ) → 0 < w → (u + 1) / w ≡ u / w → 1 < w
wide w u some same = go (cases_order w 1)
  where
    go : (w ≡ 1) ⊎ ((w < 1) ⊎ (1 < w)) → 1 < w
    go (inl one) =
        let one_row : (u + 1) / 1 ≡ u / 1 = subst (λ n. (u + 1) / n ≡ u / n) one same in
        let next : u + 1 ≡ u = sym (div-one (u + 1)) ∙ (one_row ∙ div-one u) in
        absurd (omega (arith, next))
    go (inr (inl h)) = absurd (omega (arith, h, some))
    go (inr (inr h)) = h

module _ (g : Grid) (cell : ℕ) (above left right below : Option ℕ) (a b c d : List ℕ) where
  -- what the four neighbours are, and how they were pushed, one after another
  pub record FourSides : Type 0 where
    pub width : 0 < g.width
    pub is_above : (v : ℕ) → (above ≡ Some v) ↔ (cell ≡ v + g.width)
    pub is_left : (v : ℕ) → (left ≡ Some v) ↔ ((cell ≡ v + 1) × (cell / g.width ≡ v / g.width))
    pub is_right : (v : ℕ) → (right ≡ Some v) ↔ ((v ≡ cell + 1) × (v / g.width ≡ cell / g.width))
    pub is_below : (v : ℕ) → (below ≡ Some v) ↔ (v ≡ cell + g.width)
    pub one : PushesFree g above [] a
    pub two : PushesFree g left a b
    pub three : PushesFree g right b c
    pub four : PushesFree g below c d

  -- the neighbours pushed so far
  abbrev Above : ℕ → Type 0
  Above v = ⊥ ⊎ ((above ≡ Some v) × IsFree g v)

  abbrev Left : ℕ → Type 0
  Left v = Above v ⊎ ((left ≡ Some v) × IsFree g v)

  abbrev Right : ℕ → Type 0
  Right v = Left v ⊎ ((right ≡ Some v) × IsFree g v)

  -- the list of the four neighbours has the free cells beside the cell, and rises
  pub neighbours_of_cell : FourSides → Holds (λ v. IsFree g v × IsBeside g cell v) d
  neighbours_of_cell s = record { cells = λ v. ((λ i. to v ((all.cells v).0 i)), λ p. (all.cells v).1 (from v p)); rising = all.rising }
    where
      far : (v : ℕ) → (cell ≡ v + 1) × (cell / g.width ≡ v / g.width) → 1 < g.width
      far v h = wide g.width v s.width (subst (λ n. n / g.width ≡ v / g.width) h.0 h.1)

      near : (v : ℕ) → (v ≡ cell + 1) × (v / g.width ≡ cell / g.width) → 1 < g.width
      near v h = wide g.width cell s.width (subst (λ n. n / g.width ≡ cell / g.width) h.0 h.1)

      above_least : (v u : ℕ) → Above v → left ≡ Some u → v < u
      above_least v u (inl h) e = absurd h
      above_least v u (inr h) e =
          let l = (s.is_left u).0 e in
          let w : 1 < g.width = far u l in
          omega (arith, (s.is_above v).0 h.0, l.0, w)

      left_less : (v u : ℕ) → Left v → right ≡ Some u → v < u
      left_less v u (inl (inl h)) e = absurd h
      left_less v u (inl (inr h)) e = omega (arith, (s.is_above v).0 h.0, ((s.is_right u).0 e).0, s.width)
      left_less v u (inr h) e = omega (arith, ((s.is_left v).0 h.0).0, ((s.is_right u).0 e).0)

      right_less : (v u : ℕ) → Right v → below ≡ Some u → v < u
      right_less v u (inl (inl (inl h))) e = absurd h
      right_less v u (inl (inl (inr h))) e = omega (arith, (s.is_above v).0 h.0, (s.is_below u).0 e, s.width)
      right_less v u (inl (inr h)) e = omega (arith, ((s.is_left v).0 h.0).0, (s.is_below u).0 e, s.width)
      right_less v u (inr h) e =
          let r = (s.is_right v).0 h.0 in
          let w : 1 < g.width = near v r in
          omega (arith, r.0, (s.is_below u).0 e, w)

      all : Holds (λ v. Right v ⊎ ((below ≡ Some v) × IsFree g v)) d
      all =
          let h1 = holds_push g (λ _. ⊥) above [] a holds_none s.one (λ v u h e. absurd h) in
          let h2 = holds_push g Above left a b h1 s.two above_least in
          let h3 = holds_push g Left right b c h2 s.three left_less in
          holds_push g Right below c d h3 s.four right_less

      to : (v : ℕ) → Right v ⊎ ((below ≡ Some v) × IsFree g v) → IsFree g v × IsBeside g cell v
      to v (inl (inl (inl (inl h)))) = absurd h
      to v (inl (inl (inl (inr h)))) = (h.1, inr (inr ((s.is_above v).0 h.0)))
      to v (inl (inl (inr h))) = (h.1, inr (inl ((s.is_left v).0 h.0)))
      to v (inl (inr h)) = (h.1, inl (inl ((s.is_right v).0 h.0)))
      to v (inr h) = (h.1, inl (inr ((s.is_below v).0 h.0)))

      from : (v : ℕ) → IsFree g v × IsBeside g cell v → Right v ⊎ ((below ≡ Some v) × IsFree g v)
      from v (free, inl (inl h)) = inl (inr ((s.is_right v).1 h, free))
      from v (free, inl (inr h)) = inr ((s.is_below v).1 h, free)
      from v (free, inr (inl h)) = inl (inl (inr ((s.is_left v).1 h, free)))
      from v (free, inr (inr h)) = inl (inl (inl (inr ((s.is_above v).1 h, free))))

-- no cell is beside itself
pub beside_differs : (g : Grid) (u v : ℕ) → 0 < g.width → IsBeside g u v → u ≢ v
beside_differs g u v some (inl (inl h)) e = omega (arith, h.0, e)
beside_differs g u v some (inl (inr h)) e = omega (arith, h, e, some)
beside_differs g u v some (inr (inl h)) e = omega (arith, h.0, e)
beside_differs g u v some (inr (inr h)) e = omega (arith, h, e, some)

-- from a free cell the free neighbours are the steps to another cell
pub neighbours_are_steps : (g : Grid) (u : ℕ) (items : List ℕ) → 0 < g.width → IsFree g u → Holds (λ v. IsFree g v × IsBeside g u v) items →
    (v : ℕ) → Contains items v ↔ (Next g u v × (u ≢ v))
neighbours_are_steps g u items some free h v = (to, from)
  where
    to : Contains items v → Next g u v × (u ≢ v)
    to i = let p = (h.cells v).0 i in ((free, p.0, inr p.1), beside_differs g u v some p.1)

    from : Next g u v × (u ≢ v) → Contains items v
    from ((f, fv, inl e), ne) = absurd (ne e)
    from ((f, fv, inr b), ne) = (h.cells v).1 (fv, b)

-- a neighbour that counts only if it is free
pub free_neighbour : (near kept : Option ℕ) (P F : ℕ → Type 0) → ((v : ℕ) → (near ≡ Some v) ↔ P v) →
    ((v : ℕ) → (kept ≡ Some v) ↔ ((near ≡ Some v) × F v)) → (v : ℕ) → (kept ≡ Some v) ↔ (P v × F v)
free_neighbour near kept P F is free v =
    (λ e. let f = (free v).0 e in ((is v).0 f.0, f.1), λ h. (free v).1 ((is v).1 h.0, h.1))
