-- The cells from which a step leads to a cell, in ascending order of their numbers: the one above, the one at the left, the cell
-- itself, the one at the right, the one below.
use Rattle.std.proofs.Common.{◌≡◌, ◌↔◌, ℕ, ◌+◌, ◌/◌, ◌<◌, ◌≤◌, List, Bool, Option, Some, None, is_some, true, false, inl, inr, subst, sym, refl, arith}
use Rattle.mapf_grid.specs.Grid.{Grid, IsFree, IsBeside, HasSizes}
use Rattle.mapf_low.specs.Backwards.Tracing.{IsLeft, MayLead}
use Rattle.mapf_low.specs.Best.{IsSmallest}
use Rattle.mapf_low.specs.Query.{Query}
use Rattle.mapf_low.specs.Reached.{ComesFrom}

-- v is the cell above, and so on
abbrev pub IsAbove : Grid → ℕ → ℕ → Type 0
IsAbove g to v = to ≡ v + g.width

abbrev pub IsAtLeft : Grid → ℕ → ℕ → Type 0
IsAtLeft g to v = (to ≡ v + 1) × (to / g.width ≡ v / g.width)

abbrev pub IsSame : Grid → ℕ → ℕ → Type 0
IsSame g to v = to ≡ v

abbrev pub IsAtRight : Grid → ℕ → ℕ → Type 0
IsAtRight g to v = (v ≡ to + 1) × (v / g.width ≡ to / g.width)

abbrev pub IsBelow : Grid → ℕ → ℕ → Type 0
IsBelow g to v = v ≡ to + g.width

-- the number is that of K, where P holds of it
abbrev pub Gives : (K P : ℕ → Type 0) → Option ℕ → Type 0
Gives K P o = (v : ℕ) → (o ≡ Some v) ↔ (K v × P v)

-- where none was given, P holds of none of K
pub none_given : (K P : ℕ → Type 0) (o : Option ℕ) → Gives K P o → is_some o ≡ false → (w : ℕ) → P w → ¬ K w
none_given K P o h e w p k = no (is_some o) e (subst (λ s. is_some s ≡ true) (sym ((h w).1 (k, p))) refl)
  where
    no : (b : Bool) → b ≡ false → b ≡ true → ⊥
    no b e f = absurd (let g : false ≡ true = cc in let m : ◌≡◌ {A = ℕ} 0 1 = cc in omega (arith, m))

-- one that was given, where no other is smaller
pub smallest_given : (K P : ℕ → Type 0) (o : Option ℕ) → Gives K P o → is_some o ≡ true → ((v w : ℕ) → K v → P w → v ≤ w) → IsSmallest P o
smallest_given K P None h e below = absurd (let f : false ≡ true = e in let m : ◌≡◌ {A = ℕ} 0 1 = cc in omega (arith, m))
smallest_given K P (Some m) h e below = let k = (h m).0 refl in (k.1, λ u p. below m u k.0 p)

-- the last that there can be
pub smallest_last : (K P : ℕ → Type 0) (o : Option ℕ) → Gives K P o → ((v w : ℕ) → K v → K w → v ≤ w) → ((w : ℕ) → P w → K w) → IsSmallest P o
smallest_last K P None h same only = λ u p. absurd (let f : None ≡ Some u = (h u).1 (only u p, p) in let m : ◌≡◌ {A = ℕ} 0 1 = cc in omega (arith, m))
smallest_last K P (Some m) h same only = let k = (h m).0 refl in (k.1, λ u p. same m u k.0 (only u p))

module _ (query : Query) (dead : List (ℕ × ℕ)) (t to : ℕ) (g : Grid) (is : g ≡ query.grid) (sizes : HasSizes g) (free : IsFree query.grid to) where
  abbrev Enters : ℕ → Type 0
  Enters v = ComesFrom query (t + 1) (IsLeft query dead t) to v

  -- what is asked of the map about one neighbour
  abbrev OfNeighbour : (Grid → ℕ → ℕ → Type 0) → Option ℕ → Type 0
  OfNeighbour K neighbour = (v : ℕ) → (neighbour ≡ Some v) ↔ (K g to v × IsFree g v)

  -- and of the search about one cell
  abbrev IfLeft : Option ℕ → Option ℕ → Type 0
  IfLeft neighbour o = (v : ℕ) → (o ≡ Some v) ↔ ((neighbour ≡ Some v) × MayLead query dead t v to)

  -- together they give that neighbour, if it may be entered from there
  neighbour_gives : (K : Grid → ℕ → ℕ → Type 0) → ((v : ℕ) → K query.grid to v → IsBeside query.grid v to) → (neighbour o : Option ℕ) → OfNeighbour K neighbour → IfLeft neighbour o → Gives (K query.grid to) Enters o
  neighbour_gives K beside neighbour o of_neighbour if_left v = (to_way, λ h. (if_left v).1 ((here v).1 (h.0, h.1.1.0.0), (h.1.0, h.1.1.1)))
    where
      here : (v : ℕ) → (neighbour ≡ Some v) ↔ (K query.grid to v × IsFree query.grid v)
      here = subst (λ h. (v : ℕ) → (neighbour ≡ Some v) ↔ (K h to v × IsFree h v)) is of_neighbour

      to_way : o ≡ Some v → K query.grid to v × Enters v
      to_way e =
          let a = (if_left v).0 e in
          let b = (here v).0 a.0 in
          (b.0, (a.1.0, ((b.1, free, inr (beside v b.0)), a.1.1)))

  above_gives : (neighbour o : Option ℕ) → OfNeighbour IsAbove neighbour → IfLeft neighbour o → Gives (IsAbove query.grid to) Enters o
  above_gives = neighbour_gives IsAbove (λ v h. inl (inr h))

  left_gives : (neighbour o : Option ℕ) → OfNeighbour IsAtLeft neighbour → IfLeft neighbour o → Gives (IsAtLeft query.grid to) Enters o
  left_gives = neighbour_gives IsAtLeft (λ v h. inl (inl h))

  right_gives : (neighbour o : Option ℕ) → OfNeighbour IsAtRight neighbour → IfLeft neighbour o → Gives (IsAtRight query.grid to) Enters o
  right_gives = neighbour_gives IsAtRight (λ v h. inr (inl h))

  below_gives : (neighbour o : Option ℕ) → OfNeighbour IsBelow neighbour → IfLeft neighbour o → Gives (IsBelow query.grid to) Enters o
  below_gives = neighbour_gives IsBelow (λ v h. inr (inr h))

  same_gives : (o : Option ℕ) → IfLeft (Some to) o → Gives (IsSame query.grid to) Enters o
  same_gives o if_left v = (to_way, λ h. (if_left v).1 (some h.0, (h.1.0, h.1.1.1)))
    where
      some : to ≡ v → Some to ≡ Some v
      some e = cc

      to_way : o ≡ Some v → IsSame query.grid to v × Enters v
      to_way e =
          let a = (if_left v).0 e in
          let f : Some to ≡ Some v = a.0 in
          let s : to ≡ v = cc in
          (s, (a.1.0, ((subst (IsFree query.grid) s free, free, inl (sym s)), a.1.1)))

  module _ (not_above : (w : ℕ) → Enters w → ¬ IsAbove query.grid to w) where
    -- where none comes from above, the one at the left is the smallest
    left_least : (v w : ℕ) → IsAtLeft query.grid to v → Enters w → v ≤ w
    left_least v w k p = grind (arith, p.1.0.2, not_above w p, k.0)

    module _ (not_left : (w : ℕ) → Enters w → ¬ IsAtLeft query.grid to w) where
      -- then the cell itself
      same_least : (v w : ℕ) → IsSame query.grid to v → Enters w → v ≤ w
      same_least v w k p = grind (arith, p.1.0.2, not_above w p, not_left w p, k)

      module _ (not_same : (w : ℕ) → Enters w → ¬ IsSame query.grid to w) where
        -- then the one at the right
        right_least : (v w : ℕ) → IsAtRight query.grid to v → Enters w → v ≤ w
        right_least v w k p = grind (arith, p.1.0.2, not_above w p, not_left w p, not_same w p, k.0, subst (λ h. 0 < h.width) is sizes.some_width)

        -- and in the end only the one below is left
        only_below : ((w : ℕ) → Enters w → ¬ IsAtRight query.grid to w) → (w : ℕ) → Enters w → IsBelow query.grid to w
        only_below not_right w p = grind (arith, p.1.0.2, not_above w p, not_left w p, not_same w p, not_right w p)

  module _ (above above_o left left_o : Option ℕ) (ask_above : OfNeighbour IsAbove above) (if_above : IfLeft above above_o) (no_above : is_some above_o ≡ false) (ask_left : OfNeighbour IsAtLeft left) (if_left : IfLeft left left_o) where
    not_above : (w : ℕ) → Enters w → ¬ IsAbove query.grid to w
    not_above = none_given (IsAbove query.grid to) Enters above_o (above_gives above above_o ask_above if_above) no_above

    gives_left : Gives (IsAtLeft query.grid to) Enters left_o
    gives_left = left_gives left left_o ask_left if_left

    -- the one at the left, where there is none above
    pub second_smallest : is_some left_o ≡ true → IsSmallest (ComesFrom query (t + 1) (IsLeft query dead t) to) left_o
    second_smallest some = smallest_given (IsAtLeft query.grid to) Enters left_o gives_left some (left_least not_above)

    module _ (no_left : is_some left_o ≡ false) (same_o : Option ℕ) (if_same : IfLeft (Some to) same_o) where
      not_left : (w : ℕ) → Enters w → ¬ IsAtLeft query.grid to w
      not_left = none_given (IsAtLeft query.grid to) Enters left_o gives_left no_left

      -- the cell itself, where there is no lower one
      pub third_smallest : is_some same_o ≡ true → IsSmallest (ComesFrom query (t + 1) (IsLeft query dead t) to) same_o
      third_smallest some = smallest_given (IsSame query.grid to) Enters same_o (same_gives same_o if_same) some (same_least not_above not_left)

      module _ (no_same : is_some same_o ≡ false) (right right_o : Option ℕ) (ask_right : OfNeighbour IsAtRight right) (if_right : IfLeft right right_o) where
        not_same : (w : ℕ) → Enters w → ¬ IsSame query.grid to w
        not_same = none_given (IsSame query.grid to) Enters same_o (same_gives same_o if_same) no_same

        gives_right : Gives (IsAtRight query.grid to) Enters right_o
        gives_right = right_gives right right_o ask_right if_right

        -- the one at the right, where there is no lower one
        pub fourth_smallest : is_some right_o ≡ true → IsSmallest (ComesFrom query (t + 1) (IsLeft query dead t) to) right_o
        fourth_smallest some = smallest_given (IsAtRight query.grid to) Enters right_o gives_right some (right_least not_above not_left not_same)

        -- the one below, if any, where there is no other
        pub last_smallest : is_some right_o ≡ false → (below below_o : Option ℕ) → OfNeighbour IsBelow below → IfLeft below below_o → IsSmallest (ComesFrom query (t + 1) (IsLeft query dead t) to) below_o
        last_smallest no_right below below_o ask_below if_below =
            smallest_last (IsBelow query.grid to) Enters below_o (below_gives below below_o ask_below if_below) (λ v w k l. omega (arith, k, l))
            (only_below not_above not_left not_same (none_given (IsAtRight query.grid to) Enters right_o gives_right no_right))
