-- Which cells are unseen, as marks tell it.
use Rattle.std.proofs.Common.{◌≡◌, ◌≢◌, ◌⊎◌, ◌↔◌, ℕ, zero, suc, ◌<◌, ◌≤◌, Bool, true, false, List, [], ◌∷◌, length, map, replicate, Option, Some, None, get_or, set, inl, inr, refl, sym, ◌∙◌, ap, get_or-set_same, get_or-set_other}
use Rattle.std.proofs.Math.ListN.{get_or-map}
use Rattle.std.proofs.lemmas.Bool.{cases_eq, cases_lt}
use Rattle.std.proofs.lemmas.List.{get_or_past, map-set}
use Rattle.std.proofs.lemmas.Option.{get_or_from_slice_get, slice_get-get_or}
use Rattle.mapf_grid.specs.Grid.{Grid, IsFree}
use Rattle.mapf_low.specs.Distances.Mark.{Mark, blocked, seen, first_mark, distance_of}
use Rattle.mapf_low.specs.Distances.Levels.{IsUnseen, TellUnseen, distances_of}

-- before a search no cell has a distance
pub first_none : (free : List Bool) → distances_of (map first_mark free) ≡ replicate (length free) None
first_none [] = refl
first_none (true ∷ free) = ap (λ ds. None ∷ ds) (first_none free)
first_none (false ∷ free) = ap (λ ds. None ∷ ds) (first_none free)

-- nor where all cells count as blocked
pub distances_blocked : (n : ℕ) → distances_of (replicate n blocked) ≡ replicate n None
distances_blocked zero = refl
distances_blocked (suc n) = ap (λ ds. None ∷ ds) (distances_blocked n)

-- what a mark tells is at its place
pub distance_at_mark : (marks : List Mark) (c : ℕ) → get_or (distances_of marks) c None ≡ distance_of (get_or marks c blocked)
distance_at_mark marks c = get_or-map distance_of marks c blocked

-- before a search the free cells are unseen
pub tell_first : (g : Grid) → TellUnseen g (map first_mark g.free)
tell_first g c = go (get_or g.free c false) refl
  where
    is : (b : Bool) → get_or g.free c false ≡ b → get_or (map first_mark g.free) c blocked ≡ first_mark b
    is b e = get_or-map first_mark g.free c false ∙ ap first_mark e

    go : (b : Bool) → get_or g.free c false ≡ b → IsUnseen (map first_mark g.free) c ↔ (IsFree g c × (get_or (distances_of (map first_mark g.free)) c None ≡ None))
    go true e = (λ u. (free (cases_lt c (length g.free)), distance_at_mark _ c ∙ ap distance_of (is true e)), λ h. is true e)
      where
        free : (c < length g.free) ⊎ (length g.free ≤ c) → IsFree g c
        free (inl inside) = slice_get-get_or g.free c false inside ∙ ap Some e
        free (inr past) =
            let none : get_or g.free c false ≡ false = get_or_past g.free c false past in
            absurd (cc (none, e))
    go false e = (λ u. absurd (cc (u, is false e)), λ h. absurd (blocked_one h.0))
      where
        blocked_one : IsFree g c → ⊥
        blocked_one free =
            let yes : get_or g.free c false ≡ true = get_or_from_slice_get g.free c true false free in
            cc (yes, e)

-- an unseen cell has a mark
pub unseen_inside : (marks : List Mark) (c : ℕ) → IsUnseen marks c → c < length marks
unseen_inside marks c u = go (cases_lt c (length marks))
  where
    go : (c < length marks) ⊎ (length marks ≤ c) → c < length marks
    go (inl inside) = inside
    go (inr past) =
        let none : get_or marks c blocked ≡ blocked = get_or_past marks c blocked past in
        absurd (cc (u, none))

-- the distances after a cell was seen
pub distances_seen : (marks : List Mark) (cell d : ℕ) → distances_of (set marks cell (seen d)) ≡ set (distances_of marks) cell (Some d)
distances_seen marks cell d = map-set distance_of marks cell (seen d)

-- a cell that was seen is unseen no more
pub tell_seen : (g : Grid) (marks : List Mark) (cell d : ℕ) → IsUnseen marks cell → TellUnseen g marks → TellUnseen g (set marks cell (seen d))
tell_seen g marks cell d u tell c = go (cases_eq c cell)
  where
    inside : cell < length marks
    inside = unseen_inside marks cell u

    go : (c ≡ cell) ⊎ (c ≢ cell) → IsUnseen (set marks cell (seen d)) c ↔ (IsFree g c × (get_or (distances_of (set marks cell (seen d))) c None ≡ None))
    go (inl e) =
        let mark : get_or (set marks cell (seen d)) c blocked ≡ seen d = ap (λ k. get_or (set marks cell (seen d)) k blocked) e ∙ get_or-set_same marks cell (seen d) blocked inside in
        let distance : get_or (distances_of (set marks cell (seen d))) c None ≡ Some d = distance_at_mark _ c ∙ ap distance_of mark in
        (λ v. absurd (cc (v, mark)), λ h. absurd (cc (h.1, distance)))
    go (inr ne) =
        let mark : get_or (set marks cell (seen d)) c blocked ≡ get_or marks c blocked = get_or-set_other marks cell c (seen d) blocked ne in
        let distance : get_or (distances_of (set marks cell (seen d))) c None ≡ get_or (distances_of marks) c None =
        distance_at_mark _ c ∙ ap distance_of mark ∙ sym (distance_at_mark marks c) in
        (λ v. let h = (tell c).0 (sym mark ∙ v) in (h.0, distance ∙ h.1), λ h. mark ∙ (tell c).1 (h.0, sym distance ∙ h.1))

-- a free cell that isn't unseen has a distance
pub marked_or : (g : Grid) (marks : List Mark) (c : ℕ) → TellUnseen g marks → IsFree g c → (IsUnseen marks c → ⊥) →
    (m : ℕ) × (get_or (distances_of marks) c None ≡ Some m)
marked_or g marks c tell free sees = go (get_or (distances_of marks) c None) refl
  where
    go : (o : Option ℕ) → get_or (distances_of marks) c None ≡ o → (m : ℕ) × (get_or (distances_of marks) c None ≡ Some m)
    go None e = absurd (sees ((tell c).1 (free, e)))
    go (Some m) e = (m, e)
