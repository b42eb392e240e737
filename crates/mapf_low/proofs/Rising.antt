-- What the cells of a layer are.
use Rattle.std.proofs.Common.{◌≡◌, ◌⊎◌, ◌↔◌, ℕ, Bool, true, false, List, [], ◌∷◌, ◌++◌, length, take, Option, IsTrue, Contains, inl, inr, subst, sym, ◌∙◌, arith}
use Rattle.mapf_grid.specs.Grid.{Grid, IsFree, IsBeside, Next}
use Rattle.mapf_grid.proofs.Members.{nowhere}
use Rattle.mapf_low.specs.Query.{Query}
use Rattle.mapf_low.specs.Forwards.FLevels.{IsAdded, Grows}
use Rattle.mapf_low.proofs.forwards.Grown.{grows_added, grows_as, grows_both}
use Rattle.mapf_low.specs.declared.constraint.Constraint.TheVariants.{Edge}
use Rattle.mapf_low.specs.Layers.{MayEnter, IsNextLayer}
use Rattle.mapf_low.specs.Reached.{IsUsable, MayStep, ComesFrom}
use Rattle.mapf_low.proofs.Growing.{members_push, all_in_front, FromSome}
use Rattle.mapf_low.proofs.distances.LevelSearch.{Next_back}
use Rattle.mapf_low.specs.Best.{IsSmallest}
use Rattle.mapf_low.proofs.Bests.{smallest_same}

-- the first layer, where the start is open
pub first_open : (fits : ℕ → Type 0) (old new : List ℕ) (start : ℕ) → old ≡ [] → IsAdded start old new → fits start → (v : ℕ) → Contains new v ↔ ((v ≡ start) × fits v)
first_open fits old new start e added o v = (λ i. to ((grown.members v).0 i), λ p. (grown.members v).1 (inr (sym p.0, p.1)))
  where
    grown : Grows (λ w. (start ≡ w) × fits w) old new
    grown = grows_added fits start old new added o

    to : Contains old v ⊎ ((start ≡ v) × fits v) → (v ≡ start) × fits v
    to (inl i) = absurd (nowhere (subst (λ xs. Contains xs v) e i))
    to (inr p) = (sym p.0, p.1)

-- and where it isn't
pub first_closed : (fits : ℕ → Type 0) (layer : List ℕ) (start : ℕ) → layer ≡ [] → ¬ fits start → (v : ℕ) → Contains layer v ↔ ((v ≡ start) × fits v)
first_closed fits layer start e n v = ((λ i. absurd (nowhere (subst (λ xs. Contains xs v) e i))), (λ p. absurd (n (subst fits p.0 p.1))))

-- the free neighbours and the cell itself are where a step may lead
pub all_ways : (g : Grid) (cell : ℕ) (neighbours found : List ℕ) → IsFree g cell → ((v : ℕ) → Contains neighbours v ↔ (IsFree g v × IsBeside g cell v)) → found ≡ neighbours ++ cell ∷ [] → (v : ℕ) → Contains found v ↔ Next g cell v
all_ways g cell neighbours found free h e v = (λ i. to ((members_push neighbours cell v).0 (subst (λ xs. Contains xs v) e i)), λ n. subst (λ xs. Contains xs v) (sym e) ((members_push neighbours cell v).1 (from n)))
  where
    to : Contains neighbours v ⊎ (cell ≡ v) → Next g cell v
    to (inl i) = let p = (h v).0 i in (free, p.0, inr p.1)
    to (inr s) = (free, subst (IsFree g) s free, inl s)

    from : Next g cell v → Contains neighbours v ⊎ (cell ≡ v)
    from (f, fv, inl s) = inr s
    from (f, fv, inr b) = inl ((h v).1 (fv, b))

-- what was met among the steps_from out are the cells that this one may be entered from
pub met_before : (query : Query) (time : ℕ) (P : ℕ → Type 0) (cell : ℕ) (items : List ℕ) (k : ℕ) (o : Option ℕ) → k ≡ length items → ((v : ℕ) → Contains items v ↔ Next query.grid cell v) →
    IsSmallest (λ u. Contains (take k items) u × (P u × (¬ Contains query.constraints (Edge u cell time)))) o → IsSmallest (λ u. ComesFrom query time P cell u) o
met_before query time P cell items k o e steps_from h =
    smallest_same (λ u. Contains (take k items) u × (P u × (¬ Contains query.constraints (Edge u cell time)))) (λ u. ComesFrom query time P cell u) o h
    (λ u. (
      (λ c. ((all_in_front items k u e).1 ((steps_from u).1 (Next_back query.grid u cell c.1.0)), (c.0, c.1.1))),
      (λ m. (m.1.0, (Next_back query.grid cell u ((steps_from u).0 ((all_in_front items k u e).0 m.0)), m.1.1))),
    ))

-- what was added from a free cell and its neighbours
pub expanded_is : (query : Query) (time from : ℕ) (neighbours old mid new : List ℕ) → IsFree query.grid from → ((v : ℕ) → Contains neighbours v ↔ (IsFree query.grid v × IsBeside query.grid from v)) →
    Grows (λ v. (from ≡ v) × MayEnter query time from v) old mid → Grows (λ v. Contains neighbours v × MayEnter query time from v) mid new →
    Grows (λ v. IsUsable query query.bound time v × MayStep query time from v) old new
expanded_is query time from neighbours old mid new free beside h k =
    grows_as (λ v. ((from ≡ v) × MayEnter query time from v) ⊎ (Contains neighbours v × MayEnter query time from v)) (λ v. IsUsable query query.bound time v × MayStep query time from v) old new
    (λ v. (to v, λ p. back v p.0 p.1.0 p.1.1))
    (grows_both (λ v. (from ≡ v) × MayEnter query time from v) (λ v. Contains neighbours v × MayEnter query time from v) old mid new h k)
  where
    to : (v : ℕ) → ((from ≡ v) × MayEnter query time from v) ⊎ (Contains neighbours v × MayEnter query time from v) → IsUsable query query.bound time v × MayStep query time from v
    to v (inl p) = (p.1.0, ((free, subst (IsFree query.grid) p.0 free, inl p.0), p.1.1))
    to v (inr p) = let neighbour = (beside v).0 p.0 in (p.1.0, ((free, neighbour.0, inr neighbour.1), p.1.1))

    back : (v : ℕ) → IsUsable query query.bound time v → Next query.grid from v → (¬ Contains query.constraints (Edge from v time)) →
        ((from ≡ v) × MayEnter query time from v) ⊎ (Contains neighbours v × MayEnter query time from v)
    back v o (f, fv, inl e) n = inl (e, (o, n))
    back v o (f, fv, inr b) n = inr ((beside v).1 (fv, b), (o, n))

-- what was added from each cell of a layer is the next layer
pub next_is : (query : Query) (time : ℕ) (layer reached : List ℕ) → Grows (FromSome (λ u v. IsUsable query query.bound time v × MayStep query time u v) layer) [] reached → IsNextLayer query time layer reached
next_is query time layer reached g v = (λ i. to ((g.members v).0 i), λ p. (g.members v).1 (inr (p.1.0, p.1.1.0, (p.0, p.1.1.1))))
  where
    to : Contains [] v ⊎ FromSome (λ u w. IsUsable query query.bound time w × MayStep query time u w) layer v → IsUsable query query.bound time v × ((u : ℕ) × ComesFrom query time (Contains layer) v u)
    to (inl i) = absurd (nowhere i)
    to (inr (u, i, s)) = (s.0, (u, (i, s.1)))

-- a test that failed
pub not_true : (b : Bool) (P : Type 0) → IsTrue b ↔ P → b ≡ false → ¬ P
not_true b P h e p = absurd (let n : false ≡ true = sym e ∙ h.1 p in let m : ◌≡◌ {A = ℕ} 0 1 = cc in omega (arith, m))
