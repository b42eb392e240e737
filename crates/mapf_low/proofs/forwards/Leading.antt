-- Where the cells of an f-level lead.
use Rattle.mapf_low.specs.Walk.{distance_at}
use Rattle.std.proofs.Common.{◌≡◌, ◌⊎◌, ◌↔◌, ℕ, ◌+◌, ◌-◌, ◌<◌, ◌≤◌, List, Option, Some, MatchOption, Contains, inl, inr, subst, sym, ap, ◌∙◌, arith}
use Rattle.mapf_grid.specs.Grid.{IsFree, IsBeside, Next, cells, HasSizes}
use Rattle.mapf_low.specs.Query.{Query}
use Rattle.mapf_low.specs.Forwards.FLevels.{Grows, IsWithin, Admits, Leads}
use Rattle.mapf_low.proofs.forwards.Grown.{grows_as, grows_both, grows_not}
use Rattle.mapf_low.proofs.Places.{free_below}

-- two distances of one cell
pub same_distance : (o : Option ℕ) (m n : ℕ) → o ≡ Some m → o ≡ Some n → m ≡ n
same_distance o m n e f = cc

module _ (query : Query) (t far u : ℕ) where
  -- the neighbours alone
  abbrev FitsBeside : List ℕ → ℕ → Type 0
  FitsBeside neighbours v = Contains neighbours v × Admits query t far u v

  abbrev WithItself : List ℕ → ℕ → Type 0
  WithItself neighbours v = ((u ≡ v) ⊎ Contains neighbours v) × Admits query t far u v

  -- a cell itself is as far from the goal as it is, so for another distance the neighbours are all
  pub neighbours_suffice : (near : ℕ) (neighbours old new : List ℕ) → distance_at query.table u ≡ Some near → ¬ (far ≡ near) →
      Grows (λ v. Contains neighbours v × Admits query t far u v) old new → Grows (λ v. ((u ≡ v) ⊎ Contains neighbours v) × Admits query t far u v) old new
  neighbours_suffice near neighbours old new at other h =
      grows_as (FitsBeside neighbours) (WithItself neighbours) old new (λ v. ((λ p. (inr p.0, p.1)), λ p. from v p.0 p.1)) h
    where
      from : (v : ℕ) → (u ≡ v) ⊎ Contains neighbours v → Admits query t far u v → FitsBeside neighbours v
      from v (inl e) a = absurd (other (same_distance (distance_at query.table v) far near a.0 (subst (λ w. distance_at query.table w ≡ Some near) e at)))
      from v (inr i) a = (i, a)

  -- first the cell itself, then its neighbours
  pub with_itself : (neighbours old mid new : List ℕ) → Grows (λ v. (u ≡ v) × Admits query t far u v) old mid →
      Grows (λ v. Contains neighbours v × Admits query t far u v) mid new → Grows (λ v. ((u ≡ v) ⊎ Contains neighbours v) × Admits query t far u v) old new
  with_itself neighbours old mid new h k =
      grows_as (λ v. ((u ≡ v) × Admits query t far u v) ⊎ FitsBeside neighbours v) (WithItself neighbours) old new (λ v. (to v, λ p. from v p.0 p.1))
      (grows_both (λ v. (u ≡ v) × Admits query t far u v) (FitsBeside neighbours) old mid new h k)
    where
      to : (v : ℕ) → ((u ≡ v) × Admits query t far u v) ⊎ FitsBeside neighbours v → WithItself neighbours v
      to v (inl p) = (inl p.0, p.1)
      to v (inr p) = (inr p.0, p.1)

      from : (v : ℕ) → (u ≡ v) ⊎ Contains neighbours v → Admits query t far u v → ((u ≡ v) × Admits query t far u v) ⊎ FitsBeside neighbours v
      from v (inl e) a = inl (e, a)
      from v (inr i) a = inr (i, a)

module _ (query : Query) (sum : ℕ) where
  -- the steps from a cell are those to itself and to its neighbours
  pub leads_are : (more u near far t : ℕ) (neighbours old new : List ℕ) → IsFree query.grid u → distance_at query.table u ≡ Some near → far + 1 ≡ near + more → t ≡ sum - near + 1 →
      ((v : ℕ) → Contains neighbours v ↔ (IsFree query.grid v × IsBeside query.grid u v)) →
      Grows (λ v. ((u ≡ v) ⊎ Contains neighbours v) × Admits query t far u v) old new → Grows (Leads query sum more u) old new
  leads_are more u near far t neighbours old new free near_is apart time beside h =
      grows_as (λ v. ((u ≡ v) ⊎ Contains neighbours v) × Admits query t far u v) (Leads query sum more u) old new
      (λ v. ((λ p. to v (next v p.0) p.1), from v)) h
    where
      next : (v : ℕ) → (u ≡ v) ⊎ Contains neighbours v → Next query.grid u v
      next v (inl e) = (free, subst (IsFree query.grid) e free, inl e)
      next v (inr i) = let p = (beside v).0 i in (free, p.0, inr p.1)

      back : (v : ℕ) → Next query.grid u v → (u ≡ v) ⊎ Contains neighbours v
      back v (a, b, inl e) = inl e
      back v (a, b, inr s) = inr ((beside v).1 (b, s))

      to : (v : ℕ) → Next query.grid u v → Admits query t far u v → Leads query sum more u v
      to v n a = record { near = near; far = far; near_is = near_is; apart = apart; enters = (n, subst (λ k. Admits query k far u v) time a) }

      from : (v : ℕ) → Leads query sum more u v → ((u ≡ v) ⊎ Contains neighbours v) × Admits query t far u v
      from v l =
          let m : near ≡ l.near = same_distance (distance_at query.table u) near l.near near_is l.near_is in
          let f : l.far ≡ far = omega (arith, m, apart, l.apart) in
          let k : sum - l.near + 1 ≡ t = ap (λ n. sum - n + 1) (sym m) ∙ sym time in
          (back v l.enters.0, subst (λ n. Admits query n far u v) k (subst (λ n. Admits query (sum - l.near + 1) n u v) f l.enters.1))

  -- from the goal no step lowers the distance
  pub leads_not : (u : ℕ) (old : List ℕ) → distance_at query.table u ≡ Some 0 → Grows (Leads query sum 0 u) old old
  leads_not u old at = grows_not (Leads query sum 0 u) old (λ v l. absurd (omega (arith, l.apart, same_distance (distance_at query.table u) 0 l.near at l.near_is)))

  -- a cell that is led to is placed, as the one that leads there
  pub placed_next : (more u v : ℕ) → HasSizes query.grid → IsWithin query sum u → Leads query sum more u v → IsFree query.grid v × (v < cells query.grid) × IsWithin query (sum + more) v
  placed_next more u v sizes near l =
      (l.enters.0.1, free_below query.grid v sizes l.enters.0.1, subst (λ (o : Option ℕ). MatchOption o ⊥ (λ n. n ≤ sum + more)) (sym l.enters.1.0) (omega (arith, l.apart, within)))
    where
      within : l.near ≤ sum
      within = subst (λ (o : Option ℕ). MatchOption o ⊥ (λ n. n ≤ sum)) l.near_is near
