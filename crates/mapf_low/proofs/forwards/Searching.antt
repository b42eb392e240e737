-- A search by f-levels of one sum, f-level by f-level.
use Rattle.std.proofs.Common.{◌≡◌, ◌⊎◌, ◌↔◌, ℕ, ◌+◌, ◌<◌, ◌≤◌, List, Contains, inl, inr, subst, sym, refl, ⊎_elim, arith}
use Rattle.std.proofs.lemmas.Bool.{cases_lt, cases_order}
use Rattle.mapf_grid.specs.Grid.{IsFree, cells}
use Rattle.mapf_grid.proofs.Decide.{up_to}
use Rattle.mapf_low.specs.Query.{Query, MayEnd}
use Rattle.mapf_low.specs.declared.constraint.Constraint.TheVariants.{Vertex}
use Rattle.mapf_low.specs.Forwards.FLevels.{IsWithin, Leads, SomeLeads, Closes, ArePlaced}
use Rattle.mapf_low.proofs.forwards.FLevelStates.{Origin, begins, follows, AreFLevels, Ground}
use Rattle.mapf_low.proofs.forwards.Leading.{placed_next}

-- the first K f-levels are emptied and the agent can't end in them; C has what is reached so far
pub record IsSearching (query : Query) (nearest : ℕ) (K : ℕ) (C : ℕ → ℕ → Type 0) : Type 0 where
  pub placed : (k v : ℕ) → C k v → IsFree query.grid v × (v < cells query.grid) × IsWithin query (nearest + k) v
  pub sound : (k v : ℕ) → C k v → Origin query nearest C k v
  pub closed : (k more u v : ℕ) → more ≤ 2 → k < K → C k u → Leads query (nearest + k) more u v → C (k + more) v
  pub first : (¬ Contains query.constraints (Vertex query.start 0)) → C 0 query.start
  pub before : (k : ℕ) → k < K → C k query.goal → ¬ MayEnd query (nearest + k)

-- an f-level is closed: what was reached stays
pub record IsClosed (query : Query) (nearest K : ℕ) (old new : List ℕ) (C D : ℕ → ℕ → Type 0) : Type 0 where
  pub closes : Closes query (nearest + K) old new
  pub was : (v : ℕ) → C K v ↔ Contains old v
  pub is : (v : ℕ) → D K v ↔ Contains new v
  pub lower : (k v : ℕ) → k < K → D k v ↔ C k v

-- and the later ones have what it leads to
pub record IsSpilled (query : Query) (nearest K : ℕ) (new : List ℕ) (C D : ℕ → ℕ → Type 0) : Type 0 where
  pub next : (v : ℕ) → D (K + 1) v ↔ (C (K + 1) v ⊎ SomeLeads query (nearest + K) 1 new v)
  pub after : (v : ℕ) → D (K + 2) v ↔ (C (K + 2) v ⊎ SomeLeads query (nearest + K) 2 new v)
  pub past : (k v : ℕ) → K + 2 < k → ¬ D k v

module _ (query : Query) (nearest K : ℕ) (C D : ℕ → ℕ → Type 0) (old new : List ℕ)
    (ground : Ground query nearest) (s : IsSearching query nearest K C) (c : IsClosed query nearest K old new C D) where
  -- what was reached stays, up to this f-level
  stays : (k v : ℕ) → k < K + 1 → C k v → D k v
  stays k v l = up_to (λ n. C n v → D n v) K k l (λ m. (c.lower k v m).1) (λ i. (c.is v).1 (c.closes.keeps v ((c.was v).0 i)))

  origin_stays : (k v : ℕ) → k < K + 1 → Origin query nearest C k v → Origin query nearest D k v
  origin_stays k v l (begins is zero free) = begins is zero free
  origin_stays k v l (follows j more u is i leads) = follows j more u is (stays j u (omega (arith, is, l)) i) leads

  sound_here : (v : ℕ) → Contains old v ⊎ SomeLeads query (nearest + K) 0 new v → Origin query nearest D K v
  sound_here v (inl i) = origin_stays K v (omega arith) (s.sound K v ((c.was v).1 i))
  sound_here v (inr (u, i, leads)) = follows K 0 u (let e : K + 0 ≡ K = omega arith in e) ((c.is u).1 i) leads

  -- each cell up to this f-level comes from somewhere
  sound : (k v : ℕ) → k < K + 1 → D k v → Origin query nearest D k v
  sound k v l =
      up_to (λ n. D n v → Origin query nearest D n v) K k l
      (λ m i. origin_stays k v l (s.sound k v ((c.lower k v m).0 i))) (λ i. sound_here v (c.closes.sound v ((c.is v).0 i)))

  placed : ArePlaced query (nearest + K) new → (k v : ℕ) → k < K + 1 → D k v → IsFree query.grid v × (v < cells query.grid) × IsWithin query (nearest + k) v
  placed h k v l =
      up_to (λ n. D n v → IsFree query.grid v × (v < cells query.grid) × IsWithin query (nearest + n) v) K k l
      (λ m i. s.placed k v ((c.lower k v m).0 i)) (λ i. h v ((c.is v).0 i))

  -- steps that stay within this f-level
  closed_here : (k more u v : ℕ) → more ≤ 2 → k + more < K + 1 → D k u → Leads query (nearest + k) more u v → D (k + more) v
  closed_here k more u v few l =
      up_to (λ n. n + more < K + 1 → D n u → Leads query (nearest + n) more u v → D (n + more) v) K k (omega (arith, l))
      (λ m l i leads. stays (k + more) v l (s.closed k more u v few m ((c.lower k u m).0 i) leads))
      (λ l i leads.
      let z : more ≡ 0 = omega (arith, l) in
      let last : K ≡ K + more = omega (arith, l) in
      subst (λ n. D n v) last ((c.is v).1 (c.closes.closed v (u, (c.is u).0 i, subst (λ n. Leads query (nearest + K) n u v) z leads))))
      l

  first : (¬ Contains query.constraints (Vertex query.start 0)) → D 0 query.start
  first free = stays 0 query.start (omega arith) (s.first free)

  -- the search ends with this f-level
  pub ends_here : ArePlaced query (nearest + K) new → ((k v : ℕ) → K < k → ¬ D k v) → AreFLevels query (nearest + K) nearest D
  ends_here h none = record {
    placed = λ k v i. (placed h k v (within k v i) i).2;
    bounded = λ k v i. omega (arith, within k v i);
    sound = λ k v i. sound k v (within k v i) i;
    closed = λ k more u v few l i leads. closed_here k more u v few (omega (arith, l)) i leads;
    first = λ _ free. first free;
  }
    where
      within : (k v : ℕ) → D k v → k < K + 1
      within k v i = ⊎_elim (λ m. absurd (none k v m i)) (λ m. omega (arith, m)) (cases_lt K k)

  -- one f-level more
  module _ (p : IsSpilled query nearest K new C D) where
    later : (more u v : ℕ) → more ≤ 2 → Contains new u → Leads query (nearest + K) more u v → D (K + more) v
    later more u v few i leads = go (cases_order more 1)
      where
        go : (more ≡ 1) ⊎ ((more < 1) ⊎ (1 < more)) → D (K + more) v
        go (inl e) = subst (λ n. D (K + n) v) (sym e) ((p.next v).1 (inr (u, i, subst (λ n. Leads query (nearest + K) n u v) e leads)))
        go (inr (inl m)) =
            let z : more ≡ 0 = omega (arith, m) in
            let same : K ≡ K + more = omega (arith, m) in
            subst (λ n. D n v) same ((c.is v).1 (c.closes.closed v (u, i, subst (λ n. Leads query (nearest + K) n u v) z leads)))
        go (inr (inr m)) =
            let two : more ≡ 2 = omega (arith, m, few) in
            subst (λ n. D (K + n) v) (sym two) ((p.after v).1 (inr (u, i, subst (λ n. Leads query (nearest + K) n u v) two leads)))

    -- what was reached stays, in all f-levels that there are
    stays_on : (k v : ℕ) → k ≤ K + 2 → C k v → D k v
    stays_on k v l =
        up_to (λ n. C n v → D n v) (K + 2) k (omega (arith, l))
        (λ m. up_to (λ n. C n v → D n v) (K + 1) k (omega (arith, m)) (stays k v) (λ i. (p.next v).1 (inl i))) (λ i. (p.after v).1 (inl i))

    origin_on : (k v : ℕ) → k ≤ K + 2 → Origin query nearest C k v → Origin query nearest D k v
    origin_on k v l (begins is zero free) = begins is zero free
    origin_on k v l (follows j more u is i leads) = follows j more u is (stays_on j u (omega (arith, is, l)) i) leads

    sound_later : (more v : ℕ) → more ≤ 2 → C (K + more) v ⊎ SomeLeads query (nearest + K) more new v → Origin query nearest D (K + more) v
    sound_later more v few (inl i) = origin_on (K + more) v (omega (arith, few)) (s.sound (K + more) v i)
    sound_later more v few (inr (u, i, leads)) = follows K more u refl ((c.is u).1 i) leads

    placed_later : ArePlaced query (nearest + K) new → (more v : ℕ) → C (K + more) v ⊎ SomeLeads query (nearest + K) more new v → IsFree query.grid v × (v < cells query.grid) × IsWithin query (nearest + (K + more)) v
    placed_later h more v (inl i) = s.placed (K + more) v i
    placed_later h more v (inr (u, i, leads)) =
        let q = placed_next query (nearest + K) more u v ground.posed.sizes (h u i).2 leads in
        let e : nearest + K + more ≡ nearest + (K + more) = omega arith in
        (q.0, q.1, subst (λ n. IsWithin query n v) e q.2)

    -- each f-level is this one, the next, the one after, or a lower one
    in_all : (P : ℕ → Type 0) (v : ℕ) → ((k : ℕ) → k < K + 1 → D k v → P k) → (D (K + 1) v → P (K + 1)) → (D (K + 2) v → P (K + 2)) → (k : ℕ) → D k v → P k
    in_all P v lower next after k i =
        let within : k < K + 2 + 1 = ⊎_elim (λ m. absurd (p.past k v m i)) (λ m. omega (arith, m)) (cases_lt (K + 2) k) in
        up_to (λ n. D n v → P n) (K + 2) k within (λ m. up_to (λ n. D n v → P n) (K + 1) k (omega (arith, m)) (lower k) next) after i

    -- so the search goes on
    pub goes_on : ArePlaced query (nearest + K) new → (Contains new query.goal → ¬ MayEnd query (nearest + K)) → IsSearching query nearest (K + 1) D
    goes_on h none = record { placed = λ k v i. all_placed k v i; sound = λ k v i. all_sound k v i; closed = closed; first = first; before = before }
      where
        all_sound : (k v : ℕ) → D k v → Origin query nearest D k v
        all_sound k v =
            in_all (λ n. Origin query nearest D n v) v (λ k. sound k v)
            (λ i. sound_later 1 v (omega arith) ((p.next v).0 i)) (λ i. sound_later 2 v (omega arith) ((p.after v).0 i)) k

        all_placed : (k v : ℕ) → D k v → IsFree query.grid v × (v < cells query.grid) × IsWithin query (nearest + k) v
        all_placed k v =
            in_all (λ n. IsFree query.grid v × (v < cells query.grid) × IsWithin query (nearest + n) v) v (λ k. placed h k v)
            (λ i. placed_later h 1 v ((p.next v).0 i)) (λ i. placed_later h 2 v ((p.after v).0 i)) k

        closed : (k more u v : ℕ) → more ≤ 2 → k < K + 1 → D k u → Leads query (nearest + k) more u v → D (k + more) v
        closed k more u v few l =
            up_to (λ n. D n u → Leads query (nearest + n) more u v → D (n + more) v) K k l
            (λ m i leads. stays_on (k + more) v (omega (arith, m, few)) (s.closed k more u v few m ((c.lower k u m).0 i) leads))
            (λ i leads. later more u v few ((c.is u).0 i) leads)

        before : (k : ℕ) → k < K + 1 → D k query.goal → ¬ MayEnd query (nearest + k)
        before k l =
            up_to (λ n. D n query.goal → ¬ MayEnd query (nearest + n)) K k l (λ m i. s.before k m ((c.lower k query.goal m).0 i)) (λ i. none ((c.is query.goal).0 i))

-- where no f-level is left, those that there are have all that may be reached
pub all_levels : (query : Query) (nearest K bound : ℕ) (C D : ℕ → ℕ → Type 0) → IsSearching query nearest K C → nearest + K ≤ bound + 1 →
    ((k v : ℕ) → k < K → D k v ↔ C k v) → ((k v : ℕ) → K ≤ k → ¬ D k v) → ((k v : ℕ) → K ≤ k → nearest + k ≤ bound → ¬ C k v) → AreFLevels query bound nearest D
all_levels query nearest K bound C D s l lower none over = record {
  placed = λ k v i. (s.placed k v ((lower k v (within k v i)).0 i)).2;
  bounded = λ k v i. omega (arith, within k v i, l);
  sound = λ k v i. origin k v (within k v i) (s.sound k v ((lower k v (within k v i)).0 i));
  closed = λ k more u v few m i leads. stays (k + more) v (omega (arith, m)) (s.closed k more u v few (within k u i) ((lower k u (within k u i)).0 i) leads);
  first = λ m free. stays 0 query.start (omega (arith, m)) (s.first free);
}
  where
    within : (k v : ℕ) → D k v → k < K
    within k v i = ⊎_elim (λ m. m) (λ m. absurd (none k v m i)) (cases_lt k K)

    stays : (k v : ℕ) → nearest + k ≤ bound → C k v → D k v
    stays k v m i = ⊎_elim (λ a. (lower k v a).1 i) (λ a. absurd (over k v a m i)) (cases_lt k K)

    origin : (k v : ℕ) → k < K → Origin query nearest C k v → Origin query nearest D k v
    origin k v m (begins is zero free) = begins is zero free
    origin k v m (follows j more u is i leads) = follows j more u is ((lower j u (omega (arith, is, m))).1 i) leads
