-- The states that a search takes, listed f-level by f-level.
use Rattle.std.proofs.Common.{◌≡◌, ◌≢◌, ◌⊎◌, ℕ, ◌+◌, ◌-◌, ◌<◌, ◌≤◌, false, true, eqb, List, [], ◌∷◌, ◌++◌, length, take, get_or, Option, Some, None, Contains, inl, inr, subst, sym, refl, ap, ◌∙◌, ⊎_elim, arith}
use Rattle.std.specs.Option.{unwrap_or, option_map}
use Rattle.std.specs.List.{IsDistinct, AllPairs}
use Rattle.std.proofs.lemmas.Bool.{cases_lt, eq-eqb}
use Rattle.std.proofs.lemmas.List.{get_or-take}
use Rattle.std.proofs.lemmas.List.Quantifiers.{all_pairs_push}
use Rattle.std.proofs.lemmas.Map.Keys.{apart_from_distinct}
use Rattle.mapf_plan.specs.Path.{cost, at}
use Rattle.mapf_low.specs.Query.{Query, IsPosed, HasDistances, IsFound}
use Rattle.mapf_low.specs.Constraints.{IsAllowed}
use Rattle.mapf_low.specs.OwnPath.{IsOwnPath}
use Rattle.mapf_low.specs.Walk.{distance_at}
use Rattle.mapf_low.specs.Forwards.FLevels.{level_at, InFLevels, IsSearched}
use Rattle.mapf_low.specs.Forwards.Taken.{HasSum, Lists, AreTakenBy}
use Rattle.mapf_low.proofs.Growing.{members_push, members_more}
use Rattle.mapf_low.proofs.OwnPaths.{same_own}
use Rattle.mapf_low.proofs.FirstArrival.{reached}
use Rattle.mapf_low.proofs.forwards.FLevelStates.{match_at, match_to, match_entry}
use Rattle.mapf_low.proofs.forwards.Found.{setting}

-- two sums of one state are one
same_sum : (table : List (Option ℕ)) (s : ℕ × ℕ) (P Q : ℕ → Type 0) → HasSum table P s → HasSum table Q s → (m : ℕ) × P m × Q m
same_sum table s P Q p q =
    let n = match_entry (distance_at table s.0) (λ n. P (s.1 + n)) p in
    (s.1 + n.0, n.2, match_at (distance_at table s.0) n.0 (λ n. Q (s.1 + n)) n.1 q)

-- what is known of a sum
pub sum_as : (table : List (Option ℕ)) (s : ℕ × ℕ) (P Q : ℕ → Type 0) → ((m : ℕ) → P m → Q m) → HasSum table P s → HasSum table Q s
sum_as table s P Q f p =
    let n = match_entry (distance_at table s.0) (λ n. P (s.1 + n)) p in
    match_to (distance_at table s.0) n.0 (λ n. Q (s.1 + n)) n.1 (f (s.1 + n.0) n.2)

-- one state more of an f-level
pub lists_more : (table : List (Option ℕ)) (sum : ℕ) (level : List ℕ) (old mid new : List (ℕ × ℕ)) (k x distance : ℕ) → k < length level → x ≡ get_or level k x → IsDistinct eqb level →
    distance_at table x ≡ Some distance → distance ≤ sum → ((s : ℕ × ℕ) → Contains old s → HasSum table (λ m. m < sum) s) → Lists table sum (take k level) old mid → new ≡ mid ++ (x, sum - distance) ∷ [] →
    Lists table sum (take (k + 1) level) old new
lists_more table sum level old mid new k x distance l is distinct near within lower h e = subst (Lists table sum (take (k + 1) level) old) (sym e) (record {
  once = all_pairs_push ◌≢◌ mid (x, sum - distance) h.once (λ j d m same. fresh (subst (Contains mid) same (j, m, get_or_known j d m)));
  members = λ s. (λ i. to s ((members_push mid (x, sum - distance) s).0 i), λ p. (members_push mid (x, sum - distance) s).1 (from s p));
})
  where
    get_or_known : (j : ℕ) (d : ℕ × ℕ) → j < length mid → get_or mid j (get_or mid j d) ≡ get_or mid j d
    get_or_known j d m = Rattle.std.proofs.lemmas.List.get_or_default mid j (get_or mid j d) d m

    has_sum : HasSum table (λ m. m ≡ sum) (x, sum - distance)
    has_sum = match_to (distance_at table x) distance (λ n. sum - distance + n ≡ sum) near (omega (arith, within))

    -- the cell doesn't stand there before
    not_before : ¬ Contains (take k level) x
    not_before (j, m, at) =
        let short : j < k = omega (arith, m, Rattle.std.proofs.lemmas.List.length-take k level) in
        let here : get_or level j x ≡ x = sym (get_or-take k level j x short) ∙ at in
        let apart : eqb (get_or level j x) (get_or level k x) ≡ false = apart_from_distinct eqb level j k x distinct short l in
        let one : eqb (get_or level j x) (get_or level k x) ≡ true = eq-eqb (get_or level j x) (get_or level k x) (here ∙ is) in
        absurd (let f : false ≡ true = sym apart ∙ one in cc)

    new_here : Contains old (x, sum - distance) ⊎ (Contains (take k level) x × HasSum table (λ m. m ≡ sum) (x, sum - distance)) → ⊥
    new_here (inl i) = let m = same_sum table (x, sum - distance) (λ m. m < sum) (λ m. m ≡ sum) (lower (x, sum - distance) i) has_sum in omega (arith, m.1, m.2)
    new_here (inr p) = not_before p.0

    fresh : ¬ Contains mid (x, sum - distance)
    fresh i = new_here ((h.members (x, sum - distance)).0 i)

    wider : (s : ℕ × ℕ) → Contains old s ⊎ (Contains (take k level) s.0 × HasSum table (λ m. m ≡ sum) s) → Contains old s ⊎ (Contains (take (k + 1) level) s.0 × HasSum table (λ m. m ≡ sum) s)
    wider s (inl i) = inl i
    wider s (inr p) = inr ((members_more level k x s.0 l is).1 (inl p.0), p.1)

    to : (s : ℕ × ℕ) → Contains mid s ⊎ ((x, sum - distance) ≡ s) → Contains old s ⊎ (Contains (take (k + 1) level) s.0 × HasSum table (λ m. m ≡ sum) s)
    to s (inl i) = wider s ((h.members s).0 i)
    to s (inr same) =
        let P : ℕ × ℕ → Type 0 = λ s. Contains old s ⊎ (Contains (take (k + 1) level) s.0 × HasSum table (λ m. m ≡ sum) s) in
        subst P same (inr ((members_more level k x x l is).1 (inr refl), has_sum))

    at_sum : (s : ℕ × ℕ) → x ≡ s.0 → HasSum table (λ m. m ≡ sum) s → (x, sum - distance) ≡ s
    at_sum (v, t) same p =
        let n : t + distance ≡ sum = match_at (distance_at table v) distance (λ n. t + n ≡ sum) (subst (λ w. distance_at table w ≡ Some distance) same near) p in
        let time : sum - distance ≡ t = omega (arith, n) in
        cc (same, time)

    either : (s : ℕ × ℕ) → Contains (take k level) s.0 ⊎ (x ≡ s.0) → HasSum table (λ m. m ≡ sum) s → Contains mid s ⊎ ((x, sum - distance) ≡ s)
    either s (inl i) p = inl ((h.members s).1 (inr (i, p)))
    either s (inr same) p = inr (at_sum s same p)

    from : (s : ℕ × ℕ) → Contains old s ⊎ (Contains (take (k + 1) level) s.0 × HasSum table (λ m. m ≡ sum) s) → Contains mid s ⊎ ((x, sum - distance) ≡ s)
    from s (inl i) = inl ((h.members s).1 (inl i))
    from s (inr p) = either s ((members_more level k x s.0 l is).0 p.0) p.1

-- the states of the first so many f-levels
pub record ListsFirst (table : List (Option ℕ)) (nearest : ℕ) (levels : List (List ℕ)) (count : ℕ) (states : List (ℕ × ℕ)) : Type 0 where
  pub once : AllPairs ◌≢◌ states
  pub sound : (s : ℕ × ℕ) → Contains states s → HasSum table (λ m. m < nearest + count) s
  pub complete : (k : ℕ) (s : ℕ × ℕ) → k < count → Contains (level_at levels k) s.0 → HasSum table (λ m. m ≡ nearest + k) s → Contains states s

module _ (table : List (Option ℕ)) (nearest : ℕ) (levels : List (List ℕ)) where
  pub lists_next : (count : ℕ) (level : List ℕ) (states new : List (ℕ × ℕ)) → level ≡ level_at levels count → ListsFirst table nearest levels count states → Lists table (nearest + count) level states new → ListsFirst table nearest levels (count + 1) new
  lists_next count level states new is h more = record { once = more.once; sound = λ s i. sound s ((more.members s).0 i); complete = complete }
    where
      sound : (s : ℕ × ℕ) → Contains states s ⊎ (Contains level s.0 × HasSum table (λ m. m ≡ nearest + count) s) → HasSum table (λ m. m < nearest + (count + 1)) s
      sound s (inl i) = sum_as table s (λ m. m < nearest + count) (λ m. m < nearest + (count + 1)) (λ m l. omega (arith, l)) (h.sound s i)
      sound s (inr p) = sum_as table s (λ m. m ≡ nearest + count) (λ m. m < nearest + (count + 1)) (λ m e. omega (arith, e)) p.1

      complete : (k : ℕ) (s : ℕ × ℕ) → k < count + 1 → Contains (level_at levels k) s.0 → HasSum table (λ m. m ≡ nearest + k) s → Contains new s
      complete k s l i p = go (cases_lt k count)
        where
          go : (k < count) ⊎ (count ≤ k) → Contains new s
          go (inl m) = (more.members s).1 (inl (h.complete k s m i p))
          go (inr m) =
              let e : k ≡ count = omega (arith, l, m) in
              let here : Contains level s.0 = subst (λ xs. Contains xs s.0) (sym is) (subst (λ n. Contains (level_at levels n) s.0) e i) in
              (more.members s).1 (inr (here, subst (λ n. HasSum table (λ m. m ≡ nearest + n) s) e p))

-- the states of all f-levels are those that the search takes
pub all_taken : (query : Query) (nearest : ℕ) (levels : List (List ℕ)) (end : Option ℕ) (found : Option (List ℕ)) (states : List (ℕ × ℕ)) (count : ℕ) →
    IsPosed query → HasDistances query → IsSearched query nearest levels end → IsFound query found → end ≡ option_map cost found →
    count ≡ length levels → ListsFirst query.table nearest levels count states → AreTakenBy query states
all_taken query nearest levels end found states count posed distances searched own ends whole h =
    record { once = h.once; near = near; near_where_none = near_where_none; path = path }
  where
    within : (s : ℕ × ℕ) → Contains states s → HasSum query.table (λ m. m ≤ unwrap_or end query.bound) s
    within s i = sum_as query.table s (λ m. m < nearest + count) (λ m. m ≤ unwrap_or end query.bound) (λ m l. omega (arith, l, searched.few, whole)) (h.sound s i)

    -- the bound is the cost of the own path
    own_cost : (p : List ℕ) → IsOwnPath query.grid query.start query.goal query.bound query.constraints p → unwrap_or end query.bound ≡ cost p
    own_cost p mine = go found own ends
      where
        go : (o : Option (List ℕ)) → IsFound query o → end ≡ option_map cost o → unwrap_or end query.bound ≡ cost p
        go None none e = absurd (none p mine.member)
        go (Some q) its e = ap (λ o. unwrap_or o query.bound) e ∙ ap cost (same_own query.grid query.start query.goal query.bound query.constraints q p its mine)

    -- or the bound
    none_bound : ((p : List ℕ) → ¬ IsAllowed query.grid query.start query.goal query.bound query.constraints p) → unwrap_or end query.bound ≡ query.bound
    none_bound none = go found own ends
      where
        go : (o : Option (List ℕ)) → IsFound query o → end ≡ option_map cost o → unwrap_or end query.bound ≡ query.bound
        go None _ e = ap (λ o. unwrap_or o query.bound) e
        go (Some q) its e = absurd (none q its.member)

    near : (p : List ℕ) → IsOwnPath query.grid query.start query.goal query.bound query.constraints p → (s : ℕ × ℕ) → Contains states s → HasSum query.table (λ m. m ≤ cost p) s
    near p mine s i = subst (λ n. HasSum query.table (λ m. m ≤ n) s) (own_cost p mine) (within s i)

    near_where_none : ((p : List ℕ) → ¬ IsAllowed query.grid query.start query.goal query.bound query.constraints p) → (s : ℕ × ℕ) → Contains states s → HasSum query.table (λ m. m ≤ query.bound) s
    near_where_none none s i = subst (λ n. HasSum query.table (λ m. m ≤ n) s) (none_bound none) (within s i)

    -- what is in an f-level is listed
    listed : (t v : ℕ) → InFLevels query nearest levels t v → Contains states (v, t)
    listed t v i =
        let n = match_entry (distance_at query.table v) (λ n. (nearest ≤ t + n) × Contains (level_at levels (t + n - nearest)) v) i in
        let inside : t + n.0 - nearest < length levels = is_inside (t + n.0 - nearest) v n.2.1 in
        h.complete (t + n.0 - nearest) (v, t) (omega (arith, inside, whole)) n.2.1 (match_to (distance_at query.table v) n.0 (λ m. t + m ≡ nearest + (t + n.0 - nearest)) n.1 (omega (arith, n.2.0)))
      where
        is_inside : (k v : ℕ) → Contains (level_at levels k) v → k < length levels
        is_inside k v i = ⊎_elim (λ l. l) (λ l. absurd (Rattle.mapf_low.proofs.forwards.FLevelLists.past_all levels k v l i)) (cases_lt k (length levels))

    path : (p : List ℕ) → IsOwnPath query.grid query.start query.goal query.bound query.constraints p → (t : ℕ) → t ≤ cost p → Contains states (at p t, t)
    path p mine t l =
        let allowed : IsAllowed query.grid query.start query.goal (unwrap_or end query.bound) query.constraints p = record { path = mine.member.path; within = omega (arith, own_cost p mine); obeys = mine.member.obeys } in
        listed t (at p t) (reached query (unwrap_or end query.bound) (InFLevels query nearest levels) (cost p + 1) (setting query nearest levels posed distances end searched (cost p + 1)) p allowed t l (omega (arith, l)))

-- where there is no path, none need be taken
pub none_taken : (query : Query) (states : List (ℕ × ℕ)) → states ≡ [] → ((p : List ℕ) → ¬ IsAllowed query.grid query.start query.goal query.bound query.constraints p) → AreTakenBy query states
none_taken query states is none =
    subst (AreTakenBy query) (sym is) (record {
      once = λ i j d l m. absurd (omega (arith, m));
      near = λ p own. absurd (none p own.member);
      near_where_none = λ _ s i. absurd (omega (arith, i.1));
      path = λ p own. absurd (none p own.member);
    })
