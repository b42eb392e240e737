-- Tables in which each state has one place.
use Rattle.std.proofs.Common.{◌≡◌, ◌⊎◌, ◌↔◌, ℕ, zero, suc, ◌<◌, List, [], ◌∷◌, set, replicate, length, get_or, Option, None, Some, Contains, Vec, inl, inr, subst, sym, ap, ◌∙◌, arith}
use Rattle.std.proofs.lemmas.Bool.{cases_eq}
use Rattle.std.proofs.lemmas.List.{length-set, get_or-set_other, get_or-set_same, get_or-replicate, get_or_default, length-replicate, with_items_is}
use Rattle.std.specs.Vec.{with_items}
use Rattle.mapf_low.specs.Backwards.Tracing.{IsJoined}
use Rattle.mapf_low.specs.Backwards.StateTable.{IsSize, IsTable, AreAtPlaces, place_of, states_of}

-- the states of a table stand in it
pub states_in : (table : List (Option (ℕ × ℕ))) (s : ℕ × ℕ) → Contains (states_of table) s → Contains table (Some s)
states_in [] s i = absurd (omega (arith, i.1))
states_in (None ∷ table) s i = let j = states_in table s i in (suc j.0, omega (arith, j.1), j.2)
states_in (Some x ∷ table) s (zero, l, e) = (zero, omega arith, ap Some e)
states_in (Some x ∷ table) s (suc k, l, e) = let j = states_in table s (k, omega (arith, l), e) in (suc j.0, omega (arith, j.1), j.2)

-- and no others do
pub in_states : (table : List (Option (ℕ × ℕ))) (s : ℕ × ℕ) → Contains table (Some s) → Contains (states_of table) s
in_states [] s i = absurd (omega (arith, i.1))
in_states (None ∷ table) s (zero, l, e) = absurd (cc)
in_states (None ∷ table) s (suc k, l, e) = in_states table s (k, omega (arith, l), e)
in_states (Some x ∷ table) s (zero, l, e) = (zero, omega arith, cc)
in_states (Some x ∷ table) s (suc k, l, e) = let j = in_states table s (k, omega (arith, l), e) in (suc j.0, omega (arith, j.1), j.2)

some_same : (s x : ℕ × ℕ) → Some s ≡ Some x → s ≡ x
some_same s x e = cc

not_some : (s : ℕ × ℕ) → None ≡ Some s → ⊥
not_some s e = cc

-- where there are places there is a size
pub has_size : (table : List (Option (ℕ × ℕ))) → IsTable table → 0 < length table → IsSize (length table)
has_size table h some = go h.size
  where
    go : (length table ≡ 0) ⊎ IsSize (length table) → IsSize (length table)
    go (inl e) = absurd (omega (arith, some, e))
    go (inr e) = e

-- each place is inside
pub place_below : (count : ℕ) (s : ℕ × ℕ) → IsSize count → place_of count s < count
place_below count s (inl e) = omega (arith, e)
place_below count s (inr e) = omega (arith, e)

-- a place that is the state's own has it exactly if the table does
pub at_place : (table : List (Option (ℕ × ℕ))) (s : ℕ × ℕ) (found : Option (ℕ × ℕ)) → AreAtPlaces table → place_of (length table) s < length table → found ≡ get_or table (place_of (length table) s) found →
    (found ≡ Some s) ↔ Contains (states_of table) s
at_place table s found at l is = (λ e. in_states table s (place_of (length table) s, l, back e), λ i. there (states_in table s i))
  where
    back : found ≡ Some s → get_or table (place_of (length table) s) (Some s) ≡ Some s
    back e = sym (subst (λ f. f ≡ get_or table (place_of (length table) s) f) e is)

    there : Contains table (Some s) → found ≡ Some s
    there (k, m, e) =
        let own : k ≡ place_of (length table) s = at s k m (get_or_default table k None (Some s) m ∙ e) in
        is ∙ get_or_default table (place_of (length table) s) found (Some s) l ∙ subst (λ n. get_or table n (Some s) ≡ Some s) own e

-- a state that was put at its place
module _ (table new : List (Option (ℕ × ℕ))) (s : ℕ × ℕ) (size : IsSize (length table)) (is : new ≡ set table (place_of (length table) s) (Some s)) where
  put_long : length new ≡ length table
  put_long = ap length is ∙ length-set table (place_of (length table) s) (Some s)

  put_inside : place_of (length table) s < length table
  put_inside = place_below (length table) s size

  put_here : (k : ℕ) (d : Option (ℕ × ℕ)) → k ≡ place_of (length table) s → get_or new k d ≡ Some s
  put_here k d e = ap (λ xs. get_or xs k d) is ∙ ap (λ n. get_or (set table (place_of (length table) s) (Some s)) n d) e ∙ get_or-set_same table (place_of (length table) s) (Some s) d put_inside

  put_other : (k : ℕ) (d : Option (ℕ × ℕ)) → (k ≡ place_of (length table) s → ⊥) → get_or new k d ≡ get_or table k d
  put_other k d ne = ap (λ xs. get_or xs k d) is ∙ get_or-set_other table (place_of (length table) s) k (Some s) d ne

  -- leaves each state at its own
  pub put_table : AreAtPlaces table → IsTable new
  put_table at = record {
    size = inr (subst IsSize (sym put_long) size);
    at_places = λ x k l e. subst (λ n. k ≡ place_of n x) (sym put_long) (go x k (omega (arith, l, put_long)) e (cases_eq k (place_of (length table) s)));
  }
    where
      go : (x : ℕ × ℕ) (k : ℕ) → k < length table → get_or new k None ≡ Some x → (k ≡ place_of (length table) s) ⊎ (k ≡ place_of (length table) s → ⊥) → k ≡ place_of (length table) x
      go x k l e (inl h) = let same : s ≡ x = some_same s x (sym (put_here k None h) ∙ e) in h ∙ ap (place_of (length table)) same
      go x k l e (inr ne) = at x k l (sym (put_other k None ne) ∙ e)

  -- and joins those that were there
  pub put_states : (x : ℕ × ℕ) → Contains new (Some x) → Contains table (Some x) ⊎ (s ≡ x)
  put_states x (k, l, e) = go (cases_eq k (place_of (length table) s))
    where
      go : (k ≡ place_of (length table) s) ⊎ (k ≡ place_of (length table) s → ⊥) → Contains table (Some x) ⊎ (s ≡ x)
      go (inl h) = inr (some_same s x (sym (put_here k (Some x) h) ∙ e))
      go (inr ne) = inl (k, omega (arith, l, put_long), sym (put_other k (Some x) ne) ∙ e)

  -- of whom each was one of the old table's before it was widened
  pub put_joined : (old : List (Option (ℕ × ℕ))) → ((x : ℕ × ℕ) → Contains table (Some x) → Contains old (Some x)) → IsJoined s (states_of old) (states_of new)
  put_joined old only x i = go (put_states x (states_in new x i))
    where
      go : Contains table (Some x) ⊎ (s ≡ x) → Contains (states_of old) x ⊎ (s ≡ x)
      go (inl j) = inl (in_states old x (only x j))
      go (inr e) = inr e

module _ (count : ℕ) (table : List (Option (ℕ × ℕ))) (is : table ≡ replicate count None) where
  none_at : (k : ℕ) (d : Option (ℕ × ℕ)) → k < length table → get_or table k d ≡ None
  none_at k d l = ap (λ xs. get_or xs k d) is ∙ get_or-replicate count k None d (omega (arith, l, ap length is, length-replicate {A = Option (ℕ × ℕ)} count None))

  -- a table with no state
  pub none_table : IsSize count → IsTable table
  none_table size = record {
    size = inr (subst IsSize (sym (ap length is ∙ length-replicate count None)) size);
    at_places = λ s k l e. absurd (not_some s (sym (none_at k None l) ∙ e));
  }

  pub none_in : (s : ℕ × ℕ) → ¬ Contains table (Some s)
  none_in s (k, l, e) = not_some s (sym (none_at k (Some s) l) ∙ e)

-- what a write through a slice of the places leaves
pub put_items : {Z : Type 0} (places : Vec (Option (ℕ × ℕ)) Z) (lent new : List (Option (ℕ × ℕ))) (s : ℕ × ℕ) → lent ≡ places.items → new ≡ set lent (place_of (length lent) s) (Some s) →
    (with_items places new).items ≡ set places.items (place_of (length places.items) s) (Some s)
put_items places lent new s is put = with_items_is places new long ∙ here
  where
    here : new ≡ set places.items (place_of (length places.items) s) (Some s)
    here = subst (λ t. new ≡ set t (place_of (length t) s) (Some s)) is put

    long : length new ≡ places.len
    long = ap length here ∙ length-set places.items (place_of (length places.items) s) (Some s) ∙ sym places.ok.0

-- a table of so many places that has only states of these places
pub record HasOnly (places : List (Option (ℕ × ℕ))) (count : ℕ) (table : List (Option (ℕ × ℕ))) : Type 0 where
  pub long : length table ≡ count
  pub table_is : IsTable table
  pub states : (s : ℕ × ℕ) → Contains table (Some s) → Contains places (Some s)

pub only_none : (places : List (Option (ℕ × ℕ))) (count : ℕ) (table : List (Option (ℕ × ℕ))) → IsSize count → table ≡ replicate count None → HasOnly places count table
only_none places count table size is = record {
  long = ap length is ∙ length-replicate count None;
  table_is = none_table count table is size;
  states = λ s i. absurd (none_in count table is s i);
}

-- and one of them more
pub only_more : (places : List (Option (ℕ × ℕ))) (count : ℕ) (table new : List (Option (ℕ × ℕ))) (k : ℕ) (item : Option (ℕ × ℕ)) (s : ℕ × ℕ) → IsSize count → HasOnly places count table → k < length places → item ≡ get_or places k item →
    item ≡ Some s → new ≡ set table (place_of (length table) s) (Some s) → HasOnly places count new
only_more places count table new k item s size h l at some is = record {
  long = put_long table new s fits is ∙ h.long;
  table_is = put_table table new s fits is h.table_is.at_places;
  states = λ x i. go x (put_states table new s fits is x i);
}
  where
    fits : IsSize (length table)
    fits = subst IsSize (sym h.long) size

    go : (x : ℕ × ℕ) → Contains table (Some x) ⊎ (s ≡ x) → Contains places (Some x)
    go x (inl i) = h.states x i
    go x (inr e) = subst (λ y. Contains places (Some y)) e (k, l, sym (subst (λ f. f ≡ get_or places k f) some at))
