-- A table of distances and a list of cells to come, as cells are marked one after another.
use Rattle.std.proofs.Common.{◌≡◌, ◌≢◌, ◌⊎◌, ◌↔◌, ℕ, ◌+◌, ◌/◌, ◌^◌, ◌<◌, true, false, cond, List, [], ◌∷◌, ◌++◌, length, take, Option, Some, None, get_or, set, inl, inr, refl, sym, ◌∙◌, subst, arith, get_or-set_same, get_or-set_other}
use Rattle.std.specs.Option.{is_none, is_some}
use Rattle.std.specs.List.{Contains}
use Rattle.std.proofs.lemmas.Bool.{cases_eq}
use Rattle.std.proofs.lemmas.List.{length_push, length-set}
use Rattle.std.proofs.lemmas.List.Elements.{Contains-append_left, Contains-push, Contains-push_cases}
use Rattle.std.proofs.lemmas.List.Sums.{sum_by-set}
use Rattle.mapf_grid.specs.Grid.{Grid, IsFree, HasSizes}
use Rattle.mapf_low.specs.Distances.Levels.{IsFreeNeighbour, unmarked, Marks}
use Rattle.mapf_low.proofs.Growing.{FromSome, from_more}
use Rattle.mapf_low.proofs.Places.{few_cells, free_below}

-- an entry of the table that is nothing
pub none_from_test : (o : Option ℕ) → is_some o ≡ false → o ≡ None
none_from_test None e = refl
none_from_test (Some m) e = cc

-- an entry of the table that is a distance
pub some_from_test : (o : Option ℕ) → is_some o ≡ true → (m : ℕ) × (o ≡ Some m)
some_from_test None e = cc
some_from_test (Some m) e = (m, refl)

-- where each cell of the set has a distance, nothing is to be done
pub Marks-known : (S : ℕ → Type 0) (distance : ℕ) (table : List (Option ℕ)) (cells : List ℕ) → ((c : ℕ) → S c → (m : ℕ) × (get_or table c None ≡ Some m)) →
    Marks S distance table table cells cells
Marks-known S distance table cells known = record {
  same_length = refl;
  kept = λ c m h. h;
  marked = known;
  fresh = λ c m h. inl h;
  listed = λ c h. inl h;
  stays = λ c h. h;
  count = refl;
}

-- a cell that has none is marked and listed
pub Marks-first : (cell distance : ℕ) (table : List (Option ℕ)) (cells : List ℕ) → cell < length table → get_or table cell None ≡ None →
    Marks (◌≡◌ cell) distance table (set table cell (Some distance)) cells (cells ++ cell ∷ [])
Marks-first cell distance table cells inside none = record {
  same_length = length-set table cell (Some distance);
  kept = kept;
  marked = λ c e. (distance, here c e);
  fresh = fresh;
  listed = λ c h. listed c (Contains-push_cases cells cell c h);
  stays = λ c h. Contains-append_left cells (cell ∷ []) c h;
  count = count;
}
  where
    here : (c : ℕ) → cell ≡ c → get_or (set table cell (Some distance)) c None ≡ Some distance
    here c e = subst (λ k. get_or (set table cell (Some distance)) k None ≡ Some distance) e (get_or-set_same table cell (Some distance) None inside)

    there : (c : ℕ) → c ≢ cell → get_or (set table cell (Some distance)) c None ≡ get_or table c None
    there c ne = get_or-set_other table cell c (Some distance) None ne

    kept : (c m : ℕ) → get_or table c None ≡ Some m → get_or (set table cell (Some distance)) c None ≡ Some m
    kept c m h = go (cases_eq c cell)
      where
        go : (c ≡ cell) ⊎ (c ≢ cell) → get_or (set table cell (Some distance)) c None ≡ Some m
        go (inl e) =
            let old : get_or table cell None ≡ Some m = subst (λ k. get_or table k None ≡ Some m) e h in
            absurd (cc (old, none))
        go (inr ne) = there c ne ∙ h

    fresh : (c m : ℕ) → get_or (set table cell (Some distance)) c None ≡ Some m →
        (get_or table c None ≡ Some m) ⊎ ((m ≡ distance) × (cell ≡ c) × Contains (cells ++ cell ∷ []) c)
    fresh c m h = go (cases_eq c cell)
      where
        go : (c ≡ cell) ⊎ (c ≢ cell) → (get_or table c None ≡ Some m) ⊎ ((m ≡ distance) × (cell ≡ c) × Contains (cells ++ cell ∷ []) c)
        go (inl e) =
            let new = here c (sym e) in
            inr (cc (h, new), sym e, subst (Contains (cells ++ cell ∷ [])) (sym e) (Contains-push cells cell))
        go (inr ne) = inl (sym (there c ne) ∙ h)

    listed : (c : ℕ) → Contains cells c ⊎ (cell ≡ c) → Contains cells c ⊎ (get_or (set table cell (Some distance)) c None ≡ Some distance)
    listed c (inl i) = inl i
    listed c (inr e) = inr (here c e)

    count : unmarked (set table cell (Some distance)) + length (cells ++ cell ∷ []) ≡ unmarked table + length cells
    count =
        let one_less : unmarked (set table cell (Some distance)) + cond (is_none (get_or table cell None)) 1 0 ≡ unmarked table + 0 =
        sum_by-set (λ (o : Option ℕ). cond (is_none o) 1 0) table cell (Some distance) None inside in
        let less : unmarked (set table cell (Some distance)) + 1 ≡ unmarked table + 0 =
        subst (λ (o : Option ℕ). unmarked (set table cell (Some distance)) + cond (is_none o) 1 0 ≡ unmarked table + 0) none one_less in
        omega (arith, less, length_push cells cell)

-- the same set of cells, said in another way
pub Marks-same : (S T : ℕ → Type 0) (distance : ℕ) (old new : List (Option ℕ)) (old_cells new_cells : List ℕ) → ((c : ℕ) → S c ↔ T c) →
    Marks S distance old new old_cells new_cells → Marks T distance old new old_cells new_cells
Marks-same S T distance old new old_cells new_cells same h = record {
  same_length = h.same_length;
  kept = h.kept;
  marked = λ c t. h.marked c ((same c).1 t);
  fresh = λ c m e. go c m (h.fresh c m e);
  listed = h.listed;
  stays = h.stays;
  count = h.count;
}
  where
    go : (c m : ℕ) → (get_or old c None ≡ Some m) ⊎ ((m ≡ distance) × S c × Contains new_cells c) →
        (get_or old c None ≡ Some m) ⊎ ((m ≡ distance) × T c × Contains new_cells c)
    go c m (inl e) = inl e
    go c m (inr (e, s, i)) = inr (e, (same c).0 s, i)

-- first the one set of cells, then the other
Marks-both : (S T : ℕ → Type 0) (distance : ℕ) (a b c : List (Option ℕ)) (x y z : List ℕ) →
    Marks S distance a b x y → Marks T distance b c y z → Marks (λ k. S k ⊎ T k) distance a c x z
Marks-both S T distance a b c x y z first second = record {
  same_length = second.same_length ∙ first.same_length;
  kept = λ k m h. second.kept k m (first.kept k m h);
  marked = marked;
  fresh = λ k m h. fresh k m (second.fresh k m h);
  listed = λ k h. listed k (second.listed k h);
  stays = λ k h. second.stays k (first.stays k h);
  count = second.count ∙ first.count;
}
  where
    marked : (k : ℕ) → S k ⊎ T k → (m : ℕ) × (get_or c k None ≡ Some m)
    marked k (inl s) = let r = first.marked k s in (r.0, second.kept k r.0 r.1)
    marked k (inr t) = second.marked k t

    earlier : (k m : ℕ) → (get_or a k None ≡ Some m) ⊎ ((m ≡ distance) × S k × Contains y k) →
        (get_or a k None ≡ Some m) ⊎ ((m ≡ distance) × (S k ⊎ T k) × Contains z k)
    earlier k m (inl e) = inl e
    earlier k m (inr (e, s, i)) = inr (e, inl s, second.stays k i)

    fresh : (k m : ℕ) → (get_or b k None ≡ Some m) ⊎ ((m ≡ distance) × T k × Contains z k) →
        (get_or a k None ≡ Some m) ⊎ ((m ≡ distance) × (S k ⊎ T k) × Contains z k)
    fresh k m (inl e) = earlier k m (first.fresh k m e)
    fresh k m (inr (e, t, i)) = inr (e, inr t, i)

    listed_first : (k : ℕ) → Contains x k ⊎ (get_or b k None ≡ Some distance) → Contains x k ⊎ (get_or c k None ≡ Some distance)
    listed_first k (inl i) = inl i
    listed_first k (inr e) = inr (second.kept k distance e)

    listed : (k : ℕ) → Contains y k ⊎ (get_or c k None ≡ Some distance) → Contains x k ⊎ (get_or c k None ≡ Some distance)
    listed k (inl i) = listed_first k (first.listed k i)
    listed k (inr e) = inr e

-- what is marked from the first cells, and then from the next one
pub Marks-from_more : (R : ℕ → ℕ → Type 0) (distance : ℕ) (a b c : List (Option ℕ)) (x y z cells : List ℕ) (i cell : ℕ) → i < length cells → cell ≡ get_or cells i cell →
    Marks (FromSome R (take i cells)) distance a b x y → Marks (R cell) distance b c y z → Marks (FromSome R (take (i + 1) cells)) distance a c x z
Marks-from_more R distance a b c x y z cells i cell inside is first second =
    Marks-same (λ v. FromSome R (take i cells) v ⊎ R cell v) (FromSome R (take (i + 1) cells)) distance a c x z (λ v. from_more R cells i cell v inside is)
    (Marks-both (FromSome R (take i cells)) (R cell) distance a b c x y z first second)

-- the neighbours of a cell, marked one after another
pub Marks-four : (A B C D S : ℕ → Type 0) (distance : ℕ) (t a b c d : List (Option ℕ)) (x i j k l : List ℕ) →
    ((v : ℕ) → (((A v ⊎ B v) ⊎ C v) ⊎ D v) ↔ S v) →
    Marks A distance t a x i → Marks B distance a b i j → Marks C distance b c j k → Marks D distance c d k l → Marks S distance t d x l
Marks-four A B C D S distance t a b c d x i j k l same one two three four =
    let first = Marks-both A B distance t a b x i j one two in
    let second = Marks-both (λ v. A v ⊎ B v) C distance t b c x j k first three in
    let all = Marks-both (λ v. (A v ⊎ B v) ⊎ C v) D distance t c d x k l second four in
    Marks-same (λ v. ((A v ⊎ B v) ⊎ C v) ⊎ D v) S distance t d x l same all

-- the free neighbours of the cell u, one after the other
pub neighbours-four : (g : Grid) (u : ℕ) (above below : Option ℕ) →
    ((v : ℕ) → (above ≡ Some v) ↔ (u ≡ v + g.width)) → ((v : ℕ) → (below ≡ Some v) ↔ (v ≡ u + g.width)) →
    (v : ℕ) → (((((above ≡ Some v) × IsFree g v) ⊎ (((u ≡ v + 1) × (u / g.width ≡ v / g.width)) × IsFree g v)) ⊎ (((v ≡ u + 1) × (v / g.width ≡ u / g.width)) × IsFree g v)) ⊎ ((below ≡ Some v) × IsFree g v))
    ↔ IsFreeNeighbour g u v
neighbours-four g u above below is_above is_below v = (to, from)
  where
    to : (((((above ≡ Some v) × IsFree g v) ⊎ (((u ≡ v + 1) × (u / g.width ≡ v / g.width)) × IsFree g v)) ⊎ (((v ≡ u + 1) × (v / g.width ≡ u / g.width)) × IsFree g v)) ⊎ ((below ≡ Some v) × IsFree g v)) →
        IsFreeNeighbour g u v
    to (inl (inl (inl h))) = (h.1, inr (inr ((is_above v).0 h.0)))
    to (inl (inl (inr h))) = (h.1, inr (inl h.0))
    to (inl (inr h)) = (h.1, inl (inl h.0))
    to (inr h) = (h.1, inl (inr ((is_below v).0 h.0)))

    from : IsFreeNeighbour g u v →
        ((((above ≡ Some v) × IsFree g v) ⊎ (((u ≡ v + 1) × (u / g.width ≡ v / g.width)) × IsFree g v)) ⊎ (((v ≡ u + 1) × (v / g.width ≡ u / g.width)) × IsFree g v)) ⊎ ((below ≡ Some v) × IsFree g v)
    from (free, inl (inl h)) = inl (inr (h, free))
    from (free, inl (inr h)) = inr ((is_below v).1 h, free)
    from (free, inr (inl h)) = inl (inl (inr (h, free)))
    from (free, inr (inr h)) = inl (inl (inl ((is_above v).1 h, free)))

-- the cell before u is the one at its left, if both are in one row
pub same_left : (g : Grid) (u left : ℕ) → HasSizes g → ((v : ℕ) → v < 2 ^ 31 → (left ≡ v) ↔ (u ≡ v + 1)) →
    (v : ℕ) → (((left ≡ v) × ((left + 1) / g.width ≡ left / g.width)) × IsFree g v) ↔ (((u ≡ v + 1) × (u / g.width ≡ v / g.width)) × IsFree g v)
same_left g u left sizes is v = (
  (λ h. let e : u ≡ v + 1 = (is v (few h.1)).0 h.0.0 in ((e, cc (e, h.0.0, h.0.1)), h.1)),
  (λ h. let e : left ≡ v = (is v (few h.1)).1 h.0.0 in ((e, cc (e, h.0.0, h.0.1)), h.1)),
)
  where
    few : IsFree g v → v < 2 ^ 31
    few free = omega (arith, free_below g v sizes free, few_cells g sizes)

-- and the cell after u is the one at its right
pub same_right : (g : Grid) (u right : ℕ) → right ≡ u + 1 →
    (v : ℕ) → (((right ≡ v) × ((u + 1) / g.width ≡ u / g.width)) × IsFree g v) ↔ (((v ≡ u + 1) × (v / g.width ≡ u / g.width)) × IsFree g v)
same_right g u right is v = (
  (λ h. let e : v ≡ u + 1 = cc (h.0.0, is) in ((e, cc (e, h.0.1)), h.1)),
  (λ h. let e : right ≡ v = cc (h.0.0, is) in ((e, cc (e, h.0.0, h.0.1)), h.1)),
)
