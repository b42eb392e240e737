-- An f-level that is emptied, cell by cell, and the later f-levels that its cells lead to.
use Rattle.std.proofs.Common.{◌≡◌, ◌⊎◌, ℕ, ◌+◌, ◌<◌, ◌≤◌, eqb, List, length, take, get_or, Contains, inl, inr, subst, sym, ap, ◌∙◌, arith}
use Rattle.std.specs.List.{IsDistinct}
use Rattle.std.proofs.lemmas.Bool.{eqb-true}
use Rattle.std.proofs.lemmas.List.{take_all, take-append-le}
use Rattle.std.proofs.lemmas.Map.Steps.{length-le_from_distinct_below}
use Rattle.indexmap.proofs.CallerLemmas.{Contains-list_any}
use Rattle.mapf_grid.specs.Grid.{IsFree, cells, HasSizes}
use Rattle.mapf_low.specs.Query.{Query}
use Rattle.mapf_low.specs.Forwards.FLevels.{Grows, IsWithin, Leads, SomeLeads, Closes, ArePlaced}
use Rattle.mapf_low.proofs.Growing.{members_more, none_in_front}
use Rattle.mapf_low.proofs.forwards.Leading.{placed_next}

-- the first cells of the f-level are done with
pub record IsClosing (query : Query) (sum place : ℕ) (old xs : List ℕ) : Type 0 where
  pub keeps : (v : ℕ) → Contains old v → Contains xs v
  pub sound : (v : ℕ) → Contains xs v → Contains old v ⊎ SomeLeads query sum 0 xs v
  pub done : (u v : ℕ) → Contains (take place xs) u → Leads query sum 0 u v → Contains xs v
  pub placed : ArePlaced query sum xs

module _ (query : Query) (sum : ℕ) where
  pub closing_first : (old : List ℕ) → ArePlaced query sum old → IsClosing query sum 0 old old
  closing_first old placed = record { keeps = λ v i. i; sound = λ v i. inl i; done = λ u v i. absurd (none_in_front old u i); placed = placed }

  -- no cell stands there twice, so there are no more than the map has
  pub places_few : (xs : List ℕ) → IsDistinct eqb xs → ArePlaced query sum xs → length xs ≤ cells query.grid
  places_few xs once placed = length-le_from_distinct_below xs (cells query.grid) once (λ q h. (placed q (Contains-list_any eqb eqb-true xs q h)).1)

  pub closing_next : (old xs new : List ℕ) (place x : ℕ) → HasSizes query.grid → place < length xs → x ≡ get_or xs place x → IsClosing query sum place old xs → Grows (Leads query sum 0 x) xs new →
      IsClosing query sum (place + 1) old new
  closing_next old xs new place x sizes l is h more = record {
    keeps = λ v i. stays v (h.keeps v i);
    sound = λ v i. sound v ((more.members v).0 i);
    done = λ u v i. done u v ((members_more xs place x u l is).0 (subst (λ ys. Contains ys u) front i));
    placed = λ v i. placed v ((more.members v).0 i);
  }
    where
      front : take (place + 1) new ≡ take (place + 1) xs
      front = ap (take (place + 1)) more.is ∙ take-append-le (place + 1) xs more.more (omega (arith, l))

      stays : (v : ℕ) → Contains xs v → Contains new v
      stays v i = (more.members v).1 (inl i)

      here : Contains xs x
      here = (place, l, sym is)

      moved : (v : ℕ) → Contains old v ⊎ SomeLeads query sum 0 xs v → Contains old v ⊎ SomeLeads query sum 0 new v
      moved v (inl i) = inl i
      moved v (inr (u, i, s)) = inr (u, stays u i, s)

      sound : (v : ℕ) → Contains xs v ⊎ Leads query sum 0 x v → Contains old v ⊎ SomeLeads query sum 0 new v
      sound v (inl i) = moved v (h.sound v i)
      sound v (inr s) = inr (x, stays x here, s)

      done : (u v : ℕ) → Contains (take place xs) u ⊎ (x ≡ u) → Leads query sum 0 u v → Contains new v
      done u v (inl i) s = stays v (h.done u v i s)
      done u v (inr e) s = (more.members v).1 (inr (subst (λ w. Leads query sum 0 w v) (sym e) s))

      same : sum + 0 ≡ sum
      same = omega arith

      placed : (v : ℕ) → Contains xs v ⊎ Leads query sum 0 x v → IsFree query.grid v × (v < cells query.grid) × IsWithin query sum v
      placed v (inl i) = h.placed v i
      placed v (inr s) = let p = placed_next query sum 0 x v sizes (h.placed x here).2 s in (p.0, p.1, subst (λ n. IsWithin query n v) same p.2)

  pub closing_last : (old xs : List ℕ) (place : ℕ) → length xs ≤ place → IsClosing query sum place old xs → Closes query sum old xs
  closing_last old xs place past h = record {
    keeps = h.keeps;
    sound = h.sound;
    closed = λ v s. h.done s.0 v (subst (λ ys. Contains ys s.0) (sym whole) s.1) s.2;
  }
    where
      whole : take place xs ≡ xs
      whole = take_all place xs past
