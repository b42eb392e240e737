-- The first rows as agents, one row after the other, and the first fault of a row.
use Rattle.std.proofs.Common.{◌≡◌, ◌≢◌, ℕ, ◌+◌, ◌<◌, ◌≤◌, zero, suc, List, [], ◌∷◌, ◌++◌, length, slice_get, slice_index, Some, refl, sym, ap, ◌∙◌, subst, ⊎_elim, arith, length-append}
use Rattle.std.proofs.lemmas.Bool.{cases_lt}
use Rattle.std.proofs.lemmas.List.{get_or_append_left, get_or_push}
use Rattle.std.proofs.lemmas.Option.{none-some, same_Some}
use Rattle.mapf_grid.specs.Grid.{Grid}
use Rattle.mapf_grid.specs.Instance.{IsDistinct, IsAgent, IsInstance}
use Rattle.mapf_grid.specs.declared.instance.TheConstants.{MOST_AGENTS}
use Rattle.mapf_grid.specs.NewAgent.{IsNewAgent}
use Rattle.mapf_grid.specs.declared.scenario.Row.{Row}

-- the first n rows are agents with these starts and goals
pub record AreAgents (g : Grid) (rows : List Row) (n : ℕ) (starts goals : List ℕ) : Type 0 where
  pub start_count : length starts ≡ n
  pub goal_count : length goals ≡ n
  pub agents : (i : ℕ) (row : Row) → i < n → slice_get rows i ≡ Some row → IsAgent (record { grid = g; starts = starts; goals = goals }) i row
  pub starts_differ : IsDistinct starts
  pub goals_differ : IsDistinct goals

pub AreAgents-none : (g : Grid) (rows : List Row) → AreAgents g rows 0 [] []
AreAgents-none g rows = record {
  start_count = refl;
  goal_count = refl;
  agents = λ i row below e. absurd (omega arith);
  starts_differ = λ i j before inside. absurd (omega arith);
  goals_differ = λ i j before inside. absurd (omega arith);
}

slice_get_left : {A : Type 0} (xs : List A) (y : A) (i : ℕ) (x : A) → slice_get xs i ≡ Some x → slice_get (xs ++ y ∷ []) i ≡ Some x
slice_get_left [] y i x e = absurd (none-some x e)
slice_get_left (z ∷ xs) y zero x e = e
slice_get_left (z ∷ xs) y (suc i) x e = slice_get_left xs y i x e

slice_get_last : {A : Type 0} (xs : List A) (y : A) (i : ℕ) → i ≡ length xs → slice_get (xs ++ y ∷ []) i ≡ Some y
slice_get_last [] y zero e = refl
slice_get_last [] y (suc i) e = absurd (omega arith)
slice_get_last (z ∷ xs) y zero e = absurd (omega arith)
slice_get_last (z ∷ xs) y (suc i) e = slice_get_last xs y i (omega arith)

-- distinct places, and one more that is none of them
IsDistinct-push : (places : List ℕ) (cell : ℕ) → IsDistinct places → ((i : ℕ) → i < length places → slice_index places i ≢ cell) → IsDistinct (places ++ cell ∷ [])
IsDistinct-push places cell differ new i j before inside =
    let long : length (places ++ cell ∷ []) ≡ length places + 1 = length-append places (cell ∷ []) in
    let i_in : i < length places = omega arith in
    let old : slice_index (places ++ cell ∷ []) i ≡ slice_index places i = get_or_append_left places (cell ∷ []) 0 i i_in in
    ⊎_elim
    (λ j_in. λ e. differ i j before j_in (sym old ∙ e ∙ get_or_append_left places (cell ∷ []) 0 j j_in))
    (λ at_end. λ e. new i i_in (sym old ∙ e ∙ get_or_push places cell 0 j (omega arith)))
    (cases_lt j (length places))

-- one agent more
pub AreAgents-more : {g : Grid} {rows : List Row} {n : ℕ} {starts goals : List ℕ} (row : Row) (start goal : ℕ) → AreAgents g rows n starts goals → slice_get rows n ≡ Some row → IsNewAgent g starts goals row start goal → AreAgents g rows (n + 1) (starts ++ start ∷ []) (goals ++ goal ∷ [])
AreAgents-more {g} {rows} {n} {starts} {goals} row start goal are here new =
    let start_count = are.start_count in
    let goal_count = are.goal_count in
    record {
      start_count = omega (arith, length-append starts (start ∷ []));
      goal_count = omega (arith, length-append goals (goal ∷ []));
      agents = λ i r below e. ⊎_elim
          (λ old. let was = are.agents i r old e in record {
            size = was.size;
            start_free = was.start_free;
            goal_free = was.goal_free;
            start = slice_get_left starts start i _ was.start;
            goal = slice_get_left goals goal i _ was.goal;
          })
          (λ last. let same : i ≡ n = omega arith in
          let is : row ≡ r = same_Some row r (sym here ∙ ap (slice_get rows) (sym same) ∙ e) in
          subst (λ q. IsAgent (record { grid = g; starts = starts ++ start ∷ []; goals = goals ++ goal ∷ [] }) i q) is
          (record {
            size = new.size;
            start_free = new.start_place.free;
            goal_free = new.goal_place.free;
            start = slice_get_last starts start i (omega arith) ∙ ap Some new.start_place.is;
            goal = slice_get_last goals goal i (omega arith) ∙ ap Some new.goal_place.is;
          }))
          (cases_lt i n);
      starts_differ = IsDistinct-push starts start are.starts_differ new.start_place.new;
      goals_differ = IsDistinct-push goals goal are.goals_differ new.goal_place.new;
    }

-- agents for all n rows are an instance
pub IsInstance-all : {g : Grid} {rows : List Row} {n : ℕ} {starts goals : List ℕ} → AreAgents g rows n starts goals → 0 < n → n ≤ MOST_AGENTS → n ≤ length rows → IsInstance g rows n (record { grid = g; starts = starts; goals = goals })
IsInstance-all are some few there = record {
  grid = refl;
  some = some;
  few = few;
  there = there;
  starts = are.start_count;
  goals = are.goal_count;
  agents = are.agents;
  starts_differ = are.starts_differ;
  goals_differ = are.goals_differ;
}
