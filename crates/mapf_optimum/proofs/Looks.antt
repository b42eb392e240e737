-- What was looked for from an agent's places, as more is looked for from one of them.
use Rattle.std.proofs.Common.{◌≡◌, ◌≢◌, ℕ, ◌+◌, ◌-◌, ◌<◌, ◌≤◌, ◌^◌, List, take, drop, length, get_or, set, Contains, Some, subst, subst₂, sym, ap, ◌∙◌, ⊎_elim, arith}
use Rattle.std.specs.Prelude.{slice_get}
use Rattle.std.proofs.Math.ListN.{length-set}
use Rattle.std.proofs.lemmas.List.{get_or-set_same, get_or-set_other, get_or-take, get_or-drop, length-take, length-drop}
use Rattle.std.proofs.lemmas.Option.{same_Some, slice_get_within, slice_get-get_or, get_or_from_slice_get}
use native.Mathlib.Decide.{ℕ_discrete}
use Rattle.mapf_grid.proofs.Decide.{by_cases}
use Rattle.mapf_plan.specs.Path.{cost}
use Rattle.mapf_optimum.specs.declared.together.place.Place.{Place}
use Rattle.mapf_optimum.specs.declared.together.place.PlaceAt.{PlaceAt}
use Rattle.mapf_optimum.specs.declared.together.place.Look.{Look}
use Rattle.mapf_optimum.specs.declared.together.place.Move.{Move}
use Rattle.mapf_optimum.specs.Together.{Agent, HasPlace, IsPathOf, StandsAt}
use Rattle.mapf_optimum.specs.PlaceNumbers.{AgentKnown, AreLookedOn, GetsPlaces, HasMoveTo, IsAtNumber, IsLookedOn, IsMoveFrom}

module _ {X : Type 0} (xs : List X) (i : ℕ) (y : X) where
  long : length (set xs i y) ≡ length xs
  long = simp length-set

  -- what is written is read there
  pub set_there : i < length xs → slice_get (set xs i y) i ≡ Some y
  set_there l = slice_get-get_or (set xs i y) i y (omega (arith, l, long)) ∙ ap Some (get_or-set_same xs i y y l)

  -- and what was elsewhere
  pub set_elsewhere : (n : ℕ) (x : X) → i ≢ n → slice_get xs n ≡ Some x → slice_get (set xs i y) n ≡ Some x
  set_elsewhere n x other is =
      slice_get-get_or (set xs i y) n x (let l : n < length xs = slice_get_within xs n x is in omega (arith, l, long))
      ∙ ap Some (get_or-set_other xs i n y x (λ e. other (sym e)) ∙ get_or_from_slice_get xs n x x is)

  pub set_before : (n : ℕ) (x : X) → i ≢ n → slice_get (set xs i y) n ≡ Some x → slice_get xs n ≡ Some x
  set_before n x other is =
      slice_get-get_or xs n x (let l : n < length (set xs i y) = slice_get_within (set xs i y) n x is in omega (arith, l, long))
      ∙ ap Some (sym (get_or-set_other xs i n y x (λ e. other (sym e))) ∙ get_or_from_slice_get (set xs i y) n x x is)

-- a move between two places of the list
pub among : (xs : List Move) (first end k : ℕ) (move : Move) → first ≤ k → k < end → end ≤ length xs → slice_get xs k ≡ Some move → Contains (take (end - first) (drop first xs)) move
among xs first end k move l m inside is = (
  k - first,
  omega (arith, l, m, inside, length-take {A = Move}, length-drop {A = Move}),
  get_or-take (end - first) (drop first xs) (k - first) move (omega (arith, l, m)) ∙ get_or-drop first xs (k - first) move
      ∙ ap (λ j. get_or xs j move) (let back : first + (k - first) ≡ k = omega (arith, l) in back) ∙ get_or_from_slice_get xs k move move is,
)

-- where nothing was looked for
pub none_looked : (agent : Agent) (known : AgentKnown) (number below : ℕ) → below ≡ 0 → IsLookedOn agent known number below
none_looked agent known number below none p time path cheap fits at = absurd (omega (arith, cheap, none))

-- less was looked for, too
pub looked_less : (agent : Agent) (known : AgentKnown) (number less below : ℕ) → less ≤ below → IsLookedOn agent known number below → IsLookedOn agent known number less
looked_less agent known number less below l looked p time path cheap fits at = looked p time path (omega (arith, cheap, l)) fits at

-- more is looked for from one of the places
module _ (agent : Agent) (old mid new : AgentKnown) (number : ℕ) (look : Look) (gets : GetsPlaces old mid) (whole : length old.looks ≡ length old.all) (all : new.all ≡ mid.all)
    (looks : new.looks ≡ set mid.looks number look) (moves : new.moves ≡ mid.moves) (inside : number < length mid.looks) where
  place_still : (n : ℕ) (x : PlaceAt) → slice_get old.all n ≡ Some x → slice_get new.all n ≡ Some x
  place_still n x is = subst (λ l. slice_get l n ≡ Some x) (sym all) (gets.more.all n x is)

  was_there : (p : List ℕ) (time n : ℕ) → n < length old.all → IsAtNumber new p time n → IsAtNumber old p time n
  was_there p time n l at =
      let x : PlaceAt = record { place = at.0; time = time } in
      let got = slice_get-get_or old.all n x l in
      (at.0, got ∙ ap Some (same_Some (get_or old.all n x) x (sym (place_still n (get_or old.all n x) got) ∙ at.1)), at.2)

  move_still : (n : ℕ) (move : Move) → number ≢ n → IsMoveFrom old n move → IsMoveFrom new n move
  move_still n move other is = record {
    look = is.look;
    there = subst (λ l. slice_get l n ≡ Some is.look) (sym looks) (set_elsewhere mid.looks number look n is.look other (gets.looks n is.look is.there));
    inside = omega (arith, is.inside, gets.longer, ap (λ (m : List Move). length m) moves);
    place = is.place;
    from = is.from;
    before = is.before;
    is = subst (λ l. slice_get l is.place ≡ Some move) (sym moves) (gets.moves is.place move is.is);
  }

  looked_still : (n below : ℕ) → number ≢ n → n < length old.all → IsLookedOn agent old n below → IsLookedOn agent new n below
  looked_still n below other l looked p time path cheap fits at =
      let leads = looked p time path cheap fits (was_there p time n l at) in
      (leads.0, move_still n leads.0 other leads.1, place_still leads.0.number _ leads.2, leads.3)

  -- what was looked for is found
  pub looked_with : AreLookedOn agent old → IsLookedOn agent new number look.below → AreLookedOn agent new
  looked_with was there n x is = by_cases (ℕ_discrete number n) here elsewhere
    where
      read : slice_get (set mid.looks number look) n ≡ Some x
      read = subst (λ l. slice_get l n ≡ Some x) looks is

      here : number ≡ n → IsLookedOn agent new n x.below
      here e =
          let same : look ≡ x = same_Some look x (sym (set_there mid.looks number look inside) ∙ ap (λ k. slice_get (set mid.looks number look) k) e ∙ read) in
          subst₂ (λ k (l : Look). IsLookedOn agent new k l.below) e same there

      elsewhere : number ≢ n → IsLookedOn agent new n x.below
      elsewhere other =
          ⊎_elim
          (λ i. let l : n < length old.looks = slice_get_within old.looks n x i in looked_still n x.below other (omega (arith, l, whole)) (was n x i))
          (λ none. none_looked agent new n x.below none)
          (gets.fresh n x (set_before mid.looks number look n x other read))

  -- and what is looked for now
  pub looked_there : (from : PlaceAt) (next : List Place) (most then : ℕ) → slice_get old.all number ≡ Some from → (from.time + 1 < 2 ^ 32 → then ≡ from.time + 1) →
      ((x : Place) → Contains next x → HasMoveTo mid (length old.moves) x then) → look.first ≡ length old.moves → look.end ≡ length mid.moves →
      ((p : List ℕ) (before : ℕ) → before + 1 ≡ then → IsPathOf agent p → cost p ≤ most → StandsAt p before from.place → HasPlace p then next) → IsLookedOn agent new number (most + 1)
  looked_there from next most then read later each first end adds p time path cheap fits at =
      let x : PlaceAt = record { place = at.0; time = time } in
      let same : from ≡ x = same_Some from x (sym (place_still number from read) ∙ at.1) in
      let now : from.time ≡ time = ap (λ (y : PlaceAt). y.time) same in
      let next_is : then ≡ time + 1 = later (omega (arith, now, fits)) ∙ ap (λ t. t + 1) now in
      let found = adds p time (sym next_is) path (omega (arith, cheap)) (subst (λ (y : PlaceAt). StandsAt p time y.place) (sym same) at.2) in
      let m = each found.0 found.1 in
      let last : m.0 < length mid.moves = slice_get_within mid.moves m.0 _ m.3 in (
        record { number = m.2; place = found.0 },
        record {
          look = look;
          there = subst (λ l. slice_get l number ≡ Some look) (sym looks) (set_there mid.looks number look inside);
          inside = omega (arith, end, ap (λ (l : List Move). length l) moves);
          place = m.0;
          from = omega (arith, first, m.1);
          before = omega (arith, end, last);
          is = subst (λ l. slice_get l m.0 ≡ Some (record { number = m.2; place = found.0 })) (sym moves) m.3;
        },
        subst₂ (λ l t. slice_get l m.2 ≡ Some (record { place = found.0; time = t })) (sym all) next_is m.4,
        subst (λ t. StandsAt p t found.0) next_is found.2,
      )
