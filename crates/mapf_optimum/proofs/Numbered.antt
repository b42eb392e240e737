-- Numbered places of an agent that get more.
use Rattle.std.proofs.Common.{◌≡◌, ℕ, ◌+◌, ◌≤◌, List, [], ◌∷◌, ◌++◌, length, Some, inl, inr, subst, sym, refl, ap, ◌∙◌, ⊎_elim, arith}
use Rattle.std.specs.Prelude.{slice_get}
use Rattle.std.proofs.lemmas.List.{length_push}
use Rattle.mapf_optimum.specs.declared.together.place.Place.{Place}
use Rattle.mapf_optimum.specs.declared.together.place.Move.{Move}
use Rattle.mapf_optimum.specs.PlaceNumbers.{AgentKnown, GetsPlaces, HasMoveTo, HasNumber}
use Rattle.mapf_optimum.proofs.JointLists.{got_before, got_last}

-- nothing new
pub gets_none : (old new : AgentKnown) → new ≡ old → GetsPlaces old new
gets_none old new same = subst (λ k. GetsPlaces old k) (sym same) (record {
  more = record { all = λ n x h. h; first = refl };
  looks = λ n x h. h;
  fresh = λ n x h. inl h;
  moves = λ n x h. h;
  longer = omega arith;
})

-- first the one and then the other
pub gets_both : (a b c : AgentKnown) → GetsPlaces a b → GetsPlaces b c → GetsPlaces a c
gets_both a b c h k = record {
  more = record { all = λ n x i. k.more.all n x (h.more.all n x i); first = k.more.first ∙ h.more.first };
  looks = λ n x i. k.looks n x (h.looks n x i);
  fresh = λ n x i. ⊎_elim (λ j. h.fresh n x j) (λ j. inr j) (k.fresh n x i);
  moves = λ n x i. k.moves n x (h.moves n x i);
  longer = omega (arith, h.longer, k.longer);
}

-- a move at the end
pub gets_move : (old new : AgentKnown) (move : Move) → new.all ≡ old.all → new.looks ≡ old.looks → new.moves ≡ old.moves ++ move ∷ [] → new.first ≡ old.first → GetsPlaces old new
gets_move old new move all looks moves first = record {
  more = record { all = λ n y h. subst (λ l. slice_get l n ≡ Some y) (sym all) h; first = first };
  looks = λ n y h. subst (λ l. slice_get l n ≡ Some y) (sym looks) h;
  fresh = λ n y h. inl (subst (λ l. slice_get l n ≡ Some y) looks h);
  moves = λ n y h. subst (λ l. slice_get l n ≡ Some y) (sym moves) (got_before old.moves move n y h);
  longer = let more : length new.moves ≡ length old.moves + 1 = ap length moves ∙ length_push old.moves move in omega (arith, more);
}

-- a move stays
pub moves_still : (old new : AgentKnown) (behind : ℕ) (x : Place) (time : ℕ) → GetsPlaces old new → HasMoveTo old behind x time → HasMoveTo new behind x time
moves_still old new behind x time gets h = (h.0, h.1, h.2, gets.moves h.0 _ h.3, gets.more.all h.2 _ h.4)

-- the last move is one
pub moves_last : (old mid new : AgentKnown) (behind number : ℕ) (x : Place) (time : ℕ) → behind ≤ length old.moves → mid.moves ≡ old.moves → HasNumber mid number x time →
    new.all ≡ mid.all → new.moves ≡ mid.moves ++ record { number = number; place = x } ∷ [] → HasMoveTo new behind x time
moves_last old mid new behind number x time l same has all moves = (
  length mid.moves,
  omega (arith, l, ap (λ (m : List Move). length m) same),
  number,
  subst (λ m. slice_get m (length mid.moves) ≡ Some (record { number = number; place = x })) (sym moves) (got_last mid.moves (record { number = number; place = x })),
  subst (λ a. slice_get a number ≡ Some (record { place = x; time = time })) (sym all) has,
)
