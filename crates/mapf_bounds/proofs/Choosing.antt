-- Disjoint pairs that are chosen one after the other, each if both its agents are free.
use Rattle.std.proofs.Common.{◌≡◌, ◌≢◌, ℕ, ◌+◌, ◌<◌, Bool, true, false, true≢false, List, [], ◌∷◌, length, get_or, set, get_or-set_other, subst, sym, ap, ◌∙◌, arith, length-set}
use Rattle.std.specs.List.{AllByRecursion}
use Rattle.std.proofs.lemmas.List.{get_or-set_same}
use native.Mathlib.Decide.{ℕ_discrete}
use Rattle.mapf_grid.proofs.Decide.{by_cases}
use Rattle.mapf_bounds.specs.declared.collisions.AgentPair.{AgentPair}
use Rattle.mapf_bounds.specs.Pairs.{AreApart, AreTaken, AreChosenBy, Takes}

-- what follows for each element holds of each
pub all_map : {X : Type 0} (P Q : X → Type 0) → ((x : X) → P x → Q x) → (xs : List X) → AllByRecursion P xs → AllByRecursion Q xs
all_map P Q f [] all = tt
all_map P Q f (x ∷ xs) all = (f x all.0, all_map P Q f xs all.1)

-- a mark that is set leaves the others
marked_more : (taken : List Bool) (i k : ℕ) → i < length taken → get_or taken k false ≡ true → get_or (set taken i true) k false ≡ true
marked_more taken i k l e =
    by_cases (ℕ_discrete k i) (λ same. subst (λ j. get_or (set taken i true) j false ≡ true) (sym same) (get_or-set_same taken i true false l))
    (λ n. get_or-set_other taken i k true false n ∙ e)

-- a pair of two agents without marks is apart from all that have marks
pub one_chosen : (n : ℕ) (P : AgentPair → Type 0) (taken new : List Bool) (count : ℕ) (p : AgentPair) → P p → Takes p taken new → AreChosenBy n P taken count → AreChosenBy n P new (count + 1)
one_chosen n P taken new count p inside t h = record {
  chosen = p ∷ h.chosen;
  few = ap length t.marked ∙ length-set (set taken p.first true) p.second true ∙ length-set taken p.first true ∙ h.few;
  disjoint = (t.two, omega (arith, t.inside, h.few), all_map (AreTaken taken) (AreApart p) apart h.chosen h.marked, h.disjoint);
  many = omega (arith, h.many);
  within = (inside, h.within);
  marked = ((first, second), all_map (AreTaken taken) (AreTaken new) still h.chosen h.marked);
}
  where
    differs : (i k : ℕ) → get_or taken i false ≡ false → get_or taken k false ≡ true → i ≢ k
    differs i k f t e = true≢false (sym t ∙ sym (ap (λ j. get_or taken j false) e) ∙ f)

    apart : (q : AgentPair) → AreTaken taken q → AreApart p q
    apart q m = record {
      first_first = differs p.first q.first t.first_free m.0;
      first_second = differs p.first q.second t.first_free m.1;
      second_first = differs p.second q.first t.second_free m.0;
      second_second = differs p.second q.second t.second_free m.1;
    }

    inner : p.second < length (set taken p.first true)
    inner = omega (arith, t.inside, length-set taken p.first true)

    first_inside : p.first < length taken
    first_inside = omega (arith, t.two, t.inside)

    mark : (k : ℕ) → get_or (set (set taken p.first true) p.second true) k false ≡ true → get_or new k false ≡ true
    mark k e = subst (λ xs. get_or xs k false ≡ true) (sym t.marked) e

    first : get_or new p.first false ≡ true
    first = mark p.first (marked_more (set taken p.first true) p.second p.first inner (get_or-set_same taken p.first true false first_inside))

    second : get_or new p.second false ≡ true
    second = mark p.second (get_or-set_same (set taken p.first true) p.second true false inner)

    one : (k : ℕ) → get_or taken k false ≡ true → get_or new k false ≡ true
    one k e = mark k (marked_more (set taken p.first true) p.second k inner (marked_more taken p.first k first_inside e))

    still : (q : AgentPair) → AreTaken taken q → AreTaken new q
    still q m = (one q.first m.0, one q.second m.1)
