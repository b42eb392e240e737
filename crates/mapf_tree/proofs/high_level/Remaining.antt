-- How many nodes of the tree are not taken yet: the measure of a search.
use Rattle.mapf_tree.proofs.Prelude.{◌≡◌, ◌↔◌, ℕ, ◌+◌, ◌<◌, ◌≤◌, List, [], ◌∷◌, length, Option, Some, None, subst, sym, refl, ⊎_elim, arith, Contains, here, nowhere, here_or_there, transitive, le_before}
use Rattle.mapf_tree.specs.Prelude.{Problem, key, PlannedNode, IsMember, IsReached, TakesBetween}
use Rattle.mapf_tree.proofs.finite.Finite.{members}
use Rattle.mapf_tree.proofs.high_level.SearchLaws.{dec_reached}

module _ (problem : Problem) where
  -- one for what isn't reached
  weight : {A : Type 0} → Dec A → ℕ
  weight (yes h) = 0
  weight (no n) = 1

  -- what follows from a fact weighs no more than it, and less where it holds and the fact doesn't
  lighter : {A B : Type 0} (d : Dec A) (e : Dec B) → (A → B) → (weight e ≤ weight d) × (¬ A → B → weight e < weight d)
  unfolding weight
  lighter (yes h) (yes k) f = (omega arith, λ n b. absurd (n h))
  lighter (yes h) (no n) f = absurd (n (f h))
  lighter (no n) (yes k) f = (omega arith, λ m b. omega arith)
  lighter (no n) (no k) f = (omega arith, λ m b. absurd (k b))

  -- how many of a list are not reached
  count : Option (List ℕ) → List PlannedNode → ℕ
  count last [] = 0
  count last (m ∷ ms) = weight (dec_reached problem last m) + count last ms

  -- where more is reached, no more are left; and fewer, where one of them is reached then and wasn't before
  fewer : (from to : Option (List ℕ)) (ms : List PlannedNode) (x : PlannedNode) → ((m : PlannedNode) → IsReached from m → IsReached to m) →
      ¬ IsReached from x → IsReached to x → (count to ms ≤ count from ms) × (Contains ms x → count to ms < count from ms)
  unfolding count
  fewer from to [] x f n r = (omega arith, λ i. absurd (nowhere i))
  fewer from to (m ∷ ms) x f n r =
      let one = lighter (dec_reached problem from m) (dec_reached problem to m) (f m) in
      let others = fewer from to ms x f n r in (
        omega (arith, one.0, others.0),
        λ i.
            ⊎_elim (λ e. omega (arith, others.0, one.1 (subst (λ y. ¬ IsReached from y) (sym e) n) (subst (IsReached to) (sym e) r)))
            (λ j. omega (arith, one.0, others.1 j)) (here_or_there ms i),
      )

-- the nodes of the tree that are not taken
pub remaining : Problem → Option (List ℕ) → ℕ
remaining p last = count p last (members p).0

-- where one is reached that wasn't, all that was reached still is
still_reached : (from to : Option (List ℕ)) (x m : PlannedNode) → ¬ IsReached from x → IsReached to x → IsReached from m → IsReached to m
still_reached None to x m n r k = absurd k
still_reached (Some a) None x m n r k = absurd r
still_reached (Some a) (Some b) x m n r k =
    λ l. n (λ h. k (transitive a (key x) (key m) h (le_before (key x) b (key m) r l)))

-- the count falls where nodes are taken
pub remaining_falls : (p q : Problem) (from to : Option (List ℕ)) (n : ℕ) → q ≡ p → 1 ≤ n → TakesBetween q from to n → remaining q to < remaining p from
unfolding remaining
remaining_falls p q from to n e some t = subst (λ r. remaining q to < remaining r from) e (falls t.0 t.2 t.3)
  where
    falls : (taken : List PlannedNode) → length taken ≡ n → ((m : PlannedNode) → Contains taken m ↔ (IsMember q m × IsReached to m × ¬ IsReached from m)) → remaining q to < remaining q from
    falls [] l is = absurd (omega (arith, l, some))
    falls (x ∷ xs) l is =
        let h = (is x).0 (here xs refl) in
        (fewer q from to (members q).0 x (λ m. still_reached from to x m h.2 h.1) h.2 h.1).1 ((members q).2 x h.0)
