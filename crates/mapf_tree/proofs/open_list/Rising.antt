-- Nodes in strict order by key, and a list of them with one node put in. std keeps them backwards.
use Rattle.mapf_tree.proofs.Prelude.{◌≡◌, ℕ, List, [], ◌∷◌, ◌++◌, reverse, true, false, not, Less, Equal, Greater, Ordering, nat_cmp, inl, inr, refl, subst, sym, ap, ◌∙◌, ⊎_elim, Contains, All-push, Contains-append_left, Contains-append_right, recursion_from_All, reverse-append, reverse-reverse, All-contains, All-from_recursion, nowhere, here, there, here_or_there, by_compare, before_is_other, transitive}
use Rattle.std.specs.BTreeSet.{insert_key, replace_key}
use Rattle.std.specs.BTreeMap.{is_at}
use Rattle.std.specs.Prelude.{◌||◌}
use Rattle.std.specs.List.{list_any}
use Rattle.std.specs.Ordering.{is_eq}
use Rattle.std.specs.List.Sorted.{IsStrictlySortedBy}
use Rattle.mapf_tree.specs.Prelude.{IsTotalOrder, nat_cmp_total, tied_itself, slice_cmp, lists_total, ordering_reverse, match_ordering, Precedes, Node, node_key, by_key, IsRising, IsPut}
use Rattle.mapf_tree.proofs.tree.Keyed.{Precedes-slice_cmp}

-- ranks are in a total order
total : IsTotalOrder (slice_cmp nat_cmp)
total = lists_total nat_cmp_total

-- each comparison's answer
equal_ranks : (p q : List ℕ) → p ≡ q → slice_cmp nat_cmp p q ≡ Equal
equal_ranks p q e = subst (λ r. slice_cmp nat_cmp p r ≡ Equal) e (tied_itself total p)

lesser_rank : (p q : List ℕ) → Precedes p q → slice_cmp nat_cmp p q ≡ Less
lesser_rank p q h = (Precedes-slice_cmp p q).1 h

greater_rank : (p q : List ℕ) → Precedes q p → slice_cmp nat_cmp p q ≡ Greater
greater_rank p q h = total.antisymm p q ∙ ap ordering_reverse (lesser_rank q p h)

-- the elements of a list stand in it backwards, too
in_reverse : (ns : List Node) (m : Node) → Contains ns m → Contains (reverse ns) m
in_reverse [] m i = absurd (nowhere i)
in_reverse (n ∷ ns) m i =
    subst (λ l. Contains l m) (sym (reverse-append (n ∷ []) ns))
    (⊎_elim (λ e. Contains-append_right (reverse ns) (n ∷ []) m (here [] e)) (λ j. Contains-append_left (reverse ns) (n ∷ []) m (in_reverse ns m j)) (here_or_there ns i))

of_reverse : (ns : List Node) (m : Node) → Contains (reverse ns) m → Contains ns m
of_reverse ns m i = subst (λ l. Contains l m) (reverse-reverse ns) (in_reverse (reverse ns) m i)

-- the first that std keeps comes after all others
last_of_all : (n : Node) (ns : List Node) → IsStrictlySortedBy by_key (n ∷ ns) → (m : Node) → Contains ns m → Precedes (node_key m) (node_key n)
unfolding IsStrictlySortedBy
last_of_all n ns s m i =
    (Precedes-slice_cmp (node_key m) (node_key n)).0 (All-contains (λ k. by_key n k ≡ Less) ns m (All-from_recursion (λ k. by_key n k ≡ Less) ns s.0) i)

-- a rising list and a node that comes after all of it
rises_push : (ns : List Node) (n : Node) → IsRising ns → ((m : Node) → Contains ns m → Precedes (node_key m) (node_key n)) → IsRising (ns ++ n ∷ [])
rises_push [] n r h = (tt, tt)
rises_push (k ∷ ns) n r h =
    let P : Node → Type 0 = λ m. Precedes (node_key k) (node_key m) in
    (recursion_from_All P (ns ++ n ∷ []) (All-push P ns n (All-from_recursion P ns r.0) (h k (here ns refl))), rises_push ns n r.1 (λ m i. h m (there ns i)))

-- nodes that std keeps in order rise backwards
pub sorted_rises : (ns : List Node) → IsStrictlySortedBy by_key ns → IsRising (reverse ns)
unfolding IsStrictlySortedBy
sorted_rises [] h = tt
sorted_rises (n ∷ ns) h =
    subst IsRising (sym (reverse-append (n ∷ []) ns)) (rises_push (reverse ns) n (sorted_rises ns h.1) (λ m i. last_of_all n ns h m (of_reverse ns m i)))

module _ (x node : Node) (xs later : List Node) (sorted : IsStrictlySortedBy by_key (x ∷ xs)) where
  -- the first has its key
  over : node_key node ≡ node_key x → IsPut (x ∷ xs) node (node ∷ xs)
  over e n = (
    (λ c. ⊎_elim (λ f. inl (sym f)) (λ i. inr (there xs i, λ k. before_is_other (node_key n) (node_key x) (last_of_all x xs sorted n i) (k ∙ e))) (here_or_there xs c)),
    ⊎_elim (λ f. here xs (sym f)) (λ i. ⊎_elim (λ f. absurd (i.1 (ap node_key (sym f) ∙ sym e))) (there xs) (here_or_there xs i.0)),
  )

  -- it comes after all
  ahead : Precedes (node_key x) (node_key node) → IsPut (x ∷ xs) node (node ∷ x ∷ xs)
  ahead h n = (
    (λ c. ⊎_elim (λ f. inl (sym f)) (λ i. inr (i, before_is_other (node_key n) (node_key node) (before n i))) (here_or_there (x ∷ xs) c)),
    ⊎_elim (λ f. here (x ∷ xs) (sym f)) (λ i. there (x ∷ xs) i.0),
  )
    where
      before : (k : Node) → Contains (x ∷ xs) k → Precedes (node_key k) (node_key node)
      before k i = ⊎_elim (λ f. subst (λ m. Precedes (node_key m) (node_key node)) f h) (λ j. transitive (node_key k) (node_key x) (node_key node) (last_of_all x xs sorted k j) h) (here_or_there xs i)

  -- it comes before the first
  behind : Precedes (node_key node) (node_key x) → IsPut xs node later → IsPut (x ∷ xs) node (x ∷ later)
  behind h puts n = (
    (λ c. ⊎_elim (λ f. inr (here xs f, λ e. before_is_other (node_key node) (node_key x) h (sym (ap node_key f ∙ e)))) (λ i. ⊎_elim inl (λ j. inr (there xs j.0, j.1)) ((puts n).0 i)) (here_or_there later c)),
    ⊎_elim (λ f. there later ((puts n).1 (inl f))) (λ i. ⊎_elim (here later) (λ j. there later ((puts n).1 (inr (j, i.1)))) (here_or_there xs i.0)),
  )

  put_at : IsPut xs node later → IsPut (x ∷ xs) node (match_ordering (by_key node x) (node ∷ x ∷ xs) (node ∷ xs) (x ∷ later))
  put_at others =
      by_compare (node_key node) (node_key x) (λ e. by (equal_ranks (node_key x) (node_key node) (sym e)) (over e)) (λ h. by (greater_rank (node_key x) (node_key node) h) (behind h others))
      (λ h. by (lesser_rank (node_key x) (node_key node) h) (ahead h))
    where
      by : {o : Ordering} → by_key node x ≡ o → IsPut (x ∷ xs) node (match_ordering o (node ∷ x ∷ xs) (node ∷ xs) (x ∷ later)) → IsPut (x ∷ xs) node (match_ordering (by_key node x) (node ∷ x ∷ xs) (node ∷ xs) (x ∷ later))
      by e is = subst (λ o. IsPut (x ∷ xs) node (match_ordering o (node ∷ x ∷ xs) (node ∷ xs) (x ∷ later))) (sym e) is

-- a node at its place, in the place of one that has its key
put_in : (old : List Node) (node : Node) → IsStrictlySortedBy by_key old → IsPut old node (replace_key by_key old node)
unfolding IsStrictlySortedBy
put_in [] node s = λ n. ((λ c. ⊎_elim (λ e. inl (sym e)) (λ i. absurd (nowhere i)) (here_or_there [] c)), ⊎_elim (λ e. here [] (sym e)) (λ i. absurd (nowhere i.0)))
put_in (x ∷ xs) node s = put_at x node xs (replace_key by_key xs node) s (put_in xs node s.1)

-- and so it is backwards
pub put_back : (old : List Node) (node : Node) → IsStrictlySortedBy by_key old → IsPut (reverse old) node (reverse (replace_key by_key old node))
put_back old node s n = (
  (λ c. ⊎_elim inl (λ i. inr (in_reverse old n i.0, i.1)) ((put_in old node s n).0 (of_reverse (replace_key by_key old node) n c))),
  λ c. in_reverse (replace_key by_key old node) n ((put_in old node s n).1 (⊎_elim inl (λ i. inr (of_reverse old n i.0, i.1)) c)),
)

-- std only puts in what has no equal, and that is the same
new_in : (old : List Node) (node : Node) → true ≡ not (list_any (is_at (by_key node)) old) → insert_key by_key old node ≡ replace_key by_key old node
new_in [] node new = refl
new_in (x ∷ xs) node new = by (new_in xs node) (by_key node x) new
  where
    by : (true ≡ not (list_any (is_at (by_key node)) xs) → insert_key by_key xs node ≡ replace_key by_key xs node) → (o : Ordering) → true ≡ not (is_eq o || list_any (is_at (by_key node)) xs) →
        match_ordering o (node ∷ x ∷ xs) (x ∷ xs) (x ∷ insert_key by_key xs node) ≡ match_ordering o (node ∷ x ∷ xs) (node ∷ xs) (x ∷ replace_key by_key xs node)
    by rest Less other = refl
    by rest Equal other = let e : true ≡ false = other in cc
    by rest Greater other = ap (λ l. x ∷ l) (rest other)

pub new_back : (old : List Node) (node : Node) → IsStrictlySortedBy by_key old → true ≡ not (list_any (is_at (by_key node)) old) → IsPut (reverse old) node (reverse (insert_key by_key old node))
new_back old node s new = subst (λ l. IsPut (reverse old) node (reverse l)) (sym (new_in old node new)) (put_back old node s)
