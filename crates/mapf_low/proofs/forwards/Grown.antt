-- Lists of distinct cells that grow.
use Rattle.std.proofs.Common.{◌≡◌, ◌⊎◌, ◌↔◌, ℕ, ◌+◌, ◌<◌, Bool, true, false, List, [], ◌∷◌, ◌++◌, length, take, get_or, if◌then◌else◌, IsTrue, Contains, inl, inr, subst, sym, refl, ap, ◌∙◌}
use Rattle.std.specs.List.{list_any}
use Rattle.std.proofs.Math.Seq.{take-length}
use Rattle.std.proofs.lemmas.List.{append-nil, append_assoc}
use Rattle.std.proofs.lemmas.List.Folds.{list_any_at}
use Rattle.indexmap.specs.IndexSet.{insert_key}
use Rattle.indexmap.proofs.CallerLemmas.{Contains-list_any}
use Rattle.mapf_low.specs.Forwards.FLevels.{IsAdded, Grows}
use Rattle.mapf_low.proofs.Growing.{members_push, none_in_front, FromSome, from_more}

module _ {X : Type 0} (eq : X → X → Bool) (same : (x y : X) → eq x y ≡ true → x ≡ y) (itself : (x : X) → eq x x ≡ true) where
  -- what an insert leaves
  pub added : (xs new : List X) (x : X) → new ≡ insert_key eq xs x → IsAdded x xs new
  added xs new x is = by (list_any (eq x) xs) refl
    where
      by : (b : Bool) → list_any (eq x) xs ≡ b → IsAdded x xs new
      by true e = inl (Contains-list_any eq same xs x e, is ∙ ap (λ c. if c then xs else xs ++ x ∷ []) e)
      by false e = inr (is ∙ ap (λ c. if c then xs else xs ++ x ∷ []) e)

  -- what a test tells
  pub told : (xs : List X) (x : X) (b : Bool) → b ≡ list_any (eq x) xs → IsTrue b ↔ Contains xs x
  told xs x b is = (λ t. Contains-list_any eq same xs x (sym is ∙ t), λ (k, l, e). is ∙ list_any_at (eq x) xs k x l (ap (eq x) e ∙ itself x))

-- nothing more, where all of E is there
pub grows_not : (E : ℕ → Type 0) (xs : List ℕ) → ((v : ℕ) → E v → Contains xs v) → Grows E xs xs
grows_not E xs there = record { more = []; is = sym (append-nil xs); members = λ v. (inl, back v) }
  where
    back : (v : ℕ) → Contains xs v ⊎ E v → Contains xs v
    back v (inl i) = i
    back v (inr e) = there v e

-- one more cell
pub grows_added : (E : ℕ → Type 0) (x : ℕ) (old new : List ℕ) → IsAdded x old new → E x → Grows (λ v. (x ≡ v) × E v) old new
grows_added E x old new (inl (there, is)) e = subst (λ xs. Grows (λ v. (x ≡ v) × E v) old xs) (sym is) (grows_not (λ v. (x ≡ v) × E v) old (λ v h. subst (Contains old) h.0 there))
grows_added E x old new (inr is) e = record { more = x ∷ []; is = is; members = λ v. (λ i. to v ((members_push old x v).0 (subst (λ xs. Contains xs v) is i)), λ h. subst (λ xs. Contains xs v) (sym is) ((members_push old x v).1 (from v h))) }
  where
    to : (v : ℕ) → Contains old v ⊎ (x ≡ v) → Contains old v ⊎ ((x ≡ v) × E v)
    to v (inl i) = inl i
    to v (inr s) = inr (s, subst E s e)

    from : (v : ℕ) → Contains old v ⊎ ((x ≡ v) × E v) → Contains old v ⊎ (x ≡ v)
    from v (inl i) = inl i
    from v (inr h) = inr h.0

-- the same cells, said in another way
pub grows_as : (E F : ℕ → Type 0) (old new : List ℕ) → ((v : ℕ) → E v ↔ F v) → Grows E old new → Grows F old new
grows_as E F old new same h = record { more = h.more; is = h.is; members = λ v. (λ i. to v ((h.members v).0 i), λ p. (h.members v).1 (from v p)) }
  where
    to : (v : ℕ) → Contains old v ⊎ E v → Contains old v ⊎ F v
    to v (inl i) = inl i
    to v (inr e) = inr ((same v).0 e)

    from : (v : ℕ) → Contains old v ⊎ F v → Contains old v ⊎ E v
    from v (inl i) = inl i
    from v (inr f) = inr ((same v).1 f)

-- first the one set of cells, then the other
pub grows_both : (E F : ℕ → Type 0) (a b c : List ℕ) → Grows E a b → Grows F b c → Grows (λ v. E v ⊎ F v) a c
grows_both E F a b c h k = record {
  more = h.more ++ k.more;
  is = k.is ∙ ap (λ xs. xs ++ k.more) h.is ∙ append_assoc a h.more k.more;
  members = λ v. (λ i. to v ((k.members v).0 i), from v);
}
  where
    first : (v : ℕ) → Contains a v ⊎ E v → Contains a v ⊎ (E v ⊎ F v)
    first v (inl i) = inl i
    first v (inr e) = inr (inl e)

    to : (v : ℕ) → Contains b v ⊎ F v → Contains a v ⊎ (E v ⊎ F v)
    to v (inl i) = first v ((h.members v).0 i)
    to v (inr f) = inr (inr f)

    from : (v : ℕ) → Contains a v ⊎ (E v ⊎ F v) → Contains c v
    from v (inl i) = (k.members v).1 (inl ((h.members v).1 (inl i)))
    from v (inr (inl e)) = (k.members v).1 (inl ((h.members v).1 (inr e)))
    from v (inr (inr f)) = (k.members v).1 (inr f)

module _ (R : ℕ → ℕ → Type 0) where
  -- a list that grows by what each of these items leads to
  pub some_none : (items old : List ℕ) → Grows (FromSome R (take 0 items)) old old
  some_none items old = grows_not (FromSome R (take 0 items)) old (λ v s. absurd (none_in_front items s.0 s.1))

  pub some_more : (items old mid new : List ℕ) (k x : ℕ) → k < length items → x ≡ get_or items k x → Grows (FromSome R (take k items)) old mid → Grows (R x) mid new → Grows (FromSome R (take (k + 1) items)) old new
  some_more items old mid new k x l is h one =
      grows_as (λ v. FromSome R (take k items) v ⊎ R x v) (FromSome R (take (k + 1) items)) old new (λ v. from_more R items k x v l is)
      (grows_both (FromSome R (take k items)) (R x) old mid new h one)

  pub some_all : (items old new : List ℕ) (k : ℕ) → k ≡ length items → Grows (FromSome R (take k items)) old new → Grows (FromSome R items) old new
  some_all items old new k e h = subst (λ xs. Grows (FromSome R xs) old new) (ap (λ n. take n items) e ∙ take-length items) h

-- where each leads to itself at most
pub some_itself : (E : ℕ → Type 0) (items old new : List ℕ) → Grows (FromSome (λ u v. (u ≡ v) × E v) items) old new → Grows (λ v. Contains items v × E v) old new
some_itself E items old new h =
    grows_as (FromSome (λ u v. (u ≡ v) × E v) items) (λ v. Contains items v × E v) old new
    (λ v. ((λ s. (subst (Contains items) s.2.0 s.1, s.2.1)), (λ p. (v, p.0, (refl, p.1))))) h
