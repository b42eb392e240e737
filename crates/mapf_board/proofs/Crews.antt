-- Steps, seats that are cut off and seats that are taken in leave each worker one part and a number of its own.
use Rattle.std.proofs.Common.{◌≡◌, ◌⊎◌, ℕ, zero, suc, ◌+◌, ◌<◌, true, false, List, [], ◌∷◌, ◌++◌, length, set, inl, inr, sym, refl, ap, ◌∙◌, subst, ⊎_elim, arith, true≢false}
use mathlib.Core.Option.{some, some-ne-none, some-injective}
use lib.ListN.{get_elem?}
use Rattle.atomic_table.proofs.Lists.{at_set}
use Rattle.mapf_board.specs.Board.{IsCrew}
use Rattle.mapf_board.specs.Views.{Seen}

-- an item of a list with one more is an item of the list, or the last one
at_end : {X : Type 0} (l : List X) (y x : X) (k : ℕ) → get_elem? (l ++ y ∷ []) k ≡ some x → (get_elem? l k ≡ some x) ⊎ ((k ≡ length l) × (y ≡ x))
at_end [] y x zero e = inr (refl, some-injective y x e)
at_end [] y x (suc k) e = absurd (some-ne-none x (sym e))
at_end (z ∷ l) y x zero e = inl e
at_end (z ∷ l) y x (suc k) e = ⊎_elim (λ t. inl t) (λ t. inr (ap suc t.0, t.1)) (at_end l y x k e)

module _ {J A : Type 0} where
  -- a view of a list, which is the same as one there in what a worker is known by
  abbrev Was : List (Seen J A) → ℕ → Seen J A → Type 0
  Was vs k x = (y : Seen J A) × (get_elem? vs k ≡ some y) × (y.is_owner ≡ false) × (y.number ≡ x.number) × (y.part ≡ x.part)

  -- a view changes: it is no worker's then, or keeps what a worker is known by
  pub same_crew : (n id : ℕ) (vs : List (Seen J A)) (u v : Seen J A) → get_elem? vs id ≡ some u
      → (v.is_owner ≡ false → 0 < v.part → (u.is_owner ≡ false) × (u.number ≡ v.number) × (u.part ≡ v.part)) → IsCrew n vs → IsCrew n (set vs id v)
  same_crew n id vs u v me keeps crew =
      let was : (k : ℕ) (x : Seen J A) → get_elem? (set vs id v) k ≡ some x → x.is_owner ≡ false → 0 < x.part → Was vs k x =
      λ k x at works parted. ⊎_elim
      (λ (t : (k ≡ id) × (v ≡ x)). let is = keeps (ap (λ (z : Seen J A). z.is_owner) t.1 ∙ works) (subst (λ (n : ℕ). 0 < n) (sym (ap (λ (z : Seen J A). z.part) t.1)) parted) in
      (u, ap (get_elem? vs) t.0 ∙ me, is.0, is.1 ∙ ap (λ (z : Seen J A). z.number) t.1, is.2 ∙ ap (λ (z : Seen J A). z.part) t.1))
      (λ t. (x, t.1, works, refl, refl)) (at_set vs id k v x at) in
      record {
        one_part = λ k x at works parted. let y = was k x at works parted in let r = crew.one_part k y.0 y.1 y.2 (omega (arith, y.4, parted)) in (sym y.4 ∙ r.0, omega (arith, y.3, r.1));
        differ = λ a b x w ax aw works others px pw same. let y = was a x ax works px in let z = was b w aw others pw in
            crew.differ a b y.0 z.0 y.1 z.1 y.2 z.2 (omega (arith, y.4, px)) (omega (arith, z.4, pw)) (y.3 ∙ same ∙ sym z.3);
      }

  -- a worker of the next number is added
  pub one_more : (n : ℕ) (vs : List (Seen J A)) (v : Seen J A) → v.part ≡ 1 → v.number ≡ n → IsCrew n vs → IsCrew (n + 1) (vs ++ v ∷ [])
  one_more n vs v one is crew = record {
    one_part = λ k x at works parted. ⊎_elim
        (λ t. let r = crew.one_part k x t works parted in (r.0, omega (arith, r.1)))
        (λ (t : (k ≡ length vs) × (v ≡ x)). (ap (λ (z : Seen J A). z.part) (sym t.1) ∙ one, omega (arith, ap (λ (z : Seen J A). z.number) t.1, is)))
        (at_end vs v x k at);
    differ = λ a b x w ax aw works others px pw same. ⊎_elim
        (λ t. ⊎_elim (λ s. crew.differ a b x w t s works others px pw same)
        (λ (s : (b ≡ length vs) × (v ≡ w)). absurd (omega (arith, (crew.one_part a x t works px).1, same, ap (λ (z : Seen J A). z.number) s.1, is))) (at_end vs v w b aw))
        (λ (t : (a ≡ length vs) × (v ≡ x)). ⊎_elim (λ s. absurd (omega (arith, (crew.one_part b w s others pw).1, same, ap (λ (z : Seen J A). z.number) t.1, is)))
        (λ (s : (b ≡ length vs) × (v ≡ w)). t.0 ∙ sym s.0) (at_end vs v w b aw))
        (at_end vs v x a ax);
  }

  -- there is no worker where the only view is the owner's
  pub no_crew : (n : ℕ) (v : Seen J A) → v.is_owner ≡ true → IsCrew n (v ∷ [])
  no_crew n v owns =
      let none : (k : ℕ) (x : Seen J A) → get_elem? (v ∷ []) k ≡ some x → x.is_owner ≡ false → ⊥ = λ k x at works. ⊎_elim
      (λ t. some-ne-none x (sym t)) (λ (t : (k ≡ 0) × (v ≡ x)). true≢false (sym owns ∙ ap (λ (z : Seen J A). z.is_owner) t.1 ∙ works)) (at_end [] v x k at) in
      record {
        one_part = λ k x at works parted. absurd (none k x at works);
        differ = λ a b x w ax aw works others px pw same. absurd (none a x ax works);
      }
