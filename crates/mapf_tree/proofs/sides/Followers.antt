-- A following conflict by its follower and its leader, and by its sides, of which the smaller agent is the left one.
use Rattle.mapf_tree.proofs.Prelude.{◌≡◌, ◌≢◌, ℕ, ◌-◌, ◌≤◌, ◌==◌, if◌then◌else◌, List, Bool, true, false, min, max, subst, sym, refl, ap, arith, eq-eqb, ne_eqb, both_of, of_both}
use Rattle.mapf_tree.specs.Prelude.{place}

-- agent k's part where agent i follows: the follower is on the cell at that time, and the leader was one time step before
abbrev Part : List (List ℕ) → ℕ → ℕ → ℕ → ℕ → Type 0
Part plan i v t k = place plan k (if k == i then t else t - 1) ≡ v

-- the follower's time is the conflict's
follower_time : (i t : ℕ) → (if i == i then t else t - 1) ≡ t
follower_time i t = ap (λ b. if b then t else t - 1) (eq-eqb i i refl)

-- and the leader's is the one before
pub leader_time : (i j t : ℕ) → i ≢ j → (if j == i then t else t - 1) ≡ t - 1
leader_time i j t n = ap (λ b. if b then t else t - 1) (ne_eqb j i (λ e. n (sym e)))

-- neither is later than the conflict's
pub part_early : (b : Bool) (t last : ℕ) → t ≤ last → (if b then t else t - 1) ≤ last
part_early true t last h = h
part_early false t last h = omega (arith, h)

-- from follower and leader to the sides
pub parts : (plan : List (List ℕ)) (i j v t : ℕ) → i ≢ j → place plan i t ≡ v → place plan j (t - 1) ≡ v → Part plan i v t (min i j) × Part plan i v t (max i j)
parts plan i j v t n follows leads =
    both_of (Part plan i v t) i j (subst (λ s. place plan i s ≡ v) (sym (follower_time i t)) follows) (subst (λ s. place plan j s ≡ v) (sym (leader_time i j t n)) leads)

-- from the sides to follower and leader
pub of_parts : (plan : List (List ℕ)) (i j v t : ℕ) → i ≢ j → Part plan i v t (min i j) → Part plan i v t (max i j) → (place plan i t ≡ v) × (place plan j (t - 1) ≡ v)
of_parts plan i j v t n left right =
    let both = of_both (Part plan i v t) i j left right in
    (subst (λ s. place plan i s ≡ v) (follower_time i t) both.0, subst (λ s. place plan j s ≡ v) (leader_time i j t n) both.1)
