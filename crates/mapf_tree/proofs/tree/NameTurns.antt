-- A name's turns are those of its number.
use Rattle.mapf_tree.proofs.Prelude.{◌≡◌, ◌⊎◌, ℕ, zero, suc, ◌+◌, ◌-◌, ◌*◌, ◌^◌, ◌<◌, ◌≤◌, nat_lt, List, [], ◌∷◌, ◌++◌, length, inl, inr, refl, sym, ap, ap₂, ◌∙◌, arith, subst, append_assoc, append-nil, length-append, cases_lt, cond-true, cond-false, lt-ltb, le-ltb}
use Rattle.std.proofs.Math.Nat.{pow-suc}
use Rattle.std.proofs.lemmas.Nat.{pow_pos}
use Rattle.mapf_tree.specs.Prelude.{Side, Left, Right, turn, number_of, turns_of, IsKept}

-- the first turn of a number is that of its highest bit
pub read_left : (few bits n : ℕ) → n < 2 ^ bits → turns_of (suc few) (suc bits) n ≡ Left ∷ turns_of few bits n
read_left few bits n h = cond-true (nat_lt n (2 ^ bits)) (Left ∷ turns_of few bits n) (Right ∷ turns_of few bits (n - 2 ^ bits)) (lt-ltb n (2 ^ bits) h)

pub read_right : (few bits n : ℕ) → 2 ^ bits ≤ n → turns_of (suc few) (suc bits) n ≡ Right ∷ turns_of few bits (n - 2 ^ bits)
read_right few bits n h = cond-false (nat_lt n (2 ^ bits)) (Left ∷ turns_of few bits n) (Right ∷ turns_of few bits (n - 2 ^ bits)) (le-ltb n (2 ^ bits) h)

-- there are so many turns
pub length_turns : (few bits n : ℕ) → few ≤ bits → length (turns_of few bits n) ≡ few
length_turns zero bits n h = refl
length_turns (suc few) zero n h = absurd (omega arith)
length_turns (suc few) (suc bits) n h = go (cases_lt n (2 ^ bits)) (length_turns few bits n (omega arith)) (length_turns few bits (n - 2 ^ bits) (omega arith))
  where
    go : (n < 2 ^ bits) ⊎ (2 ^ bits ≤ n) → length (turns_of few bits n) ≡ few → length (turns_of few bits (n - 2 ^ bits)) ≡ few → length (turns_of (suc few) (suc bits) n) ≡ suc few
    go (inl l) e f = ap length (read_left few bits n l) ∙ ap (λ k. suc k) e
    go (inr l) e f = ap length (read_right few bits n l) ∙ ap (λ k. suc k) f

-- the number has so many bits
pub number_below : (turns : List Side) (bits : ℕ) → length turns ≤ bits → number_of turns bits < 2 ^ bits
number_below [] bits h = pow_pos bits
number_below (s ∷ turns) zero h = absurd (omega arith)
number_below (Left ∷ turns) (suc bits) h = omega (arith, pow-suc 2 bits, number_below turns bits (omega arith))
number_below (Right ∷ turns) (suc bits) h = omega (arith, pow-suc 2 bits, number_below turns bits (omega arith))

-- the turns of the number of turns are these turns
pub turns_back : (turns : List Side) (bits : ℕ) → length turns ≤ bits → turns_of (length turns) bits (number_of turns bits) ≡ turns
turns_back [] bits h = refl
turns_back (s ∷ turns) zero h = absurd (omega arith)
turns_back (Left ∷ turns) (suc bits) h =
    let few : length turns ≤ bits = omega arith in
    let same : number_of (Left ∷ turns) (suc bits) ≡ number_of turns bits = omega arith in
    ap (turns_of (suc (length turns)) (suc bits)) same ∙ read_left (length turns) bits (number_of turns bits) (number_below turns bits few) ∙ ap (λ l. Left ∷ l) (turns_back turns bits few)
turns_back (Right ∷ turns) (suc bits) h =
    let few : length turns ≤ bits = omega arith in
    let more : 2 ^ bits ≤ number_of (Right ∷ turns) (suc bits) = omega arith in
    let same : number_of (Right ∷ turns) (suc bits) - 2 ^ bits ≡ number_of turns bits = omega arith in
    read_right (length turns) bits (number_of (Right ∷ turns) (suc bits)) more ∙ ap (λ n. Right ∷ turns_of (length turns) bits n) same ∙ ap (λ l. Right ∷ l) (turns_back turns bits few)

-- a turn behind the others adds its bit
pub number_push : (turns : List Side) (s : Side) (bits behind : ℕ) → length turns + suc behind ≡ bits → number_of (turns ++ s ∷ []) bits ≡ number_of turns bits + turn s * 2 ^ behind
number_push turns s zero behind h = absurd (omega arith)
number_push [] s (suc bits) behind h =
    let same : bits ≡ behind = omega arith in
    let f : turn s * 2 ^ bits ≡ turn s * 2 ^ behind = ap (λ k. turn s * 2 ^ k) same in
    omega (arith, f)
number_push (x ∷ turns) s (suc bits) behind h =
    let ih = number_push turns s bits behind (omega arith) in
    omega (arith, ih)

module _ (first few : ℕ) (s : Side) (room : few < 64) (kept : number_of (turns_of few 64 first) 64 ≡ first) where
  so_many : length (turns_of few 64 first) ≡ few
  so_many = length_turns few 64 first (omega arith)

  one_more : length (turns_of few 64 first ++ s ∷ []) ≡ few + 1
  one_more = omega (arith, length-append (turns_of few 64 first) (s ∷ []), so_many)

  -- the number of one turn more
  pub number_more : number_of (turns_of few 64 first ++ s ∷ []) 64 ≡ first + turn s * 2 ^ (63 - few)
  number_more =
      number_push (turns_of few 64 first) s 64 (63 - few) (omega (arith, so_many)) ∙ ap (λ n. n + turn s * 2 ^ (63 - few)) kept

  -- which fits
  pub number_fits : first + turn s * 2 ^ (63 - few) < 2 ^ 64
  number_fits = subst (λ n. n < 2 ^ 64) number_more (number_below (turns_of few 64 first ++ s ∷ []) 64 (omega (arith, one_more)))

  -- and whose turns are those before and this one
  pub turns_more : turns_of (few + 1) 64 (number_of (turns_of few 64 first ++ s ∷ []) 64) ≡ turns_of few 64 first ++ s ∷ []
  turns_more =
      ap (λ k. turns_of k 64 (number_of (turns_of few 64 first ++ s ∷ []) 64)) (sym one_more)
      ∙ turns_back (turns_of few 64 first ++ s ∷ []) 64 (omega (arith, one_more))

  -- what the number of one turn more keeps
  pub number_kept : (n : ℕ) → n ≡ number_of (turns_of few 64 first ++ s ∷ []) 64 → number_of (turns_of (few + 1) 64 n) 64 ≡ n
  number_kept n is = ap (λ k. number_of (turns_of (few + 1) 64 k) 64) is ∙ ap (λ l. number_of l 64) turns_more ∙ sym is

  pub name_more : (n : ℕ) (rest none : List Side) → n ≡ number_of (turns_of few 64 first ++ s ∷ []) 64 → rest ≡ [] → none ≡ [] →
      turns_of (few + 1) 64 n ++ none ≡ (turns_of few 64 first ++ rest) ++ s ∷ []
  name_more n rest none is empty nothing =
      ap₂ (λ k l. turns_of (few + 1) 64 k ++ l) is nothing ∙ append-nil (turns_of (few + 1) 64 (number_of (turns_of few 64 first ++ s ∷ []) 64)) ∙ turns_more
      ∙ ap (λ l. l ++ s ∷ []) (sym (ap (λ l. turns_of few 64 first ++ l) empty ∙ append-nil (turns_of few 64 first)))

-- a name is as long as what is kept of it
pub length_kept : (first few : ℕ) (rest : List Side) → IsKept first few rest → length (turns_of few 64 first ++ rest) ≡ few + length rest
length_kept first few rest kept = length-append (turns_of few 64 first) rest ∙ ap (λ n. n + length rest) (length_turns few 64 first kept.within)

-- turns are read one by one
module _ (whole turns : List Side) (few turn left bit : ℕ) (more : turn < few) (within : few ≤ 64) (is : bit ≡ 2 ^ (63 - turn)) (so_far : turns ++ turns_of (few - turn) (64 - turn) left ≡ whole) where
  one_read : turns_of (few - turn) (64 - turn) left ≡ turns_of (suc (few - (turn + 1))) (suc (64 - (turn + 1))) left
  one_read =
      let fewer : few - turn ≡ suc (few - (turn + 1)) = omega arith in
      let lower : 64 - turn ≡ suc (64 - (turn + 1)) = omega arith in
      ap₂ (λ k n. turns_of k n left) fewer lower

  bit_is : bit ≡ 2 ^ (64 - (turn + 1))
  bit_is = let same : 63 - turn ≡ 64 - (turn + 1) = omega arith in is ∙ ap (λ k. 2 ^ k) same

  pub left_read : left < bit → (turns ++ Left ∷ []) ++ turns_of (few - (turn + 1)) (64 - (turn + 1)) left ≡ whole
  left_read low =
      append_assoc turns (Left ∷ []) (turns_of (few - (turn + 1)) (64 - (turn + 1)) left)
      ∙ ap (λ l. turns ++ l) (sym (one_read ∙ read_left (few - (turn + 1)) (64 - (turn + 1)) left (subst (λ n. left < n) bit_is low))) ∙ so_far

  pub right_read : bit ≤ left → (turns ++ Right ∷ []) ++ turns_of (few - (turn + 1)) (64 - (turn + 1)) (left - bit) ≡ whole
  right_read high =
      append_assoc turns (Right ∷ []) (turns_of (few - (turn + 1)) (64 - (turn + 1)) (left - bit))
      ∙ ap (λ n. turns ++ Right ∷ turns_of (few - (turn + 1)) (64 - (turn + 1)) (left - n)) bit_is
      ∙ ap (λ l. turns ++ l) (sym (one_read ∙ read_right (few - (turn + 1)) (64 - (turn + 1)) left (subst (λ n. n ≤ left) bit_is high))) ∙ so_far
