-- Names are in the order of their turns: by their numbers, then by how many turns these keep, and then by what is behind them.
use Rattle.mapf_tree.proofs.Prelude.{◌≡◌, ℕ, zero, suc, ◌+◌, ◌*◌, ◌^◌, ◌<◌, ◌≤◌, List, [], ◌∷◌, ◌++◌, length, map, Ordering, Less, Equal, Greater, nat_cmp, refl, sym, ap, ap₂, ◌∙◌, arith, nat_tests}
use Rattle.mapf_tree.specs.Prelude.{ordering_then, slice_cmp, Side, Left, Right, turn, number_of, turns_of, IsKept}
use Rattle.mapf_tree.proofs.tree.Keyed.{cmp_less, cmp_greater}
use Rattle.mapf_tree.proofs.tree.NameTurns.{number_below, length_turns}

-- turns are compared as numbers
pub compared_turns : (R : Side → Side → Ordering) → R Left Left ≡ Equal → R Left Right ≡ Less → R Right Left ≡ Greater → R Right Right ≡ Equal → (m n : List Side) → slice_cmp R m n ≡ slice_cmp nat_cmp (map turn m) (map turn n)
compared_turns R ll lr rl rr [] [] = refl
compared_turns R ll lr rl rr [] (y ∷ n) = refl
compared_turns R ll lr rl rr (x ∷ m) [] = refl
compared_turns R ll lr rl rr (x ∷ m) (y ∷ n) = ap₂ (λ a b. ordering_then a b) (turns x y) (compared_turns R ll lr rl rr m n)
  where
    turns : (x y : Side) → R x y ≡ nat_cmp (turn x) (turn y)
    turns Left Left = ll
    turns Left Right = lr
    turns Right Left = rl
    turns Right Right = rr

-- a list is before those that it begins
none_first : (n : ℕ) → ordering_then (nat_cmp 0 n) Less ≡ Less
none_first zero = refl
none_first (suc n) = let less : nat_cmp 0 (suc n) ≡ Less = grind (arith, nat_tests) in ap (λ o. ordering_then o Less) less

none_last : (n : ℕ) → ordering_then (nat_cmp n 0) Greater ≡ Greater
none_last zero = refl
none_last (suc n) = let greater : nat_cmp (suc n) 0 ≡ Greater = grind (arith, nat_tests) in ap (λ o. ordering_then o Greater) greater

-- the same may stand before two numbers
cmp_after : (k a b : ℕ) → nat_cmp (k + a) (k + b) ≡ nat_cmp a b
cmp_after k a b = grind (arith, nat_tests)

cmp_suc : (a b : ℕ) → nat_cmp (suc a) (suc b) ≡ nat_cmp a b
cmp_suc a b = grind (arith, nat_tests)

-- numbers first, then how many turns they keep, then the turns behind them
abbrev by_parts : ℕ → ℕ → List Side → ℕ → ℕ → List Side → Ordering
by_parts first few rest first' few' rest' =
    ordering_then (nat_cmp first first') (ordering_then (nat_cmp few few') (slice_cmp nat_cmp (map turn rest) (map turn rest')))

compared : (xs ys r q : List Side) (bits : ℕ) → length xs ≤ bits → length ys ≤ bits → (length xs < bits → r ≡ []) → (length ys < bits → q ≡ []) →
    by_parts (number_of xs bits) (length xs) r (number_of ys bits) (length ys) q ≡ slice_cmp nat_cmp (map turn (xs ++ r)) (map turn (ys ++ q))
compared [] [] r q bits h k f g = refl
compared [] (y ∷ ys) r q zero h k f g = absurd (omega arith)
compared [] (y ∷ ys) r q (suc bits) h k f g =
    let n = number_of (y ∷ ys) (suc bits) in
    let rests = slice_cmp nat_cmp (map turn r) (map turn q) in
    ap (λ o. ordering_then (nat_cmp 0 n) (ordering_then o rests)) (cmp_less 0 (suc (length ys)) (omega arith)) ∙ none_first n
    ∙ sym (ap (λ l. slice_cmp nat_cmp (map turn l) (turn y ∷ map turn (ys ++ q))) (f (omega arith)))
compared (x ∷ xs) [] r q zero h k f g = absurd (omega arith)
compared (x ∷ xs) [] r q (suc bits) h k f g =
    let n = number_of (x ∷ xs) (suc bits) in
    let rests = slice_cmp nat_cmp (map turn r) (map turn q) in
    ap (λ o. ordering_then (nat_cmp n 0) (ordering_then o rests)) (cmp_greater (suc (length xs)) 0 (omega arith)) ∙ none_last n
    ∙ sym (ap (λ l. slice_cmp nat_cmp (turn x ∷ map turn (xs ++ r)) (map turn l)) (g (omega arith)))
compared (x ∷ xs) (y ∷ ys) r q zero h k f g = absurd (omega arith)
compared (Left ∷ xs) (Left ∷ ys) r q (suc bits) h k f g =
    let rests = slice_cmp nat_cmp (map turn r) (map turn q) in
    ap₂ (λ o p. ordering_then o (ordering_then p rests)) (cmp_after (turn Left * 2 ^ bits) (number_of xs bits) (number_of ys bits)) (cmp_suc (length xs) (length ys))
    ∙ compared xs ys r q bits (omega arith) (omega arith) (λ l. f (omega (arith, l))) (λ l. g (omega (arith, l)))
compared (Left ∷ xs) (Right ∷ ys) r q (suc bits) h k f g =
    let below : number_of (Left ∷ xs) (suc bits) < number_of (Right ∷ ys) (suc bits) = omega (arith, number_below xs bits (omega arith)) in
    let rests = ordering_then (nat_cmp (suc (length xs)) (suc (length ys))) (slice_cmp nat_cmp (map turn r) (map turn q)) in
    ap (λ o. ordering_then o rests) (cmp_less (number_of (Left ∷ xs) (suc bits)) (number_of (Right ∷ ys) (suc bits)) below)
compared (Right ∷ xs) (Left ∷ ys) r q (suc bits) h k f g =
    let below : number_of (Left ∷ ys) (suc bits) < number_of (Right ∷ xs) (suc bits) = omega (arith, number_below ys bits (omega arith)) in
    let rests = ordering_then (nat_cmp (suc (length xs)) (suc (length ys))) (slice_cmp nat_cmp (map turn r) (map turn q)) in
    ap (λ o. ordering_then o rests) (cmp_greater (number_of (Right ∷ xs) (suc bits)) (number_of (Left ∷ ys) (suc bits)) below)
compared (Right ∷ xs) (Right ∷ ys) r q (suc bits) h k f g =
    let rests = slice_cmp nat_cmp (map turn r) (map turn q) in
    ap₂ (λ o p. ordering_then o (ordering_then p rests)) (cmp_after (turn Right * 2 ^ bits) (number_of xs bits) (number_of ys bits)) (cmp_suc (length xs) (length ys))
    ∙ compared xs ys r q bits (omega arith) (omega arith) (λ l. f (omega (arith, l))) (λ l. g (omega (arith, l)))

parted : (o p s : Ordering) → ordering_then (ordering_then o p) s ≡ ordering_then o (ordering_then p s)
parted Less p s = refl
parted Equal p s = refl
parted Greater p s = refl

-- what is kept of two names is compared as their turns are
pub name_order : {o p t : Ordering} {first few first' few' : ℕ} {rest rest' name name' : List Side} → t ≡ ordering_then o p → o ≡ nat_cmp first first' → p ≡ nat_cmp few few' →
    IsKept first few rest → IsKept first' few' rest' → turns_of few 64 first ++ rest ≡ name → turns_of few' 64 first' ++ rest' ≡ name' →
    ordering_then t (slice_cmp nat_cmp (map turn rest) (map turn rest')) ≡ slice_cmp nat_cmp (map turn name) (map turn name')
name_order {o} {p} {t} {first} {few} {first'} {few'} {rest} {rest'} both firsts counts kept kept' is is' =
    let long = length_turns few 64 first kept.within in
    let long' = length_turns few' 64 first' kept'.within in
    let rests = slice_cmp nat_cmp (map turn rest) (map turn rest') in
    ap (λ q. ordering_then q rests) both ∙ parted o p rests ∙ ap₂ (λ a b. ordering_then a (ordering_then b rests)) firsts counts
    ∙ ap₂ (λ a b. by_parts a b rest first' few' rest') (sym kept.number) (sym long)
    ∙ ap₂ (λ a b. by_parts (number_of (turns_of few 64 first) 64) (length (turns_of few 64 first)) rest a b rest') (sym kept'.number) (sym long')
    ∙ compared (turns_of few 64 first) (turns_of few' 64 first') rest rest' 64 (omega (arith, long, kept.within)) (omega (arith, long', kept'.within))
    (λ l. kept.filled (omega (arith, l, long))) (λ l. kept'.filled (omega (arith, l, long')))
    ∙ ap₂ (λ m n. slice_cmp nat_cmp (map turn m) (map turn n)) is is'
