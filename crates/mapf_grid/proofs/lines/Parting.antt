-- Blanks part words: how the words of a line are those of its parts.
use Rattle.std.proofs.Common.{◌≡◌, ℕ, ◌+◌, ◌-◌, ◌<◌, ◌≤◌, Bool, true, false, cond, nat_lt, List, [], ◌∷◌, ◌++◌, length, get_or, take, drop, filter, add-zero, length-take-le, length-drop, get_or-take, get_or-drop, take-append-drop, All, refl, sym, ap, ◌∙◌, subst, ⊎_elim, zero, suc, arith, append_assoc, append-nil}
use Rattle.std.specs.List.{slice_split, onto_first}
use Rattle.std.proofs.lemmas.Bool.{and_parts, and_from, lt-ltb, both_ways, cases_lt}
use Rattle.std.proofs.lemmas.List.{take_more, take_all}
use Rattle.std.proofs.lemmas.List.Elements.{filter-append, All-from_get_or}
use Rattle.std.proofs.lemmas.List.Splits.{slice_split_none, length-slice_split}
use Rattle.mapf_grid.specs.Lines.{words, is_blank, is_blank_line}
use Rattle.mapf_grid.specs.Cuts.{IsBehindBlanks, IsBeforeBlanks, IsPartedFront, IsPartedBack}

onto_first-append : (x : ℕ) (parts more : List (List ℕ)) → 0 < length parts → onto_first x (parts ++ more) ≡ onto_first x parts ++ more
onto_first-append x [] more some = absurd (omega arith)
onto_first-append x (part ∷ parts) more some = refl

-- a blank cuts a line in two
slice_split-append : (a c : List ℕ) (b : ℕ) → is_blank b ≡ true → slice_split is_blank (a ++ b ∷ c) ≡ slice_split is_blank a ++ slice_split is_blank c
slice_split-append [] c b blank = ap (λ t. cond t ([] ∷ slice_split is_blank c) (onto_first b (slice_split is_blank c))) blank
slice_split-append (x ∷ a) c b blank =
    let front = slice_split is_blank a in
    let back = slice_split is_blank c in
    let e : slice_split is_blank (a ++ b ∷ c) ≡ front ++ back = slice_split-append a c b blank in
    ap (λ parts. cond (is_blank x) ([] ∷ parts) (onto_first x parts)) e
    ∙ elim (is_blank x) as (λ t. cond t ([] ∷ (front ++ back)) (onto_first x (front ++ back)) ≡ cond t ([] ∷ front) (onto_first x front) ++ back)
    [ true ↦ refl | false ↦ onto_first-append x front back (omega (arith, length-slice_split is_blank a)) ]

-- the words on both sides of a blank
pub words-parted : (a c : List ℕ) (b : ℕ) → is_blank b ≡ true → words (a ++ b ∷ c) ≡ words a ++ words c
words-parted a c b blank =
    let some : List ℕ → Bool = λ piece. nat_lt 0 (length piece) in
    ap (filter some) (slice_split-append a c b blank) ∙ filter-append some (slice_split is_blank a) (slice_split is_blank c)

pub words-cons_blank : (b : ℕ) (c : List ℕ) → is_blank b ≡ true → words (b ∷ c) ≡ words c
words-cons_blank b c blank = words-parted [] c b blank

-- a line of blanks before a line adds no word
pub words-blanks_before : (blanks line : List ℕ) → is_blank_line blanks ≡ true → words (blanks ++ line) ≡ words line
words-blanks_before [] line h = refl
words-blanks_before (b ∷ blanks) line h =
    let p = and_parts (is_blank b) (is_blank_line blanks) h in
    words-cons_blank b (blanks ++ line) p.0 ∙ words-blanks_before blanks line p.1

-- a line of blanks has no word
pub words-blanks : (blanks : List ℕ) → is_blank_line blanks ≡ true → words blanks ≡ []
words-blanks blanks h = ap words (sym (append-nil blanks)) ∙ words-blanks_before blanks [] h

-- the back is empty or begins with a blank
pub words-append_back : (a b : List ℕ) → (0 < length b → is_blank (get_or b 0 0) ≡ true) → words (a ++ b) ≡ words a ++ words b
words-append_back a [] parted = ap words (append-nil a) ∙ sym (append-nil (words a))
words-append_back a (x ∷ b) parted =
    let blank : is_blank x ≡ true = parted (omega arith) in
    words-parted a b x blank ∙ ap (λ w. words a ++ w) (sym (words-cons_blank x b blank))

-- a list that isn't empty is all but its last element, and that element
pub list_by_last : (a : List ℕ) → 0 < length a → a ≡ take (length a - 1) a ++ get_or a (length a - 1) 0 ∷ []
list_by_last a some =
    let inside : length a - 1 < length a = omega arith in
    let all : length a ≤ length a - 1 + 1 = omega arith in
    sym (take_all (length a - 1 + 1) a all) ∙ take_more a (length a - 1) 0 inside

-- the front is empty or ends with a blank
pub words-append_front : (a b : List ℕ) → (0 < length a → is_blank (get_or a (length a - 1) 0) ≡ true) → words (a ++ b) ≡ words a ++ words b
words-append_front [] b parted = refl
words-append_front (y ∷ a) b parted =
    let line = y ∷ a in
    let x = get_or line (length line - 1) 0 in
    let front = take (length line - 1) line in
    let blank : is_blank x ≡ true = parted (omega arith) in
    let e : line ≡ front ++ x ∷ [] = list_by_last line (omega arith) in
    let whole : words (line ++ b) ≡ words front ++ words b =
    ap (λ l. words (l ++ b)) e ∙ ap words (append_assoc front (x ∷ []) b) ∙ words-parted front b x blank in
    let part : words line ≡ words front =
    ap words e ∙ words-parted front [] x blank ∙ append-nil (words front) in
    whole ∙ ap (λ w. w ++ words b) (sym part)

-- a line of blanks that isn't empty begins with a blank
pub blank_at_front : (blanks : List ℕ) → is_blank_line blanks ≡ true → 0 < length blanks → is_blank (get_or blanks 0 0) ≡ true
blank_at_front [] h some = absurd (omega arith)
blank_at_front (b ∷ blanks) h some = (and_parts (is_blank b) (is_blank_line blanks) h).0

-- a line of blanks behind a line adds no word
pub words-blanks_behind : (line blanks : List ℕ) → is_blank_line blanks ≡ true → words (line ++ blanks) ≡ words line
words-blanks_behind line blanks h =
    words-append_back line blanks (blank_at_front blanks h) ∙ ap (λ w. words line ++ w) (words-blanks blanks h) ∙ append-nil (words line)

-- bytes that are no blanks are one word
pub words-word : (word : List ℕ) → 0 < length word → All (λ b. is_blank b ≡ false) word → words word ≡ word ∷ []
words-word word some each =
    let keep : List ℕ → Bool = λ piece. nat_lt 0 (length piece) in
    ap (filter keep) (slice_split_none is_blank word each) ∙ ap (λ t. cond t (word ∷ []) []) (lt-ltb 0 (length word) some)

pub is_blank_line-push : (blanks : List ℕ) (b : ℕ) → is_blank_line blanks ≡ true → is_blank b ≡ true → is_blank_line (blanks ++ b ∷ []) ≡ true
is_blank_line-push [] b h blank = and_from (is_blank b) true blank refl
is_blank_line-push (x ∷ blanks) b h blank =
    let p = and_parts (is_blank x) (is_blank_line blanks) h in
    and_from (is_blank x) (is_blank_line (blanks ++ b ∷ [])) p.0 (is_blank_line-push blanks b p.1 blank)

-- a front that ends with a blank, by its length
ends_with_blank : (n : ℕ) (front : List ℕ) → n ≤ length front → (0 < n → is_blank (get_or front (n - 1) 0) ≡ true)
    → 0 < length (take n front) → is_blank (get_or (take n front) (length (take n front) - 1) 0) ≡ true
ends_with_blank n front within blank some =
    let long : length (take n front) ≡ n = length-take-le n front within in
    let inside : n - 1 < n = omega arith in
    ap (λ i. is_blank (get_or (take n front) (i - 1) 0)) long ∙ ap is_blank (get_or-take n front (n - 1) 0 inside) ∙ blank (omega arith)

-- a word before the first blank isn't empty where the line begins with no blank
n_not_0 : (n : ℕ) (back : List ℕ) → 0 < length back → is_blank (get_or back 0 0) ≡ false → (n < length back → is_blank (get_or back n 0) ≡ true) → 0 < n
n_not_0 zero back some begins blank = absurd (both_ways _ begins (blank some))
n_not_0 (suc n) back some begins blank = omega arith

n_not_all : (n : ℕ) (front : List ℕ) → 0 < length front → n ≤ length front → is_blank (get_or front (length front - 1) 0) ≡ false → (0 < n → is_blank (get_or front (n - 1) 0) ≡ true) → n < length front
n_not_all n front some within ends blank =
    ⊎_elim (λ l. l) (λ g. absurd (let same : n ≡ length front = omega arith in
    both_ways _ ends (subst (λ m. is_blank (get_or front (m - 1) 0) ≡ true) same (blank (omega arith))))) (cases_lt n (length front))

-- one more blank is passed
pub IsBehindBlanks-more : {line back : List ℕ} → IsBehindBlanks line back → 0 < length back → is_blank (get_or back 0 0) ≡ true → IsBehindBlanks line (take (length back - 1) (drop 1 back))
IsBehindBlanks-more {back = []} cut some blank = absurd (omega arith)
IsBehindBlanks-more {back = b ∷ back} cut some blank =
    let rest : take (length (b ∷ back) - 1) back ≡ back = take_all (length (b ∷ back) - 1) back (omega arith) in
    record {
      before = cut.before ++ b ∷ [];
      whole = cut.whole ∙ sym (append_assoc cut.before (b ∷ []) back) ∙ ap (λ r. (cut.before ++ b ∷ []) ++ r) (sym rest);
      blanks = is_blank_line-push cut.before b cut.blanks blank;
    }

-- a line behind blanks alone has no words where nothing is behind them
pub words-nothing_behind : {line back : List ℕ} → IsBehindBlanks line back → back ≡ [] → words line ≡ []
words-nothing_behind cut none =
    ap words (cut.whole ∙ ap (λ b. cut.before ++ b) none) ∙ words-blanks_before cut.before [] cut.blanks

pub words-nothing_before : {line front : List ℕ} → IsBeforeBlanks line front → front ≡ [] → words line ≡ []
words-nothing_before cut none =
    ap words (cut.whole ∙ ap (λ f. f ++ cut.after) none) ∙ words-blanks cut.after cut.blanks

-- bytes up to the first blank are the first word
pub words-first : {line back : List ℕ} (n : ℕ) → IsBehindBlanks line back → 0 < length back → n ≤ length back → is_blank (get_or back 0 0) ≡ false
    → ((k : ℕ) → k < n → is_blank (get_or back k 0) ≡ false) → (n < length back → is_blank (get_or back n 0) ≡ true)
    → words line ≡ take n back ∷ words (drop n back)
words-first {line} {back} n cut some within begins word blank =
    let long : length (take n back) ≡ n = length-take-le n back within in
    let n_above : 0 < n = n_not_0 n back some begins blank in
    let front : words (take n back) ≡ take n back ∷ [] =
    words-word (take n back) (omega arith)
    (All-from_get_or (λ b. is_blank b ≡ false) (take n back) 0 (λ i l. let near : i < n = omega arith in ap is_blank (get_or-take n back i 0 near) ∙ word i near)) in
    ap words cut.whole ∙ words-blanks_before cut.before back cut.blanks
    ∙ ap words (sym (take-append-drop n back))
    ∙ words-append_back (take n back) (drop n back)
    (λ h. ap is_blank (get_or-drop n back 0 0 ∙ ap (λ i. get_or back i 0) (add-zero n)) ∙ blank (omega (arith, length-drop n back)))
    ∙ ap (λ w. w ++ words (drop n back)) front

-- bytes behind the last blank are the last word
pub words-last : {line front : List ℕ} (n : ℕ) → IsBeforeBlanks line front → 0 < length front → n ≤ length front → is_blank (get_or front (length front - 1) 0) ≡ false
    → ((k : ℕ) → n ≤ k → k < length front → is_blank (get_or front k 0) ≡ false) → (0 < n → is_blank (get_or front (n - 1) 0) ≡ true)
    → words line ≡ words (take n front) ++ drop n front ∷ []
words-last {line} {front} n cut some within ends word blank =
    let long : length (take n front) ≡ n = length-take-le n front within in
    let rest : length (drop n front) ≡ length front - n = length-drop n front in
    let n_below : n < length front = n_not_all n front some within ends blank in
    let back : words (drop n front) ≡ drop n front ∷ [] =
    words-word (drop n front) (omega arith)
    (All-from_get_or (λ b. is_blank b ≡ false) (drop n front) 0 (λ i l. ap is_blank (get_or-drop n front i 0) ∙ word (n + i) (omega arith) (omega arith))) in
    ap words cut.whole ∙ words-blanks_behind front cut.after cut.blanks
    ∙ ap words (sym (take-append-drop n front))
    ∙ words-append_front (take n front) (drop n front) (ends_with_blank n front within blank)
    ∙ ap (λ w. words (take n front) ++ w) back

pub IsPartedBack-first : {line back : List ℕ} (n : ℕ) → IsBehindBlanks line back → (n < length back → is_blank (get_or back n 0) ≡ true) → IsPartedBack line (drop n back)
IsPartedBack-first {line} {back} n cut blank = record {
  before = cut.before ++ take n back;
  whole = cut.whole ∙ ap (λ b. cut.before ++ b) (sym (take-append-drop n back)) ∙ sym (append_assoc cut.before (take n back) (drop n back));
  parted = λ h. ap is_blank (get_or-drop n back 0 0 ∙ ap (λ i. get_or back i 0) (add-zero n)) ∙ blank (omega (arith, length-drop n back));
}

pub IsPartedFront-last : {line front : List ℕ} (n : ℕ) → IsBeforeBlanks line front → n ≤ length front → (0 < n → is_blank (get_or front (n - 1) 0) ≡ true) → IsPartedFront line (take n front)
IsPartedFront-last {line} {front} n cut within blank = record {
  after = drop n front ++ cut.after;
  whole = cut.whole ∙ ap (λ f. f ++ cut.after) (sym (take-append-drop n front)) ∙ append_assoc (take n front) (drop n front) cut.after;
  parted = ends_with_blank n front within blank;
}
