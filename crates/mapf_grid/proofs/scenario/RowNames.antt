-- A row's line spells one row: the name that stands in it is one, and so are the other fields.
use Rattle.std.proofs.Common.{◌≡◌, ℕ, ◌+◌, ◌-◌, ◌<◌, ◌≤◌, suc, true, false, List, [], ◌∷◌, ◌++◌, length, get_or, slice_get, Some, refl, sym, ap, ap₂, ◌∙◌, inl, inr, arith, length-append}
use Rattle.std.proofs.lemmas.Bool.{both_ways, cases_Bool, cases_order, and_from}
use Rattle.std.proofs.lemmas.Option.{same_Some}
use Rattle.std.proofs.lemmas.List.{get_or_append_left, get_or-append_right}
use Rattle.mapf_grid.specs.Lines.{words, is_blank, is_blank_line, number_of}
use Rattle.mapf_grid.specs.ScenarioFile.{HasName, IsRowOf, IsScenario, field}
use Rattle.mapf_grid.specs.declared.scenario.Row.{Row}
use Rattle.mapf_grid.proofs.lines.Parting.{words-append_back, words-append_front, words-cons_blank}
use Rattle.mapf_grid.proofs.scenario.RowCuts.{blank_at, words-some}

-- of two cuts of a line the later front is the earlier one and something more
cut_between : (a b c d : List ℕ) → a ++ b ≡ c ++ d → length a < length c → (e : List ℕ) × (c ≡ a ++ e) × (b ≡ e ++ d) × (0 < length e)
cut_between [] b c d same later = (c, refl, same, later)
cut_between (x ∷ a) b [] d same later = absurd (omega arith)
cut_between (x ∷ a) b (y ∷ c) d same later =
    let heads : x ≡ y = cc in
    let tails : a ++ b ≡ c ++ d = cc in
    let cut = cut_between a b c d tails (omega arith) in
    (cut.0, ap₂ (λ z zs. z ∷ zs) (sym heads) cut.1, cut.2, cut.3)

-- two cuts at one place are one
one_cut : (a b c d : List ℕ) → a ++ b ≡ c ++ d → length a ≡ length c → (a ≡ c) × (b ≡ d)
one_cut [] b [] d same long = (refl, same)
one_cut [] b (y ∷ c) d same long = absurd (omega arith)
one_cut (x ∷ a) b [] d same long = absurd (omega arith)
one_cut (x ∷ a) b (y ∷ c) d same long =
    let heads : x ≡ y = cc in
    let tails : a ++ b ≡ c ++ d = cc in
    let cut = one_cut a b c d tails (omega arith) in
    (ap₂ (λ z zs. z ∷ zs) heads cut.0, cut.1)

-- a line without a word is blank
blank_without_words : (line : List ℕ) → length (words line) ≡ 0 → is_blank_line line ≡ true
blank_without_words [] none = refl
blank_without_words (b ∷ line) none =
    elim (cases_Bool (is_blank b)) [
      | inl blank ↦ and_from (is_blank b) (is_blank_line line) blank (blank_without_words line (ap length (sym (words-cons_blank b line blank)) ∙ none))
      | inr seen ↦ (let some = words-some (b ∷ line) (omega arith) seen in absurd (omega (arith, some, none)))
    ]

-- a line that ends with no blank has a word
words-some_at_end : (line : List ℕ) → 0 < length line → is_blank (get_or line (length line - 1) 0) ≡ false → 0 < length (words line)
words-some_at_end line some ends =
    elim (cases_order (length (words line)) 0) [
      | inl none ↦ absurd (both_ways _ ends (blank_at line (length line - 1) (blank_without_words line none) (omega arith)))
      | inr other ↦ elim other [ inl below ↦ absurd (omega (arith, below)) | inr above ↦ above ]
    ]

-- of two names in a line, neither begins before the other
name_not_later : {line a b : List ℕ} → (h : HasName line a) (k : HasName line b) → length h.before < length k.before → ⊥
name_not_later {line} {a} {b} h k later =
    let cut = cut_between h.before (a ++ h.after) k.before (b ++ k.after) (sym h.whole ∙ k.whole) later in
    let more = cut.0 in
    let first : get_or more 0 0 ≡ get_or a 0 0 =
    sym (get_or_append_left more (b ++ k.after) 0 0 cut.3) ∙ ap (λ l. get_or l 0 0) (sym cut.2) ∙ get_or_append_left a h.after 0 0 h.some in
    let word : 0 < length (words more) = words-some more cut.3 (ap is_blank first ∙ h.begins) in
    let both : words k.before ≡ words h.before ++ words more = ap words cut.1 ∙ words-append_front h.before more (λ _. h.parted_before) in
    omega (arith, word, h.one_before, k.one_before, ap length both, length-append (words h.before) (words more))

-- nor is either longer, where both begin at one place
name_not_longer : {line a b : List ℕ} → (h : HasName line a) (k : HasName line b) → a ++ h.after ≡ b ++ k.after → length a < length b → ⊥
name_not_longer {line} {a} {b} h k same longer =
    let cut = cut_between a h.after b k.after same longer in
    let more = cut.0 in
    let long : length b ≡ length a + length more = ap length cut.1 ∙ length-append a more in
    let place : length b - 1 - length a ≡ length more - 1 = omega (arith, long, cut.3) in
    let near : length a ≤ length b - 1 = omega (arith, long, cut.3) in
    let last : get_or b (length b - 1) 0 ≡ get_or more (length more - 1) 0 =
    ap (λ l. get_or l (length b - 1) 0) cut.1 ∙ get_or-append_right a more (length a) (length b - 1) 0 refl near ∙ ap (λ i. get_or more i 0) place in
    let word : 0 < length (words more) = words-some_at_end more cut.3 (ap is_blank (sym last) ∙ k.ends) in
    let both : words h.after ≡ words more ++ words k.after = ap words cut.2 ∙ words-append_back more k.after (λ _. k.parted_after) in
    omega (arith, word, h.seven_after, k.seven_after, ap length both, length-append (words more) (words k.after))

-- one name stands in a line
pub one_name : {line a b : List ℕ} → HasName line a → HasName line b → a ≡ b
one_name {line} {a} {b} h k =
    let begin : length h.before ≡ length k.before =
    elim (cases_order (length h.before) (length k.before)) [
      | inl same ↦ same
      | inr other ↦ elim other [ inl below ↦ absurd (name_not_later h k below) | inr above ↦ absurd (name_not_later k h above) ]
    ] in
    let behind = (one_cut h.before (a ++ h.after) k.before (b ++ k.after) (sym h.whole ∙ k.whole) begin).1 in
    let long : length a ≡ length b =
    elim (cases_order (length a) (length b)) [
      | inl same ↦ same
      | inr other ↦ elim other [ inl below ↦ absurd (name_not_longer h k behind below) | inr above ↦ absurd (name_not_longer k h (sym behind) above) ]
    ] in
    (one_cut a h.after b k.after behind long).0

-- one number stands in a field
one_number : (word : List ℕ) (m n : ℕ) → number_of word ≡ Some m → number_of word ≡ Some n → m ≡ n
one_number word m n a b = same_Some m n (sym a ∙ b)

-- a line spells one row
pub one_row : {line : List ℕ} {a b : Row} → IsRowOf line a → IsRowOf line b → a ≡ b
one_row {line} {a} {b} h k =
    let bucket = one_number (field line 1) a.bucket b.bucket h.bucket k.bucket in
    let map_name = one_name h.map_name k.map_name in
    let width = one_number (field line 3) a.width b.width h.width k.width in
    let height = one_number (field line 4) a.height b.height h.height k.height in
    let start_x = one_number (field line 5) a.start_x b.start_x h.start_x k.start_x in
    let start_y = one_number (field line 6) a.start_y b.start_y h.start_y k.start_y in
    let goal_x = one_number (field line 7) a.goal_x b.goal_x h.goal_x k.goal_x in
    let goal_y = one_number (field line 8) a.goal_y b.goal_y h.goal_y k.goal_y in
    let optimal_length : a.optimal_length ≡ b.optimal_length = sym h.optimal_length ∙ k.optimal_length in
    λ i. record {
      bucket = bucket i;
      map_name = map_name i;
      width = width i;
      height = height i;
      start_x = start_x i;
      start_y = start_y i;
      goal_x = goal_x i;
      goal_y = goal_y i;
      optimal_length = optimal_length i;
    }

-- lists that agree at each place are one
same_by_places : (xs ys : List Row) → length xs ≡ length ys → ((i : ℕ) (x y : Row) → slice_get xs i ≡ Some x → slice_get ys i ≡ Some y → x ≡ y) → xs ≡ ys
same_by_places [] [] long agree = refl
same_by_places [] (y ∷ ys) long agree = absurd (omega (arith, long))
same_by_places (x ∷ xs) [] long agree = absurd (omega (arith, long))
same_by_places (x ∷ xs) (y ∷ ys) long agree =
    ap₂ (λ z zs. z ∷ zs) (agree 0 x y refl refl) (same_by_places xs ys (omega (arith, long)) (λ i u v p q. agree (suc i) u v p q))

-- a scenario file is of one list of rows
pub one_list : (lines : List (List ℕ)) (a b : List Row) → IsScenario lines a → IsScenario lines b → a ≡ b
one_list lines a b h k =
    same_by_places a b (omega (arith, h.count, k.count)) (λ i x y p q. one_row (h.spelled i x p) (k.spelled i y q))
