-- How a row's line is put together from its first word, its name and its last seven words.
use Rattle.std.proofs.Common.{◌≡◌, ℕ, ◌+◌, ◌-◌, ◌<◌, ◌≤◌, zero, suc, Bool, true, false, cond, nat_lt, List, [], ◌∷◌, ◌++◌, length, get_or, filter, refl, sym, ap, ◌∙◌, subst, arith, append_assoc, append-nil, length-append}
use Rattle.std.specs.List.{slice_split, onto_first}
use Rattle.std.proofs.lemmas.Bool.{and_parts, both_ways, lt-ltb}
use Rattle.std.proofs.lemmas.List.{append_cancel_left, append_cancel_right, get_or_append_left, get_or-append_right}
use Rattle.mapf_grid.specs.Lines.{words, is_blank, is_blank_line}
use Rattle.mapf_grid.specs.Cuts.{IsPartedFront, IsPartedBack, IsTrimmed}
use Rattle.mapf_grid.specs.ScenarioFile.{HasName}
use Rattle.mapf_grid.proofs.lines.Parting.{words-append_back, words-append_front, words-blanks_before, words-blanks_behind}

-- the line is a front and then these last words
pub record EndsWithWords (line front : List ℕ) (last : List (List ℕ)) : Type 0 where
  pub parted : IsPartedFront line front
  pub in_words : words line ≡ words front ++ last

pub EndsWithWords-one : {line front word : List ℕ} → IsPartedFront line front → words line ≡ words front ++ word ∷ [] → EndsWithWords line front (word ∷ [])
EndsWithWords-one parted e = record { parted = parted; in_words = e }

-- one word more is cut off
pub EndsWithWords-more : {line front shorter word : List ℕ} {last : List (List ℕ)} → EndsWithWords line front last → IsPartedFront front shorter → words front ≡ words shorter ++ word ∷ [] → EndsWithWords line shorter (word ∷ last)
EndsWithWords-more {line} {front} {shorter} {word} {last} cut parted e = record {
  parted = record {
    after = parted.after ++ cut.parted.after;
    whole = cut.parted.whole ∙ ap (λ f. f ++ cut.parted.after) parted.whole ∙ append_assoc shorter parted.after cut.parted.after;
    parted = parted.parted;
  };
  in_words = cut.in_words ∙ ap (λ w. w ++ last) e ∙ append_assoc (words shorter) (word ∷ []) last;
}

-- each byte of a line of blanks is a blank
pub blank_at : (blanks : List ℕ) (i : ℕ) → is_blank_line blanks ≡ true → i < length blanks → is_blank (get_or blanks i 0) ≡ true
blank_at [] i h inside = absurd (omega arith)
blank_at (b ∷ blanks) zero h inside = (and_parts (is_blank b) (is_blank_line blanks) h).0
blank_at (b ∷ blanks) (suc i) h inside = blank_at blanks i (and_parts (is_blank b) (is_blank_line blanks) h).1 (omega arith)

-- a piece with a byte is a word
first_kept : (x : ℕ) (parts : List (List ℕ)) → 0 < length (filter (λ piece. nat_lt 0 (length piece)) (onto_first x parts))
first_kept x [] = omega arith
first_kept x (part ∷ parts) =
    subst (λ t. 0 < length (cond t ((x ∷ part) ∷ filter (λ piece. nat_lt 0 (length piece)) parts) (filter (λ piece. nat_lt 0 (length piece)) parts))) (sym (lt-ltb 0 (length (x ∷ part)) (omega arith))) (omega arith)

-- a line that begins with no blank has a word
pub words-some : (line : List ℕ) → 0 < length line → is_blank (get_or line 0 0) ≡ false → 0 < length (words line)
words-some [] some begins = absurd (omega arith)
words-some (b ∷ line) some begins =
    let keep : List ℕ → Bool = λ piece. nat_lt 0 (length piece) in
    subst (λ t. 0 < length (filter keep (cond t ([] ∷ slice_split is_blank line) (onto_first b (slice_split is_blank line))))) (sym begins) (first_kept b (slice_split is_blank line))

-- the blanks around a line are in no word
pub words-trimmed : {line middle : List ℕ} → IsTrimmed line middle → words line ≡ words middle
words-trimmed {line} {middle} t =
    ap words t.whole ∙ words-blanks_before t.before (middle ++ t.after) t.blanks_before ∙ words-blanks_behind middle t.after t.blanks_after

-- there is a blank before a name that stands behind a word
some_before : {behind front name : List ℕ} → (0 < length behind → is_blank (get_or behind 0 0) ≡ true) → (after : List ℕ) → behind ≡ front ++ after → (t : IsTrimmed front name) → 0 < length name → (blanks : List ℕ) → t.before ≡ blanks → 0 < length blanks
some_before begins after whole t some (b ∷ blanks) e = omega arith
some_before {behind} {front} {name} begins after whole t some [] e =
    let all : behind ≡ (name ++ t.after) ++ after = whole ∙ ap (λ f. f ++ after) (t.whole ∙ ap (λ b. b ++ (name ++ t.after)) e) in
    let first : get_or behind 0 0 ≡ get_or name 0 0 =
    ap (λ l. get_or l 0 0) (all ∙ append_assoc name t.after after) ∙ get_or_append_left name (t.after ++ after) 0 0 some in
    let long : 0 < length behind = omega (arith, ap length all, length-append (name ++ t.after) after, length-append name t.after) in
    absurd (both_ways _ (t.begins some) (subst (λ x. is_blank x ≡ true) first (begins long)))

-- there is a blank behind a name that stands before a word
some_behind : {front name : List ℕ} → (0 < length front → is_blank (get_or front (length front - 1) 0) ≡ true) → (t : IsTrimmed front name) → 0 < length name → (blanks : List ℕ) → t.after ≡ blanks → 0 < length blanks
some_behind ends t some (b ∷ blanks) e = omega arith
some_behind {front} {name} ends t some [] e =
    let all : front ≡ t.before ++ name = t.whole ∙ ap (λ a. t.before ++ (name ++ a)) e ∙ ap (λ n. t.before ++ n) (append-nil name) in
    let long : length front ≡ length t.before + length name = ap length all ∙ length-append t.before name in
    let same : length front - 1 - length t.before ≡ length name - 1 = omega arith in
    let near : length t.before ≤ length front - 1 = omega arith in
    let last : get_or front (length front - 1) 0 ≡ get_or name (length name - 1) 0 =
    ap (λ l. get_or l (length front - 1) 0) all ∙ get_or-append_right t.before name (length t.before) (length front - 1) 0 refl near ∙ ap (λ i. get_or name i 0) same in
    absurd (both_ways _ (t.ends some) (subst (λ x. is_blank x ≡ true) last (ends (omega arith))))

-- what stands between the first word and the last seven is the name, without the blanks around it
pub HasName-between : {line behind front name bucket : List ℕ} {last : List (List ℕ)} → IsPartedBack line behind → words line ≡ bucket ∷ words behind → EndsWithWords behind front last → length last ≡ 7 → IsTrimmed front name → 0 < length name → HasName line name
HasName-between {line} {behind} {front} {name} {bucket} {last} back first cut seven t some =
    let before = back.before ++ t.before in
    let after = t.after ++ cut.parted.after in
    let front_words : words back.before ≡ bucket ∷ [] =
    append_cancel_right (words back.before) (bucket ∷ []) (words behind) (sym (ap words back.whole ∙ words-append_back back.before behind back.parted) ∙ first) in
    let back_words : words cut.parted.after ≡ last =
    append_cancel_left (words front) (words cut.parted.after) last (sym (ap words cut.parted.whole ∙ words-append_front front cut.parted.after cut.parted.parted) ∙ cut.in_words) in
    let blanks_before : 0 < length t.before = some_before back.parted cut.parted.after cut.parted.whole t some t.before refl in
    let blanks_behind : 0 < length t.after = some_behind cut.parted.parted t some t.after refl in
    let before_length : length before ≡ length back.before + length t.before = length-append back.before t.before in
    let near : length back.before ≤ length before - 1 = omega arith in
    let inside : length before - 1 - length back.before < length t.before = omega arith in
    record {
      before = before;
      after = after;
      whole = back.whole ∙ ap (λ b. back.before ++ b) (cut.parted.whole ∙ ap (λ f. f ++ cut.parted.after) t.whole) ∙ simp append_assoc;
      one_before = ap length (words-blanks_behind back.before t.before t.blanks_before ∙ front_words);
      seven_after = ap length (words-blanks_before t.after cut.parted.after t.blanks_after ∙ back_words) ∙ seven;
      some = some;
      begins = t.begins some;
      ends = t.ends some;
      parted_before = ap is_blank (get_or-append_right back.before t.before (length back.before) (length before - 1) 0 refl near) ∙ blank_at t.before _ t.blanks_before inside;
      parted_after = ap is_blank (get_or_append_left t.after cut.parted.after 0 0 blanks_behind) ∙ blank_at t.after 0 t.blanks_after blanks_behind;
    }
