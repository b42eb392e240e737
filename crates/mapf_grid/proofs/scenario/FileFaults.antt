-- The rows of a scenario file, and its first fault.
use Rattle.std.proofs.Common.{◌≡◌, ℕ, ◌+◌, ◌-◌, ◌<◌, ◌≤◌, ◌⊎◌, zero, suc, true, false, List, [], ◌∷◌, ◌++◌, length, get_or, drop, slice_get, Some, None, refl, sym, ap, ◌∙◌, subst, ⊎_elim, inl, inr, arith, length-append, length-drop, get_or-drop, drop-drop, add-zero}
use Rattle.std.specs.List.{list_all}
use Rattle.std.proofs.lemmas.Bool.{false_from_ne_true, and_from}
use Rattle.std.proofs.lemmas.Option.{none-some, same_Some}
use Rattle.mapf_grid.specs.Least.{NoneBefore}
use Rattle.mapf_grid.specs.Lines.{lines_of, line_at, words, is_blank_line, number_of}
use Rattle.mapf_grid.specs.ScenarioFile.{IsVersion, IsRowOf, IsScenario, IsNumberField, HasScenFault, IsScenFault, scen_fault_rank, field, without_blank_end}
use Rattle.mapf_grid.specs.RowFields.{HasRowFault, IsScenarioRowFault}
use Rattle.mapf_grid.specs.declared.scenario.Row.{Row}
use Rattle.mapf_grid.specs.declared.fault.ScenFault.{ScenFault}
use Rattle.mapf_grid.specs.declared.fault.ScenFault.TheVariants.{Version, FieldCount, Number, NoMemory}
use Rattle.mapf_grid.proofs.Firsts.{before_place, first_is_least}
use Rattle.mapf_grid.proofs.lines.Parting.{words-blanks}
use Rattle.mapf_grid.proofs.scenario.RowFaults.{AreNumbersBefore-second, AreNumbersBefore-more, IsScenarioRowFault-few}
use Rattle.mapf_grid.proofs.scenario.BlankEnds.{without_blank_end-reaches, without_blank_end-within, seen_line}

-- the first of the lines behind the version line spell the rows
pub record AreRows (lines : List (List ℕ)) (rows : List Row) : Type 0 where
  pub there : length rows ≤ length lines
  pub spelled : (i : ℕ) (row : Row) → slice_get rows i ≡ Some row → IsRowOf (get_or lines i []) row

pub AreRows-none : (lines : List (List ℕ)) → AreRows lines []
AreRows-none lines = record { there = omega arith; spelled = λ i row e. absurd (none-some row e) }

slice_get_push : (xs : List Row) (y x : Row) (i : ℕ) → slice_get (xs ++ y ∷ []) i ≡ Some x → (slice_get xs i ≡ Some x) ⊎ ((i ≡ length xs) × (y ≡ x))
slice_get_push [] y x zero e = inr (refl, same_Some y x e)
slice_get_push [] y x (suc i) e = absurd (none-some x e)
slice_get_push (z ∷ xs) y x zero e = inl e
slice_get_push (z ∷ xs) y x (suc i) e = ⊎_elim (λ l. inl l) (λ r. inr (ap suc r.0, r.1)) (slice_get_push xs y x i e)

-- one more row is read
pub AreRows-more : {lines : List (List ℕ)} {rows : List Row} (row : Row) → AreRows lines rows → length rows < length lines → IsRowOf (get_or lines (length rows) []) row → AreRows lines (rows ++ row ∷ [])
AreRows-more {lines} {rows} row are inside this = record {
  there = omega (arith, length-append rows (row ∷ []));
  spelled = λ i r e. ⊎_elim (λ old. are.spelled i r old)
      (λ new. subst (λ k. IsRowOf (get_or lines k []) r) (sym new.0) (subst (λ q. IsRowOf (get_or lines (length rows) []) q) new.1 this))
      (slice_get_push rows row r i e);
}

-- line k of the file is line k - 2 of those behind the version line
line_at_behind : (version : List ℕ) (lines : List (List ℕ)) (k : ℕ) → 1 < k → line_at (version ∷ lines) k ≡ get_or lines (k - 2) []
line_at_behind version lines k above =
    let place : k - 1 ≡ suc (k - 2) = omega arith in
    ap (λ i. get_or (version ∷ lines) i []) place

-- a line with words isn't blank
pub seen_from_words : (line : List ℕ) → 0 < length (words line) → is_blank_line line ≡ false
seen_from_words line some = false_from_ne_true (is_blank_line line) (λ blank. absurd (omega (arith, ap length (words-blanks line blank))))

-- the version line isn't blank
version_seen : (line : List ℕ) → IsVersion line → is_blank_line line ≡ false
version_seen line is = seen_from_words line (elim is [ inl e ↦ omega (arith, ap length e) | inr e ↦ omega (arith, ap length e) ])

-- a fact of each row, at a place
row_by_place : (P : Row → Type 0) (rows : List Row) (i : ℕ) → i < length rows → ((r : Row) → slice_get rows i ≡ Some r → P r) → (row : Row) × P row
row_by_place P [] i inside f = absurd (omega arith)
row_by_place P (r ∷ rows) zero inside f = (r, f r refl)
row_by_place P (r ∷ rows) (suc i) inside f = row_by_place P rows i (omega arith) f

-- the row that line i behind the version line spells
row_there : {lines : List (List ℕ)} {rows : List Row} → AreRows lines rows → (i : ℕ) → i < length rows → (row : Row) × IsRowOf (get_or lines i []) row
row_there {lines} {rows} are i inside = row_by_place (IsRowOf (get_or lines i [])) rows i inside (λ r e. are.spelled i r e)

-- the last line read so far, the version line or a row's, isn't blank
last_seen : {lines : List (List ℕ)} {rows : List Row} (version : List ℕ) → IsVersion version → AreRows lines rows → (n : ℕ) → n ≡ length rows → is_blank_line (get_or (version ∷ lines) n []) ≡ false
last_seen version is are zero e = version_seen version is
last_seen {lines} {rows} version is are (suc i) e =
    let found = row_there are i (omega arith) in
    seen_from_words (get_or lines i []) (omega (arith, found.1.nine))

-- rows up to blank lines alone are all the rows of the file
pub IsScenario-ends : {lines : List (List ℕ)} {rows : List Row} (version : List ℕ) → IsVersion version → AreRows lines rows → list_all is_blank_line (drop (length rows) lines) ≡ true → IsScenario (version ∷ lines) rows
IsScenario-ends {lines} {rows} version is are blank =
    let there = are.there in
    let high : length (without_blank_end (version ∷ lines)) ≤ suc (length rows) = without_blank_end-within (version ∷ lines) (suc (length rows)) blank in
    let low : length rows < length (without_blank_end (version ∷ lines)) = without_blank_end-reaches (version ∷ lines) (length rows) (omega arith) (last_seen version is are (length rows) refl) in
    record {
      version = is;
      count = omega arith;
      spelled = λ i row e. subst (λ l. IsRowOf l row) (sym (line_at_behind version lines (i + 2) (omega arith) ∙ ap (λ k. get_or lines k []) (omega arith))) (are.spelled i row e);
    }

-- no fault is in a row's line
no_few : {line : List ℕ} {row : Row} → IsRowOf line row → length (words line) < 9 → ⊥
no_few is few = let nine = is.nine in absurd (omega arith)

no_number : {line : List ℕ} {row : Row} (f : ℕ) → IsRowOf line row → IsNumberField f → number_of (field line f) ≡ None → ⊥
no_number {line} {row} f is is_field none =
    let before3 = AreNumbersBefore-second line row.bucket is.bucket in
    let before4 = AreNumbersBefore-more line 3 row.width before3 is.width in
    let before5 = AreNumbersBefore-more line 4 row.height before4 is.height in
    let before6 = AreNumbersBefore-more line 5 row.start_x before5 is.start_x in
    let before7 = AreNumbersBefore-more line 6 row.start_y before6 is.start_y in
    let before8 = AreNumbersBefore-more line 7 row.goal_x before7 is.goal_x in
    let before9 = AreNumbersBefore-more line 8 row.goal_y before8 is.goal_y in
    let below : f < 9 = elim is_field [ inl e ↦ omega arith | inr b ↦ let high = b.1 in omega arith ] in
    before9 f is_field below none

-- a row's line, by its number in the file
row_at : {lines : List (List ℕ)} {rows : List Row} (version : List ℕ) → AreRows lines rows → (k : ℕ) → 1 < k → k < length rows + 2 → (row : Row) × IsRowOf (line_at (version ∷ lines) k) row
row_at {lines} {rows} version are k above below =
    let found = row_there are (k - 2) (omega arith) in
    (found.0, subst (λ l. IsRowOf l found.0) (sym (line_at_behind version lines k above)) found.1)

-- the version line and the rows that were read have no fault
none_before_rows : {lines : List (List ℕ)} {rows : List Row} (version : List ℕ) → IsVersion version → AreRows lines rows → NoneBefore scen_fault_rank (HasScenFault (version ∷ lines)) ((length rows + 2) ∷ [])
none_before_rows version is are Version h p = h is
none_before_rows version is are (FieldCount l) h p = no_few (row_at version are l h.0 (before_place l _ [] p)).1 h.2
none_before_rows version is are (Number l f) h p = no_number f (row_at version are l h.0 (before_place l _ (f ∷ []) p)).1 h.3 h.4
none_before_rows version is are NoMemory h p = h

-- line n + 2 of the file, by its number
line_of : (version : List ℕ) (lines : List (List ℕ)) (n l : ℕ) → l ≡ n + 2 → line_at (version ∷ lines) l ≡ get_or lines n []
line_of version lines n l same =
    let place : l - 2 ≡ n = omega (arith, same) in line_at_behind version lines l (omega (arith, same)) ∙ ap (λ i. get_or lines i []) place

-- a fault of the file that ranks by this line is one of the line
fault_at_line : (version : List ℕ) (lines : List (List ℕ)) (n : ℕ) (y : ScenFault) (u : List ℕ) → HasScenFault (version ∷ lines) y → scen_fault_rank y ≡ (n + 2) ∷ u → HasRowFault (get_or lines n []) (n + 2) y
fault_at_line version lines n (FieldCount l) u h e =
    let on = ap (λ r. get_or r 0 0) e in (on, subst (λ t. length (words t) < 9) (line_of version lines n l on) h.2)
fault_at_line version lines n (Number l f) u h e =
    let on = ap (λ r. get_or r 0 0) e in
    let line = line_of version lines n l on in
    (on, subst (λ t. 9 ≤ length (words t)) line h.2, h.3, subst (λ t. number_of (field t f) ≡ None) line h.4)
fault_at_line version lines n y u h e = absurd (omega (arith, ap (λ r. get_or r 0 0) e))

-- and one of the line is one of the file, where that line stays
fault_of_row : (version : List ℕ) (lines : List (List ℕ)) (n : ℕ) → n + 2 ≤ length (without_blank_end (version ∷ lines)) → (e : ScenFault) → HasRowFault (get_or lines n []) (n + 2) e → HasScenFault (version ∷ lines) e
fault_of_row version lines n stays (FieldCount l) h =
    (omega (arith, h.0), omega (arith, h.0), subst (λ t. length (words t) < 9) (sym (line_of version lines n l h.0)) h.1)
fault_of_row version lines n stays (Number l f) h =
    let line = sym (line_of version lines n l h.0) in
    (omega (arith, h.0), omega (arith, h.0), subst (λ t. 9 ≤ length (words t)) line h.1, h.2, subst (λ t. number_of (field t f) ≡ None) line h.3)
fault_of_row version lines n stays y h = absurd h

-- the rank of a line's fault begins with the line's number
rank_of_row_fault : (line : List ℕ) (k : ℕ) (e : ScenFault) → HasRowFault line k e → (rest : List ℕ) × (scen_fault_rank e ≡ k ∷ rest)
rank_of_row_fault line k (FieldCount l) h = ([], ap (λ i. i ∷ []) h.0)
rank_of_row_fault line k (Number l f) h = (f ∷ [], ap (λ i. i ∷ f ∷ []) h.0)
rank_of_row_fault line k y h = absurd h

-- the first fault of the line behind the rows is that of the file
pub IsScenFault-row : {lines : List (List ℕ)} {rows : List Row} (version : List ℕ) → IsVersion version → AreRows lines rows → length rows + 2 ≤ length (without_blank_end (version ∷ lines)) → (e : ScenFault) → IsScenarioRowFault (get_or lines (length rows) []) (length rows + 2) e → IsScenFault (version ∷ lines) e
IsScenFault-row {lines} {rows} version is are stays e row =
    let n = length rows in
    let rank = rank_of_row_fault (get_or lines n []) (n + 2) e row.member in
    first_is_least scen_fault_rank (HasScenFault (version ∷ lines)) (HasRowFault (get_or lines n []) (n + 2)) ((n + 2) ∷ []) rank.0 e (none_before_rows version is are)
    (fault_at_line version lines n) (fault_of_row version lines n stays e row.member) rank.1 row

-- each line of a scenario but the first, and but the blank ones at the end, is a row
scenario_row : {lines : List (List ℕ)} {rows : List Row} → IsScenario lines rows → (l : ℕ) → 1 < l → l ≤ length (without_blank_end lines) → (row : Row) × IsRowOf (line_at lines l) row
scenario_row {lines} {rows} is l above within =
    let count = is.count in
    let found = row_by_place (IsRowOf (line_at lines (l - 2 + 2))) rows (l - 2) (omega arith) (λ r e. is.spelled (l - 2) r e) in
    let place : l - 2 + 2 ≡ l = omega arith in
    (found.0, subst (λ k. IsRowOf (line_at lines k) found.0) place found.1)

-- a scenario has no fault
pub no_fault : {lines : List (List ℕ)} {rows : List Row} → IsScenario lines rows → (e : ScenFault) → HasScenFault lines e → ⊥
no_fault is Version h = h is.version
no_fault is (FieldCount l) h =
    let found = scenario_row is l h.0 h.1 in
    no_few found.1 h.2
no_fault is (Number l f) h =
    let found = scenario_row is l h.0 h.1 in
    no_number f found.1 h.3 h.4
no_fault is NoMemory h = h

-- the rows are the first lines of the bytes, the others are those of the rest, and each row had a byte
pub record HaveRead (bytes rest : List ℕ) (rows : List Row) : Type 0 where
  pub are : AreRows (lines_of bytes) rows
  pub others : lines_of rest ≡ drop (length rows) (lines_of bytes)
  pub room : length rows + length rest ≤ length bytes

-- the next line of the bytes
next_line : {bytes rest line : List ℕ} {rows : List Row} {more : List (List ℕ)} → HaveRead bytes rest rows → lines_of rest ≡ line ∷ more → (j : ℕ) → get_or (lines_of bytes) (length rows + j) [] ≡ get_or (line ∷ more) j []
next_line {bytes} {rows = rows} h e j = sym (get_or-drop (length rows) (lines_of bytes) j []) ∙ ap (λ l. get_or l j []) (sym h.others ∙ e)

-- how many lines there are
lines_left : {bytes rest line : List ℕ} {rows : List Row} {more : List (List ℕ)} → HaveRead bytes rest rows → lines_of rest ≡ line ∷ more → length (lines_of bytes) ≡ length rows + suc (length more)
lines_left {bytes} {rows = rows} h e =
    let left = ap length (sym h.others ∙ e) in
    omega (arith, left, length-drop (length rows) (lines_of bytes))

pub HaveRead-none : (bytes : List ℕ) → HaveRead bytes bytes []
HaveRead-none bytes = record { are = AreRows-none (lines_of bytes); others = refl; room = omega arith }

pub HaveRead-more : {bytes rest line behind : List ℕ} {rows : List Row} (row : Row) → HaveRead bytes rest rows → lines_of rest ≡ line ∷ lines_of behind → length behind < length rest → IsRowOf line row → HaveRead bytes behind (rows ++ row ∷ [])
HaveRead-more {bytes} {rest} {line} {behind} {rows} row h e shorter this =
    let n = length rows in
    let all = lines_of bytes in
    let room = h.room in
    let pushed : length (rows ++ row ∷ []) ≡ n + 1 = length-append rows (row ∷ []) in
    let here : get_or all n [] ≡ line = ap (λ i. get_or all i []) (sym (add-zero n)) ∙ next_line h e 0 in
    let inside : n < length all = omega (arith, lines_left h e) in
    record {
      are = AreRows-more row h.are inside (subst (λ l. IsRowOf l row) (sym here) this);
      others = ap (drop 1) (sym e ∙ h.others) ∙ drop-drop 1 n all ∙ ap (λ i. drop i all) (sym pushed);
      room = omega arith;
    }

-- at a blank line before blank lines alone the reading ends
pub IsScenario-blank : {bytes rest line : List ℕ} {rows : List Row} {more : List (List ℕ)} → HaveRead bytes rest rows → lines_of rest ≡ line ∷ more → is_blank_line line ≡ true → list_all is_blank_line more ≡ true
    → (version : List ℕ) → IsVersion version → IsScenario (version ∷ lines_of bytes) rows
IsScenario-blank {line = line} {more = more} h e blank all version is =
    IsScenario-ends version is h.are (ap (list_all is_blank_line) (sym h.others ∙ e) ∙ and_from (is_blank_line line) (list_all is_blank_line more) blank all)

pub IsScenario-end : {bytes rest : List ℕ} {rows : List Row} → HaveRead bytes rest rows → lines_of rest ≡ [] → (version : List ℕ) → IsVersion version → IsScenario (version ∷ lines_of bytes) rows
IsScenario-end h e version is = IsScenario-ends version is h.are (ap (list_all is_blank_line) (sym h.others ∙ e))

-- a line that isn't blank stays, and so do those before it
stays_up_to : {bytes rest line : List ℕ} {rows : List Row} {more : List (List ℕ)} → HaveRead bytes rest rows → lines_of rest ≡ line ∷ more → (version : List ℕ) (j : ℕ) → j < suc (length more) → is_blank_line (get_or (line ∷ more) j []) ≡ false
    → length rows + 2 + j ≤ length (without_blank_end (version ∷ lines_of bytes))
stays_up_to {bytes} {rest} {line} {rows} {more} h e version j inside seen =
    let all = lines_of bytes in
    let reaches : suc (length rows + j) < length (without_blank_end (version ∷ all)) =
    without_blank_end-reaches (version ∷ all) (suc (length rows + j)) (omega (arith, lines_left h e)) (ap is_blank_line (next_line h e j) ∙ seen) in
    omega arith

-- a blank line before one that isn't blank has fewer than nine words
pub IsScenFault-blank : {bytes rest line : List ℕ} {rows : List Row} {more : List (List ℕ)} → HaveRead bytes rest rows → lines_of rest ≡ line ∷ more → is_blank_line line ≡ true → list_all is_blank_line more ≡ false
    → (version : List ℕ) → IsVersion version → IsScenFault (version ∷ lines_of bytes) (FieldCount (length rows + 2))
IsScenFault-blank {bytes} {rest} {line} {rows} {more} h e blank some version is =
    let seen = seen_line more some in
    let stays = stays_up_to h e version (suc seen.0) (omega (arith, seen.1)) seen.2 in
    let here : get_or (lines_of bytes) (length rows) [] ≡ line = ap (λ i. get_or (lines_of bytes) i []) (sym (add-zero (length rows))) ∙ next_line h e 0 in
    let few : length (words (get_or (lines_of bytes) (length rows) [])) < 9 = omega (arith, ap length (ap words here ∙ words-blanks line blank)) in
    IsScenFault-row version is h.are (omega arith) (FieldCount (length rows + 2)) (IsScenarioRowFault-few (get_or (lines_of bytes) (length rows) []) (length rows + 2) few)

-- the fault of a line that isn't blank is that of the file
pub IsScenFault-next : {bytes rest line : List ℕ} {rows : List Row} {more : List (List ℕ)} → HaveRead bytes rest rows → lines_of rest ≡ line ∷ more → is_blank_line line ≡ false → (fault : ScenFault) → IsScenarioRowFault line (length rows + 2) fault
    → (version : List ℕ) → IsVersion version → IsScenFault (version ∷ lines_of bytes) fault
IsScenFault-next {bytes} {rest} {line} {rows} {more} h e seen fault row version is =
    let stays = stays_up_to h e version 0 (omega arith) seen in
    let here : get_or (lines_of bytes) (length rows) [] ≡ line = ap (λ i. get_or (lines_of bytes) i []) (sym (add-zero (length rows))) ∙ next_line h e 0 in
    IsScenFault-row version is h.are (omega arith) fault (subst (λ l. IsScenarioRowFault l (length rows + 2) fault) (sym here) row)

-- where the lines are a scenario, `NoMemory` alone is left
pub only_no_memory : {lines : List (List ℕ)} {rows : List Row} → IsScenario lines rows → (e : ScenFault) → ((e ≡ NoMemory → ⊥) → IsScenFault lines e) → e ≡ NoMemory
only_no_memory is NoMemory fault = refl
only_no_memory is e fault = absurd (no_fault is e (fault (λ same. cc)).member)
