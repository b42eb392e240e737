-- The first fault of a row's line, field by field.
use Rattle.std.proofs.Common.{◌≡◌, ℕ, ◌+◌, ◌-◌, ◌<◌, ◌≤◌, suc, List, [], ◌∷◌, ◌++◌, length, Some, None, refl, sym, ap, ◌∙◌, subst, ⊎_elim, arith, inl, inr, get_or-append-add, length-append, slice_index_or}
use Rattle.std.proofs.lemmas.Bool.{cases_lt}
use Rattle.std.proofs.lemmas.Option.{none-some}
use Rattle.mapf_grid.proofs.Firsts.{before_place}
use Rattle.mapf_grid.specs.Least.{NoneBefore}
use Rattle.mapf_grid.specs.Lines.{words, number_of}
use Rattle.mapf_grid.specs.ScenarioFile.{IsNumberField, field, scen_fault_rank}
use Rattle.mapf_grid.specs.RowFields.{AreFields, HasRowFault, IsScenarioRowFault}
use Rattle.mapf_grid.specs.declared.scenario.fields.Fields.{Fields}
use Rattle.mapf_grid.specs.declared.fault.ScenFault.TheVariants.{FieldCount, Number}

few_least : (line : List ℕ) (k : ℕ) → length (words line) < 9 → NoneBefore scen_fault_rank (HasRowFault line k) (k ∷ [])
few_least line k few (FieldCount l) h p = omega (arith, h.0, before_place l k [] p)
few_least line k few (Number l f) h p = let nine = h.1 in absurd (omega arith)
few_least line k few y h p = h

-- fewer than nine words are the line's first fault
pub IsScenarioRowFault-few : (line : List ℕ) (k : ℕ) → length (words line) < 9 → IsScenarioRowFault line k (FieldCount k)
IsScenarioRowFault-few line k few = record { member = (refl, few); least = few_least line k few }

-- the number fields before f are numbers
abbrev pub AreNumbersBefore : List ℕ → ℕ → Type 0
AreNumbersBefore line f = (g : ℕ) → IsNumberField g → g < f → number_of (field line g) ≡ None → ⊥

pub AreNumbersBefore-first : (line : List ℕ) → AreNumbersBefore line 1
AreNumbersBefore-first line g is_field below none = elim is_field [ inl e ↦ absurd (omega arith) | inr b ↦ let low = b.0 in absurd (omega arith) ]

-- some field is a number, so it isn't none
some_number : (line : List ℕ) (f g n : ℕ) → number_of (field line f) ≡ Some n → g ≡ f → number_of (field line g) ≡ None → ⊥
some_number line f g n e same none = none-some n (sym (subst (λ i. number_of (field line i) ≡ None) same none) ∙ e)

pub AreNumbersBefore-second : (line : List ℕ) (n : ℕ) → number_of (field line 1) ≡ Some n → AreNumbersBefore line 3
AreNumbersBefore-second line n e g is_field below none =
    elim is_field [ inl same ↦ some_number line 1 g n e same none | inr b ↦ let low = b.0 in absurd (omega arith) ]

pub AreNumbersBefore-more : (line : List ℕ) (f n : ℕ) → AreNumbersBefore line f → number_of (field line f) ≡ Some n → AreNumbersBefore line (f + 1)
AreNumbersBefore-more line f n before e g is_field below none =
    ⊎_elim (λ lower. before g is_field lower none) (λ above. some_number line f g n e (omega arith) none) (cases_lt g f)

number_least : (line : List ℕ) (k f : ℕ) → 9 ≤ length (words line) → AreNumbersBefore line f → NoneBefore scen_fault_rank (HasRowFault line k) (k ∷ f ∷ [])
number_least line k f nine before (FieldCount l) h p = let few = h.1 in absurd (omega arith)
number_least line k f nine before (Number l g) h p =
    let same : l ≡ k = h.0 in
    elim p [ inl above ↦ absurd (omega arith) | inr both ↦ elim both.1 [ inl lower ↦ before g h.2 lower h.3 | inr none ↦ none.1 ] ]
number_least line k f nine before y h p = h

-- the first number field that is none is the line's first fault
pub IsScenarioRowFault-number : (line : List ℕ) (k f : ℕ) → 9 ≤ length (words line) → AreNumbersBefore line f → IsNumberField f → number_of (field line f) ≡ None → IsScenarioRowFault line k (Number k f)
IsScenarioRowFault-number line k f nine before is_field none = record { member = (refl, nine, is_field, none); least = number_least line k f nine before }

-- the fields that a line spells, by their numbers
pub record SpellsFields (line : List ℕ) (fields : Fields) : Type 0 where
  pub nine : 9 ≤ length (words line)
  pub bucket : field line 1 ≡ fields.bucket.now
  pub width : field line 3 ≡ fields.width.now
  pub height : field line 4 ≡ fields.height.now
  pub start_x : field line 5 ≡ fields.start_x.now
  pub start_y : field line 6 ≡ fields.start_y.now
  pub goal_x : field line 7 ≡ fields.goal_x.now
  pub goal_y : field line 8 ≡ fields.goal_y.now
  pub optimal_length : field line 9 ≡ fields.optimal_length.now

-- the last seven words, counted from the end
word_from_end : (ws : List (List ℕ)) (first : List ℕ) (middle last : List (List ℕ)) (f : ℕ) → ws ≡ first ∷ (middle ++ last) → length last ≡ 7 → 3 ≤ f → f ≤ 9 → slice_index_or ws (length ws + f - 10) [] ≡ slice_index_or last (f - 3) []
word_from_end ws first middle last f e seven low high =
    let long : length ws ≡ suc (length middle + length last) = ap length e ∙ ap suc (length-append middle last) in
    let place : length ws + f - 10 ≡ suc (length middle + (f - 3)) = omega arith in
    ap (λ l. slice_index_or l (length ws + f - 10) []) e ∙ ap (λ i. slice_index_or (first ∷ (middle ++ last)) i []) place ∙ get_or-append-add middle last (f - 3) []

pub SpellsFields-all : {line : List ℕ} {fields : Fields} → AreFields line fields → SpellsFields line fields
SpellsFields-all {line} {fields} are =
    let last = fields.width.now ∷ fields.height.now ∷ fields.start_x.now ∷ fields.start_y.now ∷ fields.goal_x.now ∷ fields.goal_y.now ∷ fields.optimal_length.now ∷ [] in
    let some = are.some in
    let at = λ (f : ℕ) (low : 3 ≤ f) (high : f ≤ 9). word_from_end (words line) fields.bucket.now are.middle last f are.in_words refl low high in
    record {
      nine = omega (arith, ap length are.in_words, length-append are.middle last);
      bucket = ap (λ ws. slice_index_or ws 0 []) are.in_words;
      width = at 3 (omega arith) (omega arith);
      height = at 4 (omega arith) (omega arith);
      start_x = at 5 (omega arith) (omega arith);
      start_y = at 6 (omega arith) (omega arith);
      goal_x = at 7 (omega arith) (omega arith);
      goal_y = at 8 (omega arith) (omega arith);
      optimal_length = at 9 (omega arith) (omega arith);
    }
