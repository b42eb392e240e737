-- The fault of the first faulty line.
use Rattle.std.proofs.Common.{◌≡◌, ◌≢◌, ℕ, suc, ◌+◌, ◌-◌, ◌<◌, length, ◌≤◌, ◌⊎◌, inl, inr, Some, None, List, [], ◌∷◌, ◌++◌, get_or, drop, refl, sym, ap, ◌∙◌, subst, append-nil, length-append, arith}
use Rattle.std.specs.Prelude.{slice_get, codes, decimal}
use Rattle.std.proofs.lemmas.List.{append_cancel_left}
use Rattle.std.proofs.lemmas.Fmt.{decimal_injective}
use Rattle.mapf_grid.specs.Grid.{Grid}
use Rattle.mapf_grid.specs.Least.{Precedes, NoneBefore}
use Rattle.mapf_grid.proofs.Firsts.{before_place, none_before-there}
use Rattle.mapf_plan.specs.ReadText.{AsksFor, text_fault_rank, HasTextFault, IsTextFault, IsFirstLine, IsFullLine, IsPlanHead, IsWholeHead, IsHeadOf, ArePlanNumbers, IsLine, IsPathLine, IsFirstOutside, IsLineFault, ReadsLines, HasLinesFault, pieces, full_lines}
use Rattle.mapf_plan.specs.Head.{IsHead}
use Rattle.mapf_plan.specs.declared.text.fault.TextFault.{TextFault}
use Rattle.mapf_plan.specs.declared.text.fault.TextFault.TheVariants as fault
use Rattle.mapf_plan.specs.declared.text.reader.Head.{Head}
use Rattle.mapf_plan.specs.declared.text.reader.Head.TheVariants as head
use Rattle.mapf_plan.proofs.text.Cuts.{Lacks, Lacks-decimal, cut_is_one}
use Rattle.mapf_plan.proofs.text.Lines.{ReadsLines-start}
use Rattle.mapf_plan.proofs.text.FullLines.{full_lines-none, full_lines-first, full_lines-ended, pieces-first, pieces-ended, first_full_line, nothing_left, empty_from_length}
use Rattle.mapf_plan.proofs.text.Places.{AllZip-at, AllZip-length, slice_get-behind, places_inside, line_is_one}

-- where no head asks for lines, that is the only fault
pub head_is_first : (g : Grid) (bytes : List ℕ) → (¬ ((n : ℕ) × AsksFor bytes n)) → IsTextFault g bytes fault.Head
head_is_first g bytes none = record { member = none; least = others } where
  others : NoneBefore text_fault_rank (HasTextFault g bytes) (1 ∷ [])
  others fault.Head has before = omega (arith, before_place 1 1 [] before)
  others (fault.Line k) has before = none (has.0, has.1)
  others (fault.Outside k at) has before = none (has.0, has.1)
  others fault.NoMemory has before = has

-- without an LF there is no head
pub no_line_asks : (bytes : List ℕ) → Lacks 10 bytes → ¬ ((n : ℕ) × AsksFor bytes n)
no_line_asks bytes lacks = λ asks.
    let no : None ≡ Some asks.1.0 = ap (λ k. slice_get k 0) (sym (full_lines-none bytes lacks)) ∙ asks.1.1.1 in cc

-- the line that asks is the first one
pub asks_by_first : (bytes line rest : List ℕ) (n : ℕ) → IsFirstLine bytes line rest → (asks : AsksFor bytes n) → asks.0 ≡ line
asks_by_first bytes line rest n first asks =
    let same : Some line ≡ Some asks.0 = ap (λ k. slice_get k 0) (sym (full_lines-first bytes line rest first)) ∙ asks.1.1 in cc

-- a line that is no head is followed by no lines
is_no_head_of : (line : List ℕ) (n : ℕ) → ((first : Head) → ¬ IsHead line first) → ¬ IsHeadOf n line
is_no_head_of line n none (inl plan) = none (head.Plan n plan.0) plan.1
is_no_head_of line n none (inr (inl no_plan, no_line)) = none (head.None no_plan.0) no_plan.1
is_no_head_of line n none (inr (inr gave_up, no_line)) = none (head.GaveUp gave_up.0.0 gave_up.0.1) gave_up.1

-- a first line that is no head asks for nothing
pub no_head_asks : (bytes line rest : List ℕ) → IsFirstLine bytes line rest → ((first : Head) → ¬ IsHead line first) → ¬ ((n : ℕ) × AsksFor bytes n)
no_head_asks bytes line rest first none = λ asks.
    let same = asks_by_first bytes line rest asks.0 first asks.1 in
    is_no_head_of line asks.0 none (subst (IsHeadOf asks.0) same asks.1.2)

-- the number of agents that the first line tells is one
asks_of_plans : (numbers : List ℕ) (n c m d : ℕ) → ArePlanNumbers numbers (n, c) → ArePlanNumbers numbers (m, d) → m ≡ n
asks_of_plans numbers n c m d is other =
    let cut = cut_is_one 32 (decimal m) (decimal d) (decimal n) (decimal c) (Lacks-decimal 32 m (omega (arith, other.1)) (omega arith))
    (Lacks-decimal 32 n (omega (arith, is.1)) (omega arith)) (sym other.3 ∙ is.3) in
    decimal_injective m n (omega (arith, other.1)) (omega (arith, is.1)) cut.0

-- the head of a plan is no head without lines
heads_differ : (line numbers : List ℕ) → line ≡ codes "plan " ++ numbers → ¬ IsWholeHead line
heads_differ line numbers plan (inl none) =
    let byte : ◌≡◌ {A = ℕ} 112 110 = ap (λ l. get_or l 0 0) (sym plan ∙ none.1.1) in absurd (omega arith)
heads_differ line numbers plan (inr gave_up) =
    let byte : ◌≡◌ {A = ℕ} 112 103 = ap (λ l. get_or l 0 0) (sym plan ∙ gave_up.1.1) in absurd (omega arith)

asks_agree : (line : List ℕ) (n m : ℕ) → IsHeadOf n line → IsHeadOf m line → m ≡ n
asks_agree line n m (inl is) (inl other) =
    let numbers : other.1.0 ≡ is.1.0 = append_cancel_left (codes "plan ") other.1.0 is.1.0 (sym other.1.1 ∙ is.1.1) in
    let P : List ℕ → Type 0 = λ l. ArePlanNumbers l (m, other.0) in
    asks_of_plans is.1.0 n is.0 m other.0 is.1.2 (subst P numbers other.1.2)
asks_agree line n m (inl is) (inr other) = absurd (heads_differ line is.1.0 is.1.1 other.0)
asks_agree line n m (inr is) (inl other) = absurd (heads_differ line other.1.0 other.1.1 is.0)
asks_agree line n m (inr is) (inr other) = other.1 ∙ sym is.1

pub asks_is_one : (bytes line rest : List ℕ) (n m : ℕ) → IsFirstLine bytes line rest → AsksFor bytes n → AsksFor bytes m → m ≡ n
asks_is_one bytes line rest n m first is other =
    asks_agree line n m (subst (IsHeadOf n) (asks_by_first bytes line rest n first is) is.2) (subst (IsHeadOf m) (asks_by_first bytes line rest m first other) other.2)

-- the head asks for n lines, and those of some paths are read
module _ (g : Grid) (bytes line rest behind : List ℕ) (n : ℕ) (paths : List (List ℕ)) (first : IsFirstLine bytes line rest) (asks : AsksFor bytes n)
    (read : ReadsLines g rest behind paths) (within : length paths ≤ n) where
  lines_are : full_lines bytes ≡ line ∷ (read.done ++ full_lines behind)
  lines_are = full_lines-first bytes line rest first ∙ ap (λ l. line ∷ l) (ap full_lines read.cut ∙ full_lines-ended read.done behind read.apart)

  as_many : length read.done ≡ length paths
  as_many = AllZip-length (IsPathLine g) read.done paths read.each

  pieces_are : pieces bytes ≡ line ∷ (read.done ++ pieces behind)
  pieces_are = pieces-first bytes line rest first ∙ ap (λ l. line ∷ l) (ap pieces read.cut ∙ pieces-ended read.done behind read.apart)

  -- each line that was read is the line of a path
  line_read : (j : ℕ) → 1 < j → j ≤ length paths + 1 → (text : List ℕ) × (path : List ℕ) × (slice_get (full_lines bytes) (j - 1) ≡ Some text) × IsPathLine g text path
  line_read j low high =
      let found = AllZip-at (IsPathLine g) read.done (full_lines behind) paths (j - 2) read.each (omega (arith, as_many)) in
      let place : j - 1 ≡ suc (j - 2) = omega arith in
      (found.0, found.1, ap (λ k. slice_get k (j - 1)) lines_are ∙ ap (λ i. slice_get (line ∷ (read.done ++ full_lines behind)) i) place ∙ found.2, found.3)

  no_line_fault : (j : ℕ) → j ≤ length paths + 1 → ¬ HasTextFault g bytes (fault.Line j)
  no_line_fault j high = λ has. elim has.2 [
    | inl bad ↦ let found = line_read j bad.0 high in bad.2 (found.0, found.3.0, (omega (arith, bad.0), found.2), found.3.1)
    | inr more ↦ absurd (omega (arith, more.0, within, asks_is_one bytes line rest n has.0 first asks has.1))
  ]

  no_outside : (j at : ℕ) → j ≤ length paths + 1 → ¬ HasTextFault g bytes (fault.Outside j at)
  no_outside j at high = λ has.
      let found = line_read j has.2 high in
      let same : Some found.0 ≡ Some has.4.0 = sym found.2 ∙ has.4.3.1 in
      let text : found.0 ≡ has.4.0 = cc in
      let P : List ℕ → Type 0 = λ l. IsLine l found.3.0 in
      let one : has.4.1 ≡ found.3.0 = line_is_one has.4.0 has.4.1 found.3.0 has.4.4 (subst P text found.3.1) in
      has.4.6 (places_inside g found.3.0 found.1 at has.4.2 found.3.2 (ap (λ l. slice_get l at) (sym one) ∙ has.4.5))

  -- the line behind those that were read
  next_line : (k : ℕ) (text : List ℕ) → k ≡ length paths + 2 → slice_get (full_lines bytes) (k - 1) ≡ slice_get (full_lines behind) 0
  next_line k text is =
      let place : k - 1 ≡ suc (length read.done) = omega (arith, as_many) in
      ap (λ l. slice_get l (k - 1)) lines_are ∙ ap (λ i. slice_get (line ∷ (read.done ++ full_lines behind)) i) place ∙ slice_get-behind read.done (full_lines behind)

  -- the head and the lines that were read have no fault
  none_before_next : (k : ℕ) → k ≡ length paths + 2 → NoneBefore text_fault_rank (HasTextFault g bytes) (k ∷ [])
  none_before_next k is fault.Head has before = has (n, asks)
  none_before_next k is (fault.Line j) has before = no_line_fault j (omega (arith, is, before_place j k [] before)) has
  none_before_next k is (fault.Outside j at) has before = no_outside j at (omega (arith, is, before_place j k (at ∷ []) before)) has
  none_before_next k is fault.NoMemory has before = has

  outside_is_first : (k at : ℕ) → k ≡ length paths + 2 → (text after : List ℕ) (places : List (ℕ × ℕ)) → IsFirstLine behind text after → IsLine text places
      → IsFirstOutside g places at → HasTextFault g bytes (fault.Outside k at) → IsTextFault g bytes (fault.Outside k at)
  outside_is_first k at is text after places begins spells outside member = record {
    member = member;
    least = none_before-there text_fault_rank (HasTextFault g bytes) (k ∷ []) (at ∷ []) (none_before_next k is) others;
  } where
    here : slice_get (full_lines bytes) (k - 1) ≡ Some text
    here = next_line k text is ∙ ap (λ l. slice_get l 0) (full_lines-first behind text after begins)

    same_line : (other : List ℕ) → slice_get (full_lines bytes) (k - 1) ≡ Some other → text ≡ other
    same_line other get = let same : Some text ≡ Some other = sym here ∙ get in cc

    line_there : ¬ HasTextFault g bytes (fault.Line k)
    line_there = λ has. elim has.2 [
      | inl bad ↦ bad.2 (text, places, (omega (arith, bad.0), here), spells)
      | inr more ↦ absurd (omega (arith, more.0, member.3, asks_is_one bytes line rest n has.0 first asks has.1, asks_is_one bytes line rest n member.0 first asks member.1))
    ]

    earlier_place : (a : ℕ) → a < at → ¬ HasTextFault g bytes (fault.Outside k a)
    earlier_place a less = λ has.
        let P : List ℕ → Type 0 = λ l. IsLine l places in
        let one : has.4.1 ≡ places = line_is_one has.4.0 has.4.1 places has.4.4 (subst P (same_line has.4.0 has.4.3.1) spells) in
        has.4.6 (outside.1 a has.4.2 less (ap (λ l. slice_get l a) (sym one) ∙ has.4.5))

    others : (y : TextFault) (u : List ℕ) → HasTextFault g bytes y → text_fault_rank y ≡ k ∷ u → ¬ Precedes u (at ∷ [])
    others fault.Head u has e before = has (n, asks)
    others (fault.Line j) u has e before = line_there (subst (λ i. HasTextFault g bytes (fault.Line i)) (ap (λ l. get_or l 0 0) e) has)
    others (fault.Outside j a) u has e before =
        earlier_place a (before_place a at [] (subst (λ l. Precedes l (at ∷ [])) (sym (ap (drop 1) e)) before))
        (subst (λ i. HasTextFault g bytes (fault.Outside i a)) (ap (λ l. get_or l 0 0) e) has)
    others fault.NoMemory u has e before = has

  -- the line behind those that were read is none
  bad_line : (f : TextFault) → length paths < n → IsLineFault g behind (length paths + 2) f → (f ≡ fault.NoMemory) ⊎ IsTextFault g bytes f
  bad_line fault.Head less why = absurd why
  bad_line (fault.Line k) less why =
      let not_it : ¬ ((text : List ℕ) × (places : List (ℕ × ℕ)) × IsFullLine bytes k text × IsLine text places) = λ found.
      let begins = first_full_line behind found.0 (sym (next_line k found.0 why.0) ∙ found.2.1) in why.1 found.0 begins.0 found.1 begins.1 found.3 in
      inr (record { member = (n, asks, inl (omega (arith, why.0), omega (arith, why.0), not_it)); least = none_before_next k why.0 })
  bad_line (fault.Outside k at) less why =
      let here : slice_get (full_lines bytes) (k - 1) ≡ Some why.1.0 =
      next_line k why.1.0 why.0 ∙ ap (λ l. slice_get l 0) (full_lines-first behind why.1.0 why.1.1 why.1.3) in
      inr (outside_is_first k at why.0 why.1.0 why.1.1 why.1.2 why.1.3 why.1.4 why.1.5 (
        n,
        asks,
        omega (arith, why.0),
        omega (arith, why.0),
        (why.1.0, why.1.2, why.1.5.0.0, (omega (arith, why.0), here), why.1.4, why.1.5.0.1, why.1.5.0.2),
      ))
  bad_line fault.NoMemory less why = inl refl

  -- bytes stand behind the last line
  bytes_behind : length paths ≡ n → behind ≢ [] → IsTextFault g bytes (fault.Line (n + 2))
  bytes_behind all more = record { member = (n, asks, inr (refl, λ nothing. more (nothing_there nothing.0 nothing.1))); least = none_before_next (n + 2) (omega arith) }
    where
      nothing_there : pieces bytes ≡ full_lines bytes ++ [] ∷ [] → length (full_lines bytes) ≡ n + 1 → behind ≡ []
      nothing_there cut count =
          let behind_lines = full_lines behind in
          let none : behind_lines ≡ [] =
          empty_from_length behind_lines (omega (arith, count, ap length lines_are, length-append read.done behind_lines, as_many, all)) in
          let whole : line ∷ (read.done ++ pieces behind) ≡ line ∷ (read.done ++ ([] ∷ [])) =
          sym pieces_are ∙ cut ∙ ap (λ l. l ++ [] ∷ []) lines_are ∙ ap (λ l. line ∷ ((read.done ++ l) ++ [] ∷ [])) none
          ∙ ap (λ l. line ∷ (l ++ [] ∷ [])) (append-nil read.done) in
          nothing_left behind (append_cancel_left (line ∷ read.done) (pieces behind) ([] ∷ []) whole)

  -- all lines are read, and nothing stands behind them
  module _ (all : length paths ≡ n) (nothing : behind ≡ []) where
    all_lines : full_lines bytes ≡ line ∷ read.done
    all_lines =
        lines_are ∙ ap (λ l. line ∷ (read.done ++ full_lines l)) nothing
        ∙ ap (λ l. line ∷ (read.done ++ l)) (full_lines-none [] (λ k d within. absurd (omega arith))) ∙ ap (λ l. line ∷ l) (append-nil read.done)

    all_pieces : pieces bytes ≡ full_lines bytes ++ [] ∷ []
    all_pieces = pieces_are ∙ ap (λ l. line ∷ (read.done ++ pieces l)) nothing ∙ sym (ap (λ l. l ++ [] ∷ []) all_lines)

    pub no_fault : (f : TextFault) → ¬ HasTextFault g bytes f
    no_fault fault.Head = λ has. has (n, asks)
    no_fault (fault.Line k) = λ has.
        let one : has.0 ≡ n = asks_is_one bytes line rest n has.0 first asks has.1 in
        elim has.2 [
          | inl bad ↦ no_line_fault k (omega (arith, bad.1, all, one)) has
          | inr more ↦ more.1 (all_pieces, omega (arith, ap length all_lines, as_many, all, one))
        ]
    no_fault (fault.Outside k at) = λ has.
        let one : has.0 ≡ n = asks_is_one bytes line rest n has.0 first asks has.1 in no_outside k at (omega (arith, has.3, all, one)) has
    no_fault fault.NoMemory = λ has. has

-- why the lines that the head asks for aren't there is the text's fault
pub lines_fault : (g : Grid) (bytes line rest : List ℕ) (n : ℕ) (f : TextFault) → IsFirstLine bytes line rest → AsksFor bytes n → HasLinesFault g rest n f
    → (f ≡ fault.NoMemory) ⊎ IsTextFault g bytes f
lines_fault g bytes line rest n f first asks why = elim why.stuck [
  | inl stuck ↦ bad_line g bytes line rest why.rest n why.paths first asks why.read (omega (arith, stuck.0)) f stuck.0 stuck.1
  | inr stuck ↦ inr (subst (IsTextFault g bytes) (sym stuck.2) (bytes_behind g bytes line rest why.rest n why.paths first asks why.read (omega (arith, stuck.0)) stuck.0 stuck.1))
]

pub asks_by_head : (bytes line rest : List ℕ) (n : ℕ) → IsFirstLine bytes line rest → IsHeadOf n line → AsksFor bytes n
asks_by_head bytes line rest n first is = (line, (omega arith, ap (λ k. slice_get k 0) (full_lines-first bytes line rest first)), is)

-- the fault of a plan's lines
pub plan_fault : (g : Grid) (bytes line rest : List ℕ) (n cost : ℕ) (f : TextFault) → IsFirstLine bytes line rest → IsPlanHead line n cost
    → (f ≡ fault.NoMemory) ⊎ HasLinesFault g rest n f → (f ≡ fault.NoMemory) ⊎ IsTextFault g bytes f
plan_fault g bytes line rest n cost f first is (inl memory) = inl memory
plan_fault g bytes line rest n cost f first is (inr why) = lines_fault g bytes line rest n f first (asks_by_head bytes line rest n first (inl (cost, is))) why

-- bytes behind a line that is a whole text
pub whole_fault : (g : Grid) (bytes line rest : List ℕ) → IsFirstLine bytes line rest → IsWholeHead line → rest ≢ [] → IsTextFault g bytes (fault.Line 2)
whole_fault g bytes line rest first is more =
    bytes_behind g bytes line rest rest 0 [] first (asks_by_head bytes line rest 0 first (inr (is, refl))) (ReadsLines-start g rest) (omega arith) refl more
