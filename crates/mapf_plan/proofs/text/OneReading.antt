-- The text of an answer has no fault, and is read as that answer.
use Rattle.std.proofs.Common.{◌≡◌, ℕ, ◌<◌, ◌≤◌, ◌⊎◌, inl, inr, eqb, false, List, [], ◌∷◌, ◌++◌, length, map, refl, sym, ap, ◌∙◌, subst, append_assoc, append-nil, arith}
use Rattle.std.specs.Prelude.{Result, Ok, Err, IfErr, MatchResult, codes, decimal}
use Rattle.std.specs.List.{flat_map, AllByRecursion, AllZip}
use Rattle.std.proofs.lemmas.List.Elements.{All-append}
use Rattle.mapf_grid.specs.Grid.{Grid, HasSizes}
use Rattle.mapf_plan.specs.Text.{line, text, CanWrite}
use Rattle.mapf_plan.specs.ReadText as read
use Rattle.mapf_plan.specs.ReadText.{IsPathLine, IsPlanHead, IsGaveUpHead, IsWholeHead, IsFirstLine, IsTextOf, HasTextFault, IsTextFault, ReadsLines, AreLinesOf}
use Rattle.mapf_plan.specs.declared.answer.Answer.{Answer}
use Rattle.mapf_plan.specs.declared.answer.Answer.TheVariants as answer
use Rattle.mapf_plan.specs.declared.text.fault.TextFault.{TextFault}
use Rattle.mapf_plan.specs.declared.text.fault.TextFault.TheVariants.{NoMemory}
use Rattle.mapf_plan.proofs.text.Cuts.{Lacks, Lacks-cons, Lacks-decimal}
use Rattle.mapf_plan.proofs.text.Written.{written, Lacks-around, Lacks-written, path_line}
use Rattle.mapf_plan.proofs.text.Lines.{lines_spelled, ReadsLines-start}
use Rattle.mapf_plan.proofs.text.TextFaults.{asks_by_head, no_fault}
use Rattle.mapf_plan.proofs.text.OneText.{AreSized, AreInside, text_is_one}
use Rattle.mapf_grid.specs.declared.instance.TheConstants.{MOST_AGENTS}
use Rattle.mapf_plan.specs.declared.answer.TheConstants.{MOST_STATED, MOST_BOUND, MOST_NODES}

-- bytes each of which is another
Lacks-each : (byte : ℕ) (bytes : List ℕ) → AllByRecursion (λ b. eqb b byte ≡ false) bytes → Lacks byte bytes
Lacks-each byte [] each = λ k d within. absurd (omega arith)
Lacks-each byte (b ∷ bs) each = Lacks-cons byte b bs each.0 (Lacks-each byte bs each.1)

-- the lines that are written are read
module _ (g : Grid) (sizes : HasSizes g) where
  lines_apart : (plan : List (List ℕ)) → AreInside g plan → AllByRecursion (Lacks 10) (map (written g sizes) plan)
  lines_apart [] inside = tt
  lines_apart (p ∷ ps) inside = (Lacks-written g sizes p inside.0, lines_apart ps inside.1)

  lines_read : (plan : List (List ℕ)) → AreSized plan → AreInside g plan → AllZip (IsPathLine g) (map (written g sizes) plan) plan
  lines_read [] sized inside = tt
  lines_read (p ∷ ps) sized inside = (path_line g sizes p sized.0 inside.0, lines_read ps sized.1 inside.1)

  ReadsLines-written : (plan : List (List ℕ)) → AreSized plan → AreInside g plan → ReadsLines g (flat_map (line g) plan) [] plan
  ReadsLines-written plan sized inside =
      let each = lines_read plan sized inside in record {
        done = map (written g sizes) plan;
        cut = sym (lines_spelled g (map (written g sizes) plan) plan each) ∙ sym (append-nil (flat_map (λ l. l ++ 10 ∷ []) (map (written g sizes) plan)));
        apart = lines_apart plan inside;
        each = each;
      }

-- the first line of a plan's text
plan_head : (agents cost : ℕ) → List ℕ
plan_head agents cost = codes "plan " ++ (decimal agents ++ 32 ∷ decimal cost)

plan_head_is : (agents cost : ℕ) → 0 < agents → agents ≤ MOST_AGENTS → cost ≤ MOST_STATED → IsPlanHead (plan_head agents cost) agents cost
unfolding plan_head
plan_head_is agents cost some few within = (decimal agents ++ 32 ∷ decimal cost, refl, (some, few, within, refl))

Lacks-plan_head : (agents cost : ℕ) → agents ≤ MOST_AGENTS → cost ≤ MOST_STATED → Lacks 10 (plan_head agents cost)
unfolding plan_head
Lacks-plan_head agents cost few within =
    All-append (λ b. eqb b 10 ≡ false) (codes "plan ") (decimal agents ++ 32 ∷ decimal cost) (Lacks-each 10 (codes "plan ") (refl, (refl, (refl, (refl, (refl, tt))))))
    (Lacks-around 10 32 (decimal agents) (decimal cost) (omega arith) (Lacks-decimal 10 agents (omega arith) (omega arith)) (Lacks-decimal 10 cost within (omega arith)))

plan_first_line : (g : Grid) (plan : List (List ℕ)) (cost : ℕ) → length plan ≤ MOST_AGENTS → cost ≤ MOST_STATED
    → IsFirstLine (text g (answer.Plan plan cost)) (plan_head (length plan) cost) (flat_map (line g) plan)
unfolding plan_head
plan_first_line g plan cost few within = (simp append_assoc, Lacks-plan_head (length plan) cost few within)

none_first_line : (g : Grid) (bound : ℕ) → bound ≤ MOST_BOUND → IsFirstLine (text g (answer.None bound)) (codes "none " ++ decimal bound) []
none_first_line g bound within = (
  simp append_assoc,
  All-append (λ b. eqb b 10 ≡ false) (codes "none ") (decimal bound) (Lacks-each 10 (codes "none ") (refl, (refl, (refl, (refl, (refl, tt))))))
      (Lacks-decimal 10 bound (omega arith) (omega arith)),
)

-- the one line of the text where a search gave up
gave_up_head : (nodes least : ℕ) → List ℕ
gave_up_head nodes least = codes "gave up " ++ (decimal nodes ++ 32 ∷ decimal least)

gave_up_head_is : (nodes least : ℕ) → 0 < nodes → nodes ≤ MOST_NODES → least ≤ MOST_BOUND → IsGaveUpHead (gave_up_head nodes least) nodes least
unfolding gave_up_head
gave_up_head_is nodes least some few within = (decimal nodes ++ 32 ∷ decimal least, refl, (some, few, within, refl))

gave_up_first_line : (g : Grid) (nodes least : ℕ) → nodes ≤ MOST_NODES → least ≤ MOST_BOUND → IsFirstLine (text g (answer.GaveUp nodes least)) (gave_up_head nodes least) []
unfolding gave_up_head
gave_up_first_line g nodes least few within = (
  simp append_assoc,
  All-append (λ b. eqb b 10 ≡ false) (codes "gave up ") (decimal nodes ++ 32 ∷ decimal least)
      (Lacks-each 10 (codes "gave up ") (refl, (refl, (refl, (refl, (refl, (refl, (refl, (refl, tt)))))))))
      (Lacks-around 10 32 (decimal nodes) (decimal least) (omega arith) (Lacks-decimal 10 nodes (omega arith) (omega arith)) (Lacks-decimal 10 least (omega arith) (omega arith))),
)

-- a text of one line has no fault
whole_has_no_fault : (g : Grid) (bytes head : List ℕ) → IsFirstLine bytes head [] → IsWholeHead head → (f : TextFault) → ¬ HasTextFault g bytes f
whole_has_no_fault g bytes head first is =
    no_fault g bytes head [] [] 0 [] first (asks_by_head bytes head [] 0 first (inr (is, refl))) (ReadsLines-start g []) (omega arith) refl refl

-- the text of an answer has no fault
text_has_no_fault : (g : Grid) (a : Answer) → HasSizes g → read.IsWithinLimits a → CanWrite g a → (f : TextFault) → ¬ HasTextFault g (text g a) f
text_has_no_fault g (answer.Plan plan cost) sizes sized can =
    let head = plan_head (length plan) cost in
    let first = plan_first_line g plan cost sized.1 can.0 in
    let asks = asks_by_head (text g (answer.Plan plan cost)) head (flat_map (line g) plan) (length plan) first
    (inl (cost, plan_head_is (length plan) cost sized.0 sized.1 can.0)) in
    no_fault g (text g (answer.Plan plan cost)) head (flat_map (line g) plan) [] (length plan) plan first asks
    (ReadsLines-written g sizes plan sized.2 can.1) (omega arith) refl refl
text_has_no_fault g (answer.None bound) sizes sized can =
    whole_has_no_fault g (text g (answer.None bound)) (codes "none " ++ decimal bound) (none_first_line g bound can) (inl (bound, (can, refl)))
text_has_no_fault g (answer.GaveUp nodes least) sizes sized can =
    whole_has_no_fault g (text g (answer.GaveUp nodes least)) (gave_up_head nodes least) (gave_up_first_line g nodes least can.1 can.2)
    (inr ((nodes, least), gave_up_head_is nodes least can.0 can.1 can.2))

-- the head and the lines that were read are the text of a plan
pub plan_is_read : (g : Grid) (bytes head rest : List ℕ) (agents cost : ℕ) (plan : List (List ℕ)) → IsFirstLine bytes head rest → IsPlanHead head agents cost
    → length plan ≡ agents → AreLinesOf g rest plan → IsTextOf g bytes (answer.Plan plan cost)
plan_is_read g bytes head rest agents cost plan first is as_many lines =
    let regrouped : (codes "plan " ++ (decimal agents ++ 32 ∷ decimal cost)) ++ 10 ∷ rest ≡ codes "plan " ++ (decimal agents ++ 32 ∷ (decimal cost ++ 10 ∷ rest)) =
    simp append_assoc in record {
      sizes = (omega (arith, as_many, is.2.0), omega (arith, as_many, is.2.1), lines.sizes);
      writable = (is.2.2, lines.inside);
      spelled = first.0 ∙ ap (λ l. l ++ 10 ∷ rest) (is.1 ∙ ap (λ l. codes "plan " ++ l) is.2.3) ∙ regrouped
          ∙ ap (λ n. codes "plan " ++ (decimal n ++ 32 ∷ (decimal cost ++ 10 ∷ rest))) (sym as_many)
          ∙ ap (λ l. codes "plan " ++ (decimal (length plan) ++ 32 ∷ (decimal cost ++ 10 ∷ l))) lines.spelled;
    }

-- the head alone is the text of a search that gave up
pub gave_up_is_read : (g : Grid) (bytes head : List ℕ) (nodes least : ℕ) → IsFirstLine bytes head [] → IsGaveUpHead head nodes least → IsTextOf g bytes (answer.GaveUp nodes least)
gave_up_is_read g bytes head nodes least first is =
    let regrouped : (codes "gave up " ++ (decimal nodes ++ 32 ∷ decimal least)) ++ 10 ∷ [] ≡ text g (answer.GaveUp nodes least) = simp append_assoc in record {
      sizes = tt;
      writable = (is.2.0, is.2.1, is.2.2);
      spelled = first.0 ∙ ap (λ l. l ++ 10 ∷ []) (is.1 ∙ ap (λ l. codes "gave up " ++ l) is.2.3) ∙ regrouped;
    }

-- what was read is the answer
pub read_is_one : (g : Grid) (bytes : List ℕ) (b a : Answer) → HasSizes g → IsTextOf g bytes b → IsTextOf g bytes a → b ≡ a
read_is_one g bytes b a sizes is other = text_is_one g b a bytes bytes [] [] sizes is other refl

-- where the bytes are a text, the only fault is that there is no memory
pub fault_is_memory : (g : Grid) (bytes : List ℕ) (f : TextFault) (a : Answer) → HasSizes g → (f ≡ NoMemory) ⊎ IsTextFault g bytes f → IsTextOf g bytes a → f ≡ NoMemory
fault_is_memory g bytes f a sizes (inl memory) is = memory
fault_is_memory g bytes f a sizes (inr why) is =
    let P : List ℕ → Type 0 = λ l. HasTextFault g l f in
    absurd (text_has_no_fault g a sizes is.sizes is.writable f (subst P is.spelled why.member))

-- where the bytes are a text and reading them fails, there is no memory
pub only_err : (g : Grid) (bytes : List ℕ) (result : Result Answer TextFault) (e : TextFault) → HasSizes g → result ≡ Err e
    → IfErr result (λ f. (f ≡ NoMemory) ⊎ IsTextFault g bytes f) → (a : Answer) → IsTextOf g bytes a → MatchResult result (λ b. b ≡ a) (λ f. f ≡ NoMemory)
only_err g bytes (Ok b) e sizes is why a other = cc
only_err g bytes (Err f) e sizes is why a other = fault_is_memory g bytes f a sizes why other
