-- First lines that are no head.
use Rattle.std.proofs.Common.{◌≡◌, ℕ, List, ◌++◌, get_or, ap, sym, ◌∙◌, subst, arith}
use Rattle.std.specs.Prelude.{codes}
use Rattle.std.proofs.lemmas.List.{append_cancel_left}
use Rattle.mapf_plan.specs.ReadText.{ArePlanNumbers, AreGaveUpNumbers}
use Rattle.mapf_plan.specs.Head.{IsHead}
use Rattle.mapf_plan.specs.declared.text.reader.Head.{Head}
use Rattle.mapf_plan.specs.declared.text.reader.Head.TheVariants as head

-- behind `plan ` stand no numbers
pub no_head_by_numbers : (line numbers : List ℕ) → line ≡ codes "plan " ++ numbers → ((pair : ℕ × ℕ) → ¬ ArePlanNumbers numbers pair)
    → (first : Head) → ¬ IsHead line first
no_head_by_numbers line numbers begins none (head.Plan agents cost) = λ is.
    let P : List ℕ → Type 0 = λ l. ArePlanNumbers l (agents, cost) in
    none (agents, cost) (subst P (append_cancel_left (codes "plan ") is.0 numbers (sym is.1 ∙ begins)) is.2)
no_head_by_numbers line numbers begins none (head.None bound) = λ is.
    let byte : ◌≡◌ {A = ℕ} 110 112 = ap (λ l. get_or l 0 0) (sym is.1 ∙ begins) in
    absurd (omega arith)
no_head_by_numbers line numbers begins none (head.GaveUp nodes least) = λ is.
    let byte : ◌≡◌ {A = ℕ} 103 112 = ap (λ l. get_or l 0 0) (sym is.1 ∙ begins) in
    absurd (omega arith)

-- behind `gave up ` stand no numbers
pub no_head_by_gave_up : (line numbers : List ℕ) → line ≡ codes "gave up " ++ numbers → ((pair : ℕ × ℕ) → ¬ AreGaveUpNumbers numbers pair)
    → (first : Head) → ¬ IsHead line first
no_head_by_gave_up line numbers begins none (head.Plan agents cost) = λ is.
    let byte : ◌≡◌ {A = ℕ} 112 103 = ap (λ l. get_or l 0 0) (sym is.1 ∙ begins) in
    absurd (omega arith)
no_head_by_gave_up line numbers begins none (head.None bound) = λ is.
    let byte : ◌≡◌ {A = ℕ} 110 103 = ap (λ l. get_or l 0 0) (sym is.1 ∙ begins) in
    absurd (omega arith)
no_head_by_gave_up line numbers begins none (head.GaveUp nodes least) = λ is.
    let P : List ℕ → Type 0 = λ l. AreGaveUpNumbers l (nodes, least) in
    none (nodes, least) (subst P (append_cancel_left (codes "gave up ") is.0 numbers (sym is.1 ∙ begins)) is.2)
