-- Two files and an ask have one text or one fault, and the number of workers is no part of it.
use Rattle.std.proofs.Common.{◌≡◌, ◌≢◌, ℕ, List, Option, Some, None, Result, Ok, Err, IfOk, IfErr, subst, sym, refl, ap, ◌∙◌}
use native.Mathlib.Decide.{dec_le, dec_lt}
use Rattle.mapf_grid.specs.Instance.{Instance}
use Rattle.mapf_grid.specs.Asked.{IsAsked, IsFilesFault}
use Rattle.mapf_grid.specs.declared.files.FilesFault.{FilesFault}
use Rattle.mapf_grid.proofs.Decide.{by_cases, dec_and}
use Rattle.mapf_grid.proofs.Asked.{same_instance, no_fault, same_files_fault}
use Rattle.mapf_plan.specs.declared.answer.TheConstants.{MOST_BOUND, MOST_NODES}
use Rattle.mapf_plan.specs.Text.{text}
use Rattle.mapf_tree.specs.Problem.{IsLimit}
use Rattle.mapf_tree.specs.Answered.{IsAnswerOf}
use Rattle.mapf_tree.proofs.high_level.Limits.{stated_is_unique}
use Rattle.mapf_solve.specs.Out.{problem_of, IsBound, IsWorkers, IsNodes, of_files, IsRefusal, IsText, IsOut, IsOnlyOut, OneOut}
use Rattle.mapf_solve.specs.declared.ask.Ask.{Ask}
use Rattle.mapf_solve.specs.declared.refusal.Refusal.{Refusal}
use Rattle.mapf_solve.specs.declared.refusal.Refusal.TheVariants as refusal

-- two files and an ask have one text
same_text : (map scen : List ℕ) (ask : Ask) (n : ℕ) (a b : List ℕ) → IsText map scen ask a → IsText map scen (record ask { workers = n }) b → b ≡ a
same_text map scen ask n a b s t =
    let i : t.inst ≡ s.inst = same_instance map scen ask.agents t.inst s.inst t.asked s.asked in
    let g : t.given ≡ s.given = stated_is_unique (problem_of s.inst ask) t.given s.given (subst (λ x. IsAnswerOf (problem_of x ask) t.given) i t.answer) s.answer in
    t.spelled ∙ ap (λ (x : Instance). text x.grid t.given) i ∙ ap (text s.inst.grid) g ∙ sym s.spelled

-- past the bound there is one fault
past_bound : (map scen : List ℕ) (ask : Ask) (fault : Refusal) → ¬ IsBound ask → IsRefusal map scen ask fault → fault ≡ refusal.Bound
past_bound map scen ask refusal.Bound over f = refl
past_bound map scen ask fault over f = absurd (over f.0)

-- within the bound, with a number of workers that may be and a limit on nodes that may not, there is one fault
past_nodes : (map scen : List ℕ) (ask : Ask) (fault : Refusal) → IsBound ask → IsWorkers ask → ¬ IsNodes ask → IsRefusal map scen ask fault → fault ≡ refusal.Nodes
past_nodes map scen ask refusal.Bound b w over f = absurd (f b)
past_nodes map scen ask refusal.Workers b w over f = absurd (f.1 w)
past_nodes map scen ask refusal.Nodes b w over f = refl
past_nodes map scen ask fault b w over f = absurd (over f.2)

-- within the bound, with a number of workers and a limit on nodes that may be, the fault is one of the files
of_the_files : (map scen : List ℕ) (ask : Ask) (named : Refusal) → IsBound ask → IsWorkers ask → IsNodes ask → IsRefusal map scen ask named →
    (fault : FilesFault) × (named ≡ of_files fault) × IsFilesFault map scen ask.agents fault
of_the_files map scen ask refusal.Bound b w l f = absurd (f b)
of_the_files map scen ask refusal.Workers b w l f = absurd (f.1 w)
of_the_files map scen ask refusal.Nodes b w l f = absurd (f.2 l)
of_the_files map scen ask named b w l f = (f.3, f.4, f.5)

-- an instance that is asked for is not refused
not_refused : (map scen : List ℕ) (ask : Ask) (named : Refusal) (i : Instance) → IsAsked map scen ask.agents i → IsBound ask → IsWorkers ask → IsNodes ask → IsRefusal map scen ask named → ⊥
not_refused map scen ask named i asked b w l f =
    let h = of_the_files map scen ask named b w l f in no_fault map scen ask.agents i h.0 asked h.2

-- the files are refused for one fault
same_refusal : (map scen : List ℕ) (ask : Ask) (n : ℕ) (a b : Refusal) → IsBound ask → IsWorkers ask → IsWorkers (record ask { workers = n }) → IsNodes ask →
    IsRefusal map scen ask a → IsRefusal map scen (record ask { workers = n }) b → b ≡ a
same_refusal map scen ask n a b within has may limit f g =
    let h = of_the_files map scen ask a within has limit f in
    let k = of_the_files map scen (record ask { workers = n }) b within may limit g in
    k.1 ∙ ap of_files (same_files_fault map scen ask.agents h.0 k.0 h.2 k.2) ∙ sym h.1

-- whether a limit may be
dec_limit : (nodes : Option ℕ) → Dec (IsLimit nodes)
dec_limit None = yes tt
dec_limit (Some n) = dec_and (dec_lt 0 n) (dec_le n MOST_NODES)

-- so two results for two numbers of workers are one
pub one_out : OneOut
one_out map scen ask (Ok a) has s n may (Ok b) t = ap (λ x. Ok x) (same_text map scen ask n a b s t)
one_out map scen ask (Ok a) has s n may (Err f) t =
    absurd (not_refused map scen (record ask { workers = n }) f s.inst s.asked s.bound may s.nodes t)
one_out map scen ask (Err f) has s n may (Ok b) t =
    absurd (not_refused map scen ask f t.inst t.asked t.bound has t.nodes s)
one_out map scen ask (Err f) has s n may (Err g) t =
    elim (dec_le ask.bound MOST_BOUND) [
      | yes h ↦ by_cases (dec_limit ask.nodes) (λ l. ap (λ x. Err x) (same_refusal map scen ask n f g h has may l s t))
          (λ l. ap (λ x. Err x) (past_nodes map scen (record ask { workers = n }) g h may l t ∙ sym (past_nodes map scen ask f h has l s)))
      | no h ↦ ap (λ x. Err x) (past_bound map scen (record ask { workers = n }) g h t ∙ sym (past_bound map scen ask f h s))
    ]

-- so a text that is answered is the only one
pub only_text : {T : Type 0} (bytes : T → List ℕ) (map scen : List ℕ) (ask : Ask) (r : Result T Refusal) →
    IfOk r (λ t. IsOut map scen ask (Ok (bytes t))) → IfOk r (λ t. IsOnlyOut map scen ask (Ok (bytes t)))
only_text bytes map scen ask (Ok t) out = one_out map scen ask (Ok (bytes t)) out.workers out
only_text bytes map scen ask (Err f) out = tt

-- and so is a fault, unless memory runs out
pub only_fault : {T : Type 0} (map scen : List ℕ) (ask : Ask) (r : Result T Refusal) →
    IfErr r (λ f. f ≢ refusal.NoMemory → IsOut map scen ask (Err f)) →
    IfErr r (λ f. f ≢ refusal.NoMemory → IsWorkers ask → IsOnlyOut map scen ask (Err f))
only_fault map scen ask (Ok t) out = tt
only_fault map scen ask (Err f) out = λ named has. one_out map scen ask (Err f) has (out named)
