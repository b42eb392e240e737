-- What the text that a run leaves says of other plans and of other numbers of workers.
use Rattle.std.proofs.Common.{◌≡◌, ℕ, List, Option, Some, None, Result, Ok, Err, sym, subst}
use Rattle.std.specs.Result.{IsErrAnd}
use Rattle.mapf_plan.specs.Files.{IsWriteFaultOf}
use Rattle.mapf_plan.specs.declared.device.fault.DeviceFault.{DeviceFault}
use Rattle.mapf_plan.specs.declared.device.fault.DeviceFault.TheVariants as device
use Rattle.mapf_plan.proofs.WhatIsLeft.{Leaves-more}
use Rattle.mapf_plan.specs.declared.answer.Answer.{Answer}
use Rattle.mapf_tree.specs.Problem.{Problem}
use Rattle.mapf_solve.specs.Out.{IsTextBy}
use Rattle.mapf_solve.specs.Run.{of_device, OfFiles, end_of, LeavesTextBy, LeavesText, LeavesAnyText, LeavesBest, LeavesLimit, LeavesAnyLimit, LeavesOnly}
use Rattle.mapf_solve.specs.declared.ask.Ask.{Ask}
use Rattle.mapf_solve.specs.declared.run_fault.RunFault.{RunFault}
use Rattle.mapf_solve.proofs.Answering.{text_is_best, text_keeps_limit, any_text_is_best, any_text_keeps_limit}
use Rattle.mapf_solve.proofs.OneOut.{one_out}

-- a fact of both files follows from another
of_files : (map scen : Option (List ℕ)) (P Q : List ℕ → List ℕ → Type 0) → ((m s : List ℕ) → P m s → Q m s) → OfFiles map scen P → OfFiles map scen Q
of_files None scen P Q f h = tt
of_files (Some m) None P Q f h = tt
of_files (Some m) (Some s) P Q f h = f m s h

-- what is left without a limit is best
pub best_is_left : (map scen : Option (List ℕ)) (ask : Ask) (old new : Option (List ℕ)) (result : Result (Unit {0}) RunFault) → ask.nodes ≡ None → LeavesText map scen ask old new result → LeavesBest map scen ask old new result
best_is_left map scen ask old new result e h =
    Leaves-more _ _ _ _ (λ v t. of_files map scen _ _ (λ m s. text_is_best m s ask t e)) (λ r k. tt) old new (end_of result) h

-- and with a limit it is the same text, or that the search gave up
pub limit_is_left : (map scen : Option (List ℕ)) (ask : Ask) (n : ℕ) (old new : Option (List ℕ)) (result : Result (Unit {0}) RunFault) → ask.nodes ≡ Some n → LeavesText map scen ask old new result → LeavesLimit map scen ask n old new result
limit_is_left map scen ask n old new result e h =
    Leaves-more _ _ _ _ (λ v t. of_files map scen _ _ (λ m s. text_keeps_limit m s ask n t e)) (λ r k. tt) old new (end_of result) h

-- and the only one
pub only_is_left : (map scen : Option (List ℕ)) (ask : Ask) (old new : Option (List ℕ)) (result : Result (Unit {0}) RunFault) → LeavesText map scen ask old new result → LeavesOnly map scen ask old new result
only_is_left map scen ask old new result h =
    Leaves-more _ _ _ _ (λ v t. of_files map scen _ _ (λ m s is. one_out m s ask (Ok t) is.workers is))
    (λ r. of_files map scen _ _ (λ m s is has. one_out m s ask (Err r) has is)) old new (end_of result) h

-- and so it is with any optimum
pub any_best_is_left : (map scen : Option (List ℕ)) (ask : Ask) (old new : Option (List ℕ)) (result : Result (Unit {0}) RunFault) → ask.nodes ≡ None → LeavesAnyText map scen ask old new result → LeavesBest map scen ask old new result
any_best_is_left map scen ask old new result e h =
    Leaves-more _ _ _ _ (λ v t. of_files map scen _ _ (λ m s. any_text_is_best m s ask t e)) (λ r k. tt) old new (end_of result) h

pub any_limit_is_left : (map scen : Option (List ℕ)) (ask : Ask) (n : ℕ) (old new : Option (List ℕ)) (result : Result (Unit {0}) RunFault) → ask.nodes ≡ Some n → LeavesAnyText map scen ask old new result → LeavesAnyLimit map scen ask n old new result
any_limit_is_left map scen ask n old new result e h =
    Leaves-more _ _ _ _ (λ v t. of_files map scen _ _ (λ m s. any_text_keeps_limit m s ask n t e)) (λ r k. tt) old new (end_of result) h

-- a text that was written in part is left in part
module _ (Answers : Problem → Answer → Type 0) where
  pub part_is_left : (map scen : Option (List ℕ)) (ask : Ask) (old new : Option (List ℕ)) (text : List ℕ) (broken : DeviceFault) (result : Result (Unit {0}) RunFault) →
      OfFiles map scen (λ m s. IsTextBy Answers m s ask text) → IsWriteFaultOf text old new broken → IsErrAnd result (λ e. e ≡ of_device broken) → LeavesTextBy Answers map scen ask old new result
  part_is_left map scen ask old new text (device.WriteFailed taken) (Err e) says wrote is =
      subst (λ e. LeavesTextBy Answers map scen ask old new (Err e)) (sym is) (tt, text, says, wrote.0, wrote.1)
  part_is_left map scen ask old new text (device.ReadFailed name) (Err e) says wrote is = absurd wrote
  part_is_left map scen ask old new text (device.TooLong name) (Err e) says wrote is = absurd wrote
  part_is_left map scen ask old new text device.NoMemory (Err e) says wrote is = absurd wrote
  part_is_left map scen ask old new text broken (Ok done) says wrote is = absurd is
