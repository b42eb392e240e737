-- What a check's faults are, and what a failed write leaves.
use Rattle.std.proofs.Common.{◌≡◌, ℕ, ◌⊎◌, inl, inr, List, Option, Result, Ok, Err, IfSome, IfErr, subst, sym}
use Rattle.std.specs.Result.{IsErrAnd}
use Rattle.std.proofs.KnownBytes.{Keeps-refl}
use Rattle.mapf_grid.specs.Instance.{Instance}
use Rattle.mapf_grid.specs.Asked.{IsAsked}
use Rattle.mapf_plan.specs.Files.{IsWriteFaultOf}
use Rattle.mapf_plan.specs.ReadText.{IsTextFault}
use Rattle.mapf_plan.specs.declared.text.fault.TextFault.{TextFault}
use Rattle.mapf_plan.specs.declared.text.fault.TextFault.TheVariants as text_fault
use Rattle.mapf_plan.specs.declared.device.fault.DeviceFault.{DeviceFault}
use Rattle.mapf_plan.specs.declared.device.fault.DeviceFault.TheVariants as device
use Rattle.mapf_plan.specs.declared.rule.Rule.{Rule}
use Rattle.mapf_plan.proofs.WhatIsLeft.{told, Leaves-part}
use Rattle.mapf_check.specs.declared.verdict.Verdict.{Verdict}
use Rattle.mapf_check.specs.Judged.{AreJudged}
use Rattle.mapf_cli.specs.CheckRun.{IsTextsFault, HasOneMemory, of_text, OfFiles, LeavesVerdict}
use Rattle.mapf_cli.specs.declared.check_fault.CheckFault.{CheckFault}
use Rattle.mapf_cli.specs.declared.check_fault.CheckFault.TheVariants as check

-- a fault of the texts is no layer's own `NoMemory`
pub one_memory : (map scen plan : List ℕ) (agents : ℕ) (fault : CheckFault) → IsTextsFault map scen plan agents fault → HasOneMemory fault
one_memory map scen plan agents fault h = (
  λ e. (subst (IsTextsFault map scen plan agents) e h).member,
  λ e. (subst (IsTextsFault map scen plan agents) e h).2.member,
  λ e. (subst (IsTextsFault map scen plan agents) e h).4.member,
  λ e. subst (IsTextsFault map scen plan agents) e h,
  λ e. (subst (IsTextsFault map scen plan agents) e h).2.member,
)

-- the fault of a plan's text is one of the texts
of_plan : (map scen plan : List ℕ) (agents : ℕ) (inst : Instance) (fault : TextFault) → IsAsked map scen agents inst →
    (fault ≡ text_fault.NoMemory) ⊎ IsTextFault inst.grid plan fault → IsTextsFault map scen plan agents (of_text fault)
of_plan map scen plan agents inst fault asked (inl e) = subst (λ f. IsTextsFault map scen plan agents (of_text f)) (sym e) tt
of_plan map scen plan agents inst text_fault.Head asked (inr h) = (inst, asked, h)
of_plan map scen plan agents inst (text_fault.Line line) asked (inr h) = (inst, asked, h)
of_plan map scen plan agents inst (text_fault.Outside line place) asked (inr h) = (inst, asked, h)
of_plan map scen plan agents inst text_fault.NoMemory asked (inr h) = tt

-- so what is answered for it is
pub plan_refused : {T : Type 0} (map scen plan : List ℕ) (agents : ℕ) (inst : Instance) (fault : TextFault) (result : Result T CheckFault) →
    IsAsked map scen agents inst → (fault ≡ text_fault.NoMemory) ⊎ IsTextFault inst.grid plan fault → IsErrAnd result (λ e. e ≡ of_text fault) →
    IfErr result (IsTextsFault map scen plan agents)
plan_refused map scen plan agents inst fault (Err e) asked h is =
    subst (IsTextsFault map scen plan agents) (sym is) (of_plan map scen plan agents inst fault asked h)
plan_refused map scen plan agents inst fault (Ok t) asked h is = tt

-- a line that was written in part is left in part
pub part_is_left : (rule : Rule) (map scen plan : Option (List ℕ)) (agents : ℕ) (old new : Option (List ℕ)) (verdict : Verdict) (line : List ℕ) (broken : DeviceFault) (result : Result Verdict CheckFault) →
    OfFiles map scen plan (λ m s p. AreJudged rule m s p agents verdict line) → IsWriteFaultOf line old new broken → IsErrAnd result (λ e. e ≡ check.Device broken) →
    LeavesVerdict rule map scen plan agents old new result
part_is_left rule map scen plan agents old new verdict line broken (Err e) says wrote is =
    subst (λ e. LeavesVerdict rule map scen plan agents old new (Err e)) (sym is)
    (Leaves-part {R = CheckFault} (λ v l. OfFiles map scen plan (λ m s p. AreJudged rule m s p agents v l)) (λ named. OfFiles map scen plan (λ m s p. IsTextsFault m s p agents named)) old new verdict line broken says wrote)
part_is_left rule map scen plan agents old new verdict line broken (Ok v) says wrote is = absurd is

-- after a fault of the texts nothing is written
pub refused_is_left : (rule : Rule) (map scen plan : Option (List ℕ)) (agents : ℕ) (held : Option (List ℕ)) (m s p : List ℕ) (fault : CheckFault) (result : Result Verdict CheckFault) →
    IsTextsFault m s p agents fault → OfFiles map scen plan (λ m s p. IsTextsFault m s p agents fault) → IsErrAnd result (λ e. e ≡ fault) →
    LeavesVerdict rule map scen plan agents held held result
refused_is_left rule map scen plan agents held m s p (check.Files f) (Err e) h told is =
    subst (λ e. LeavesVerdict rule map scen plan agents held held (Err e)) (sym is) (Keeps-refl held, told)
refused_is_left rule map scen plan agents held m s p (check.Text f) (Err e) h told is =
    subst (λ e. LeavesVerdict rule map scen plan agents held held (Err e)) (sym is) (Keeps-refl held, told)
refused_is_left rule map scen plan agents held m s p (check.Device device.NoMemory) (Err e) h told is =
    subst (λ e. LeavesVerdict rule map scen plan agents held held (Err e)) (sym is) (Keeps-refl held)
refused_is_left rule map scen plan agents held m s p (check.Device (device.ReadFailed name)) (Err e) h told is = absurd h
refused_is_left rule map scen plan agents held m s p (check.Device (device.WriteFailed taken)) (Err e) h told is = absurd h
refused_is_left rule map scen plan agents held m s p (check.Device (device.TooLong name)) (Err e) h told is = absurd h
refused_is_left rule map scen plan agents held m s p fault (Ok v) h told is = absurd is

-- what holds of the bytes that were read holds of what the readers tell
pub all_told : (map scen plan : Option (List ℕ)) (m s p a b c : List ℕ) (P : List ℕ → List ℕ → List ℕ → Type 0) → m ≡ a → IfSome map (λ all. a ≡ all) →
    s ≡ b → IfSome scen (λ all. b ≡ all) → p ≡ c → IfSome plan (λ all. c ≡ all) → P m s p → OfFiles map scen plan P
all_told map scen plan m s p a b c P em wm es ws ep wp h =
    told map m a (λ x. IfSome scen (λ y. IfSome plan (P x y))) em wm (told scen s b (λ y. IfSome plan (P m y)) es ws (told plan p c (P m s) ep wp h))
