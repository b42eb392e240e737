-- What the checker replies to the bytes of three files.
use Rattle.std.specs.Prelude.{◌≡◌, ◌≢◌, ℕ, ℤ, ◌⊎◌, List, [], ◌∷◌, Some}
use Rattle.mapf_grid.specs.Instance.{Instance}
use Rattle.mapf_grid.specs.Asked.{IsAsked, IsFilesFault}
use Rattle.mapf_grid.specs.declared.files.FilesFault.{FilesFault}
use Rattle.mapf_plan.specs.Files.{File, IsTooLong, UpTo}
use Rattle.mapf_plan.specs.ReadText.{IsTextFault}
use Rattle.mapf_plan.specs.declared.device.fault.DeviceFault.TheVariants as device
use Rattle.mapf_plan.specs.declared.device.fault.FileName.TheVariants as file
use Rattle.mapf_plan.specs.declared.rule.Rule.{Rule}
use Rattle.mapf_plan.specs.declared.text.fault.TextFault.TheVariants as text_fault
use Rattle.mapf_check.specs.Judged.{AreJudged}
use Rattle.mapf_check.specs.declared.verdict.Verdict.{Verdict}
use Rattle.mapf_check.specs.declared.verdict.Verdict.TheVariants as verdict
use Rattle.mapf_solve.specs.Out.{of_files}
use Rattle.mapf_solve.specs.declared.refusal.Refusal.TheVariants as refusal
use Rattle.mapf_c.specs.Reply.{IsPut}
use Rattle.mapf_c.specs.Faults.{IsStatusFor, IsRead}
use Rattle.mapf_c.specs.declared.fault.Fault.{Fault}
use Rattle.mapf_c.specs.declared.fault.Fault.TheVariants as fault

-- the files of a check, in the order in which they are read
abbrev pub files : (map scen plan : List ℕ) → List File
files map scen plan =
    record { name = file.Map; bytes = Some map } ∷ record { name = file.Scenario; bytes = Some scen } ∷ record { name = file.Plan; bytes = Some plan } ∷ []

-- the status of a verdict: valid or not
abbrev pub status_of_verdict : Verdict → ℕ
status_of_verdict (verdict.Valid cost) = 0
status_of_verdict other = 1

-- the files are judged with this status and these bytes: those of the verdict by this rule
pub record IsReplied (rule : Rule) (map scen plan : List ℕ) (agents status : ℕ) (bytes : List ℕ) : Type 0 where
  pub map_read : IsRead map
  pub scen_read : IsRead scen
  pub plan_read : IsRead plan
  pub verdict : Verdict
  pub judged : AreJudged rule map scen plan agents verdict bytes
  pub status_is : status ≡ status_of_verdict verdict

-- why they aren't: the first file that is too long, or else the first fault of map, scenario, instance and plan text; or that
-- memory ran out
abbrev pub IsCheckFault : List ℕ → List ℕ → List ℕ → ℕ → Fault → Type 0
IsCheckFault map scen plan agents (fault.Refusal named) =
    named ≢ refusal.NoMemory → IsRead map × IsRead scen × IsRead plan × (first : FilesFault) × (named ≡ of_files first) × IsFilesFault map scen agents first
IsCheckFault map scen plan agents (fault.Text named) =
    named ≢ text_fault.NoMemory → IsRead map × IsRead scen × IsRead plan × (inst : Instance) × IsAsked map scen agents inst × IsTextFault inst.grid plan named
IsCheckFault map scen plan agents (fault.Device (device.TooLong name)) = UpTo IsTooLong name (files map scen plan)
IsCheckFault map scen plan agents (fault.Device other) = ⊥

-- the call has left its reply: the verdict's line, or the line of a fault
pub record Checks (rule : Rule) (map scen plan : List ℕ) (agents : ℕ) (old new : List ℕ) (needed : ℕ) (result : ℤ) : Type 0 where
  pub status : ℕ
  pub bytes : List ℕ
  pub put : IsPut status bytes old new needed result
  pub reply : IsReplied rule map scen plan agents status bytes ⊎ ((named : Fault) × IsCheckFault map scen plan agents named × IsStatusFor named status bytes)
