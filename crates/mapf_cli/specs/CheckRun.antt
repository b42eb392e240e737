-- What a check over devices leaves, for readers and a writer that tell their bytes.
use Rattle.std.specs.Prelude.{◌≡◌, ◌≢◌, ℕ, List, [], ◌∷◌, Option, IfSome, Result, Ok, Err}
use Rattle.mapf_grid.specs.Instance.{Instance}
use Rattle.mapf_grid.specs.Asked.{IsAsked, IsFilesFault}
use Rattle.mapf_grid.specs.declared.fault.MapFault.TheVariants as map_fault
use Rattle.mapf_grid.specs.declared.fault.ScenFault.TheVariants as scen_fault
use Rattle.mapf_grid.specs.declared.fault.InstanceFault.TheVariants as instance_fault
use Rattle.mapf_grid.specs.declared.files.FilesFault.{FilesFault}
use Rattle.mapf_grid.specs.declared.files.FilesFault.TheVariants as files_fault
use Rattle.mapf_plan.specs.Files.{File, End, Written, Broken, Refused, Leaves}
use Rattle.mapf_plan.specs.ReadText.{IsTextFault}
use Rattle.mapf_plan.specs.declared.rule.Rule.{Rule}
use Rattle.mapf_plan.specs.declared.device.fault.DeviceFault.TheVariants as device
use Rattle.mapf_plan.specs.declared.device.fault.FileName.TheVariants as file
use Rattle.mapf_plan.specs.declared.text.fault.TextFault.{TextFault}
use Rattle.mapf_plan.specs.declared.text.fault.TextFault.TheVariants as text_fault
use Rattle.mapf_check.specs.Judged.{AreJudged}
use Rattle.mapf_check.specs.declared.verdict.Verdict.{Verdict}
use Rattle.mapf_cli.specs.declared.check_fault.CheckFault.{CheckFault}
use Rattle.mapf_cli.specs.declared.check_fault.CheckFault.TheVariants as check

-- the first fault of map, scenario, instance and plan text; or `NoMemory`, in place of any
abbrev pub IsTextsFault : List ℕ → List ℕ → List ℕ → ℕ → CheckFault → Type 0
IsTextsFault map scen plan agents (check.Files named) = IsFilesFault map scen agents named
IsTextsFault map scen plan agents (check.Text named) = (inst : Instance) × IsAsked map scen agents inst × IsTextFault inst.grid plan named
IsTextsFault map scen plan agents (check.Device device.NoMemory) = Unit {0}
IsTextsFault map scen plan agents (check.Device other) = ⊥

-- the layers' faults as a check's: `NoMemory` is one, wherever it came
abbrev pub of_files : FilesFault → CheckFault
of_files files_fault.NoMemory = check.Device device.NoMemory
of_files named = check.Files named

abbrev pub of_text : TextFault → CheckFault
of_text text_fault.NoMemory = check.Device device.NoMemory
of_text named = check.Text named

-- the fault is no layer's own `NoMemory`
abbrev pub HasOneMemory : CheckFault → Type 0
HasOneMemory fault =
    (fault ≢ check.Files (files_fault.Map map_fault.NoMemory)) × (fault ≢ check.Files (files_fault.Scenario scen_fault.NoMemory))
    × (fault ≢ check.Files (files_fault.Instance instance_fault.NoMemory)) × (fault ≢ check.Files files_fault.NoMemory)
    × (fault ≢ check.Text text_fault.NoMemory)

-- how a check ended
abbrev pub end_of : Result Verdict CheckFault → End Verdict CheckFault
end_of (Ok verdict) = Written verdict
end_of (Err (check.Device broken)) = Broken broken
end_of (Err named) = Refused named

-- the files of a check, in the order in which they are read
abbrev pub files : (map scen plan : Option (List ℕ)) → List File
files map scen plan =
    record { name = file.Map; bytes = map } ∷ record { name = file.Scenario; bytes = scen } ∷ record { name = file.Plan; bytes = plan } ∷ []

-- a fact of the bytes of the three files, where all readers tell them
abbrev pub OfFiles : Option (List ℕ) → Option (List ℕ) → Option (List ℕ) → (List ℕ → List ℕ → List ℕ → Type 0) → Type 0
OfFiles map scen plan P = IfSome map (λ m. IfSome scen (λ s. IfSome plan (P m s)))

-- the writer got the line of the verdict that is answered, or the files were refused
abbrev pub LeavesVerdict : Rule → (map scen plan : Option (List ℕ)) → ℕ → (old new : Option (List ℕ)) → Result Verdict CheckFault → Type 0
LeavesVerdict rule map scen plan agents old new result =
    Leaves (λ verdict line. OfFiles map scen plan (λ m s p. AreJudged rule m s p agents verdict line))
    (λ named. OfFiles map scen plan (λ m s p. IsTextsFault m s p agents named)) old new (end_of result)
