-- What a run over devices leaves, for readers and a writer that tell their bytes.
use Rattle.std.specs.Prelude.{ℕ, List, [], ◌∷◌, Option, IfSome, Result, Ok, Err}
use Rattle.mapf_plan.specs.Files.{File, End, Written, Broken, Refused, Leaves}
use Rattle.mapf_plan.specs.declared.device.fault.DeviceFault.{DeviceFault}
use Rattle.mapf_plan.specs.declared.device.fault.DeviceFault.TheVariants as device
use Rattle.mapf_plan.specs.declared.device.fault.FileName.TheVariants as file
use Rattle.mapf_plan.specs.declared.answer.Answer.{Answer}
use Rattle.mapf_tree.specs.Problem.{Problem}
use Rattle.mapf_tree.specs.Answered.{IsAnswerOf}
use Rattle.mapf_optimum.specs.AnyAnswer.{IsAnyAnswer}
use Rattle.mapf_solve.specs.Out.{IsTextBy, IsRefusal, IsBest, KeepsLimit, IsOnlyOut, IsWorkers}
use Rattle.mapf_solve.specs.AnyOut.{KeepsAnyLimit}
use Rattle.mapf_solve.specs.declared.ask.Ask.{Ask}
use Rattle.mapf_solve.specs.declared.refusal.Refusal.{Refusal}
use Rattle.mapf_solve.specs.declared.refusal.Refusal.TheVariants as refusal
use Rattle.mapf_solve.specs.declared.run_fault.RunFault.{RunFault}
use Rattle.mapf_solve.specs.declared.run_fault.RunFault.TheVariants as fault

-- a device's fault as a run's: `NoMemory` is a refusal
abbrev pub of_device : DeviceFault → RunFault
of_device device.NoMemory = fault.Refusal refusal.NoMemory
of_device broken = fault.Device broken

-- how a run ended
abbrev pub end_of : Result (Unit {0}) RunFault → End (Unit {0}) Refusal
end_of (Ok done) = Written done
end_of (Err (fault.Refusal refusal.NoMemory)) = Broken device.NoMemory
end_of (Err (fault.Refusal named)) = Refused named
end_of (Err (fault.Device broken)) = Broken broken

-- the files of a run, in the order in which they are read
abbrev pub files : (map scen : Option (List ℕ)) → List File
files map scen = record { name = file.Map; bytes = map } ∷ record { name = file.Scenario; bytes = scen } ∷ []

-- a fact of the bytes of both files, where both readers tell them
abbrev pub OfFiles : Option (List ℕ) → Option (List ℕ) → (List ℕ → List ℕ → Type 0) → Type 0
OfFiles map scen P = IfSome map (λ m. IfSome scen (P m))

-- the writer got the text of an answer, by what is said to answer a problem, or the files and the ask were refused
abbrev pub LeavesTextBy : (Answers : Problem → Answer → Type 0) → (map scen : Option (List ℕ)) → Ask → (old new : Option (List ℕ)) → Result (Unit {0}) RunFault → Type 0
LeavesTextBy Answers map scen ask old new result =
    Leaves (λ done text. OfFiles map scen (λ m s. IsTextBy Answers m s ask text)) (λ named. OfFiles map scen (λ m s. IsRefusal m s ask named))
    old new (end_of result)

-- that of the answer of conflict-based search
abbrev pub LeavesText : (map scen : Option (List ℕ)) → Ask → (old new : Option (List ℕ)) → Result (Unit {0}) RunFault → Type 0
LeavesText map scen ask old new result = LeavesTextBy IsAnswerOf map scen ask old new result

-- that of any optimum
abbrev pub LeavesAnyText : (map scen : Option (List ℕ)) → Ask → (old new : Option (List ℕ)) → Result (Unit {0}) RunFault → Type 0
LeavesAnyText map scen ask old new result = LeavesTextBy IsAnyAnswer map scen ask old new result

-- that text is that of a plan that has no conflict by the ask's rule and costs least of all such plans, or of `none` where no
-- such plan costs at most the bound
abbrev pub LeavesBest : (map scen : Option (List ℕ)) → Ask → (old new : Option (List ℕ)) → Result (Unit {0}) RunFault → Type 0
LeavesBest map scen ask old new result =
    Leaves (λ done text. OfFiles map scen (λ m s. IsBest m s ask text)) (λ named. Unit {0}) old new (end_of result)

-- with a limit of n nodes it is the same text, or that the search gave up
abbrev pub LeavesLimit : (map scen : Option (List ℕ)) → Ask → ℕ → (old new : Option (List ℕ)) → Result (Unit {0}) RunFault → Type 0
LeavesLimit map scen ask n old new result =
    Leaves (λ done text. OfFiles map scen (λ m s. KeepsLimit m s ask n text)) (λ named. Unit {0}) old new (end_of result)

-- with a limit of n nodes it is that of any optimum, or that the search gave up
abbrev pub LeavesAnyLimit : (map scen : Option (List ℕ)) → Ask → ℕ → (old new : Option (List ℕ)) → Result (Unit {0}) RunFault → Type 0
LeavesAnyLimit map scen ask n old new result =
    Leaves (λ done text. OfFiles map scen (λ m s. KeepsAnyLimit m s ask n text)) (λ named. Unit {0}) old new (end_of result)

-- with any number of workers from 1 to 64 there is no other text and no other refusal
abbrev pub LeavesOnly : (map scen : Option (List ℕ)) → Ask → (old new : Option (List ℕ)) → Result (Unit {0}) RunFault → Type 0
LeavesOnly map scen ask old new result =
    Leaves (λ done text. OfFiles map scen (λ m s. IsOnlyOut m s ask (Ok text)))
    (λ named. OfFiles map scen (λ m s. IsWorkers ask → IsOnlyOut m s ask (Err named))) old new (end_of result)
