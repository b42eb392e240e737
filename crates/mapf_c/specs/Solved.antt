-- What the solver replies to the bytes of two files and an ask.
use Rattle.std.specs.Prelude.{◌≡◌, ◌≢◌, ℕ, ℤ, ◌⊎◌, List, Some, None, Ok, Err}
use Rattle.mapf_grid.specs.Grid.{Grid}
use Rattle.mapf_plan.specs.Files.{IsTooLong, UpTo}
use Rattle.mapf_plan.specs.Text.{text}
use Rattle.mapf_plan.specs.declared.answer.Answer.{Answer}
use Rattle.mapf_plan.specs.declared.answer.Answer.TheVariants as answer
use Rattle.mapf_plan.specs.declared.device.fault.DeviceFault.TheVariants as device
use Rattle.mapf_solve.specs.Out.{IsText, IsRefusal, IsOut, IsBest, KeepsLimit, IsOnlyOut}
use Rattle.mapf_solve.specs.AnyOut.{IsAnyText, KeepsAnyLimit}
use Rattle.mapf_solve.specs.Run.{files}
use Rattle.mapf_solve.specs.declared.ask.Ask.{Ask}
use Rattle.mapf_solve.specs.declared.refusal.Refusal.TheVariants as refusal
use Rattle.mapf_c.specs.Reply.{IsPut}
use Rattle.mapf_c.specs.Faults.{IsStatusFor, IsRead}
use Rattle.mapf_c.specs.declared.fault.Fault.{Fault}
use Rattle.mapf_c.specs.declared.fault.Fault.TheVariants as fault

-- the status of an answer: a plan, none, or that the search gave up
abbrev pub status_of_answer : Answer → ℕ
status_of_answer (answer.Plan plan stated) = 0
status_of_answer (answer.None bound) = 1
status_of_answer (answer.GaveUp nodes least) = 6

-- the status of the bytes, whichever answer's text they are
abbrev pub IsStatusOf : List ℕ → ℕ → Type 0
IsStatusOf bytes status = (g : Grid) (given : Answer) → bytes ≡ text g given → status ≡ status_of_answer given

-- the files are answered with this status and these bytes: the text of conflict-based search's answer, which is best where no
-- limit is asked for, keeps the limit that is, and is the only one
pub record IsAnswered (map scen : List ℕ) (ask : Ask) (status : ℕ) (bytes : List ℕ) : Type 0 where
  pub map_read : IsRead map
  pub scen_read : IsRead scen
  pub text : IsText map scen ask bytes
  pub status_is : status ≡ status_of_answer text.given
  pub best : ask.nodes ≡ None → IsBest map scen ask bytes
  pub limit : (n : ℕ) → ask.nodes ≡ Some n → KeepsLimit map scen ask n bytes
  pub same : IsOnlyOut map scen ask (Ok bytes)

-- why they aren't: the first file that is too long, or else the first fault of the ask and the files, which is the only one
abbrev pub IsSolveFault : List ℕ → List ℕ → Ask → Fault → Type 0
IsSolveFault map scen ask (fault.Refusal named) =
    named ≢ refusal.NoMemory → IsRead map × IsRead scen × IsOut map scen ask (Err named) × IsOnlyOut map scen ask (Err named)
IsSolveFault map scen ask (fault.Text named) = ⊥
IsSolveFault map scen ask (fault.Device (device.TooLong name)) = UpTo IsTooLong name (files (Some map) (Some scen))
IsSolveFault map scen ask (fault.Device other) = ⊥

-- the same where any optimum will do
pub record IsAnyAnswered (map scen : List ℕ) (ask : Ask) (status : ℕ) (bytes : List ℕ) : Type 0 where
  pub map_read : IsRead map
  pub scen_read : IsRead scen
  pub text : IsAnyText map scen ask bytes
  pub status_is : status ≡ status_of_answer text.given
  pub best : ask.nodes ≡ None → IsBest map scen ask bytes
  pub limit : (n : ℕ) → ask.nodes ≡ Some n → KeepsAnyLimit map scen ask n bytes

abbrev pub IsAnySolveFault : List ℕ → List ℕ → Ask → Fault → Type 0
IsAnySolveFault map scen ask (fault.Refusal named) = named ≢ refusal.NoMemory → IsRead map × IsRead scen × IsRefusal map scen ask named
IsAnySolveFault map scen ask (fault.Text named) = ⊥
IsAnySolveFault map scen ask (fault.Device (device.TooLong name)) = UpTo IsTooLong name (files (Some map) (Some scen))
IsAnySolveFault map scen ask (fault.Device other) = ⊥

-- the call has left its reply: the answer, or the line of a fault
pub record Replies (Answered : ℕ → List ℕ → Type 0) (Faulty : Fault → Type 0) (old new : List ℕ) (needed : ℕ) (result : ℤ) : Type 0 where
  pub status : ℕ
  pub bytes : List ℕ
  pub put : IsPut status bytes old new needed result
  pub reply : Answered status bytes ⊎ ((named : Fault) × Faulty named × IsStatusFor named status bytes)

abbrev pub Solves : (map scen : List ℕ) → Ask → (old new : List ℕ) → (needed : ℕ) → (result : ℤ) → Type 0
Solves map scen ask old new needed result = Replies (IsAnswered map scen ask) (IsSolveFault map scen ask) old new needed result

abbrev pub SolvesAny : (map scen : List ℕ) → Ask → (old new : List ℕ) → (needed : ℕ) → (result : ℤ) → Type 0
SolvesAny map scen ask old new needed result = Replies (IsAnyAnswered map scen ask) (IsAnySolveFault map scen ask) old new needed result
