-- The line of a verdict (this project's): the number of the fault and its words, with agents, places, times and costs in decimal.
use Rattle.std.specs.Prelude.{ℕ, List, ◌++◌, codes, decimal}
use Rattle.mapf_grid.specs.Grid.{Grid}
use Rattle.mapf_plan.specs.Text.{position}
use Rattle.mapf_plan.specs.declared.conflict.Conflict.{Conflict}
use Rattle.mapf_plan.specs.declared.conflict.Conflict.TheVariants.{Vertex, Swapping, Following}
use Rattle.mapf_check.specs.declared.verdict.Verdict.{Verdict}
use Rattle.mapf_check.specs.declared.verdict.Verdict.TheVariants as verdict

-- a conflict, with its cells as `x,y`; of a following conflict the follower is the first agent
abbrev pub conflict_words : Grid → Conflict → List ℕ
conflict_words g (Vertex t i j v) =
    (codes "66 vertex conflict agents " ++ decimal i) ++ (codes " " ++ decimal j)
    ++ (codes " cell " ++ position g v) ++ (codes " time " ++ decimal t)
conflict_words g (Swapping t i j u v) =
    (codes "66 swapping conflict agents " ++ decimal i) ++ (codes " " ++ decimal j)
    ++ (codes " from " ++ position g u) ++ (codes " to " ++ position g v) ++ (codes " time " ++ decimal t)
conflict_words g (Following t i j v) =
    (codes "66 following conflict agents " ++ decimal i) ++ (codes " " ++ decimal j)
    ++ (codes " cell " ++ position g v) ++ (codes " time " ++ decimal t)

-- a verdict
abbrev pub verdict_words : Grid → Verdict → List ℕ
verdict_words g (verdict.Valid c) = codes "valid " ++ decimal c
verdict_words g verdict.NoPlanGiven = codes "no plan given"
verdict_words g (verdict.AgentCount paths) = codes "61 agent count " ++ decimal paths
verdict_words g (verdict.WrongStart i) = codes "62 wrong start agent " ++ decimal i
verdict_words g (verdict.BadStep i t) = (codes "63 bad step agent " ++ decimal i) ++ (codes " time " ++ decimal t)
verdict_words g (verdict.WrongEnd i) = codes "64 wrong end agent " ++ decimal i
verdict_words g (verdict.EndsLate i) = codes "65 ends late agent " ++ decimal i
verdict_words g (verdict.Conflict c) = conflict_words g c
verdict_words g (verdict.WrongCost s found) = (codes "67 wrong cost stated " ++ decimal s) ++ (codes " found " ++ decimal found)

-- its words and an LF
abbrev pub verdict_line : Grid → Verdict → List ℕ
verdict_line g v = verdict_words g v ++ codes "\n"
