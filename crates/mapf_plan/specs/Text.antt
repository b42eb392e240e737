-- The one text of an answer on a map.
use Rattle.std.specs.Prelude.{ℕ, ◌/◌, ◌%◌, ◌<◌, ◌≤◌, List, ◌++◌, length, map, codes, decimal}
use Rattle.std.specs.List.{flat_map, join_with_byte, AllByRecursion}
use Rattle.mapf_grid.specs.Grid.{Grid, cells}
use Rattle.mapf_plan.specs.declared.answer.TheConstants.{MOST_BOUND, MOST_NODES, MOST_STATED}
use Rattle.mapf_plan.specs.declared.answer.Answer.{Answer}
use Rattle.mapf_plan.specs.declared.answer.Answer.TheVariants as answer

-- a cell as its column and row: `x,y`
abbrev pub position : Grid → ℕ → List ℕ
position g c = decimal (c % g.width) ++ (codes "," ++ decimal (c / g.width))

-- an agent's positions at the times 0, 1, 2 and so on, parted by spaces
abbrev pub line : Grid → List ℕ → List ℕ
line g path = join_with_byte 32 (map (position g) path) ++ codes "\n"

-- `plan`, the number of agents, the cost, and a line for each agent; or `none` and the bound; or `gave up`, how many nodes
-- were taken, and a lower bound on the cost of a plan
abbrev pub text : Grid → Answer → List ℕ
text g (answer.Plan plan stated) =
    codes "plan " ++ (decimal (length plan) ++ (codes " " ++ (decimal stated ++ (codes "\n" ++ flat_map (line g) plan))))
text g (answer.None bound) = codes "none " ++ (decimal bound ++ codes "\n")
text g (answer.GaveUp nodes least) = codes "gave up " ++ (decimal nodes ++ (codes " " ++ (decimal least ++ codes "\n")))

-- every position is a cell of the map, and the numbers are within their limits
abbrev pub CanWrite : Grid → Answer → Type 0
CanWrite g (answer.Plan plan stated) = (stated ≤ MOST_STATED) × AllByRecursion (AllByRecursion (λ c. c < cells g)) plan
CanWrite g (answer.None bound) = bound ≤ MOST_BOUND
CanWrite g (answer.GaveUp nodes least) = (0 < nodes) × (nodes ≤ MOST_NODES) × (least ≤ MOST_BOUND)
