-- Which bytes are the text of an answer on a map, and the fault of those that are none.
use Rattle.std.specs.Prelude.{◌≡◌, ◌≢◌, ℕ, false, ◌+◌, ◌-◌, ◌*◌, ◌<◌, ◌≤◌, ◌⊎◌, ◌==◌, List, [], ◌∷◌, ◌++◌, length, take, codes, decimal, slice_get, All, Some}
use Rattle.std.specs.List.{flat_map, slice_split, AllByRecursion, AllZip}
use Rattle.mapf_grid.specs.Grid.{Grid, cells}
use Rattle.mapf_grid.specs.declared.instance.TheConstants.{MOST_AGENTS}
use Rattle.mapf_grid.specs.Least.{IsLeast}
use Rattle.mapf_plan.specs.declared.plan.path.TheConstants.{MOST_CELLS}
use Rattle.mapf_plan.specs.declared.answer.TheConstants.{MOST_BOUND, MOST_NODES, MOST_STATED}
use Rattle.mapf_plan.specs.Text.{line, text, CanWrite}
use Rattle.mapf_plan.specs.declared.answer.Answer.{Answer}
use Rattle.mapf_plan.specs.declared.answer.Answer.TheVariants as answer
use Rattle.mapf_plan.specs.declared.text.fault.TextFault.{TextFault}
use Rattle.mapf_plan.specs.declared.text.fault.TextFault.TheVariants.{Head, Line, Outside, NoMemory}
use Rattle.mapf_plan.specs.declared.text.reader.TheConstants.{MOST_COORDINATE}

-- the sizes that the answers of texts have: 1 to 1,000 paths, each of 1 to 1,000,001 cells
abbrev pub IsWithinLimits : Answer → Type 0
IsWithinLimits (answer.Plan plan stated) =
    (0 < length plan) × (length plan ≤ MOST_AGENTS) × AllByRecursion (λ path. (0 < length path) × (length path ≤ MOST_CELLS)) plan
IsWithinLimits (answer.None bound) = Unit {0}
IsWithinLimits (answer.GaveUp nodes least) = Unit {0}

-- the bytes are the text of this answer, whose sizes and numbers are within their limits
pub record IsTextOf (g : Grid) (bytes : List ℕ) (answer : Answer) : Type 0 where
  pub sizes : IsWithinLimits answer
  pub writable : CanWrite g answer
  pub spelled : bytes ≡ text g answer

-- the bytes begin with this line and its LF, and go on with the rest
abbrev pub IsFirstLine : List ℕ → (line rest : List ℕ) → Type 0
IsFirstLine bytes line rest = (bytes ≡ line ++ 10 ∷ rest) × All (λ b. (b == 10) ≡ false) line

-- the bytes, cut at each LF: the last piece is what stands behind the last LF
abbrev pub pieces : List ℕ → List (List ℕ)
pieces bytes = slice_split (λ b. b == 10) bytes

-- the lines that end in an LF
abbrev pub full_lines : List ℕ → List (List ℕ)
full_lines bytes = take (length (pieces bytes) - 1) (pieces bytes)

-- line k, from 1, ends in an LF and is this
abbrev pub IsFullLine : List ℕ → ℕ → List ℕ → Type 0
IsFullLine bytes k line = (0 < k) × (slice_get (full_lines bytes) (k - 1) ≡ Some line)

-- two numbers without leading zeros, the first of them above 0, each up to its limit
abbrev pub AreTwoNumbers : (most_first most_second : ℕ) → List ℕ → ℕ × ℕ → Type 0
AreTwoNumbers most_first most_second numbers pair =
    (0 < pair.0) × (pair.0 ≤ most_first) × (pair.1 ≤ most_second)
    × (numbers ≡ decimal pair.0 ++ (codes " " ++ decimal pair.1))

-- the number of agents and the cost
abbrev pub ArePlanNumbers : List ℕ → ℕ × ℕ → Type 0
ArePlanNumbers = AreTwoNumbers MOST_AGENTS MOST_STATED

-- how many nodes were taken, and a lower bound on the cost of a plan
abbrev pub AreGaveUpNumbers : List ℕ → ℕ × ℕ → Type 0
AreGaveUpNumbers = AreTwoNumbers MOST_NODES MOST_BOUND

-- `plan`, the number of agents and the cost
abbrev pub IsPlanHead : List ℕ → (agents cost : ℕ) → Type 0
IsPlanHead line agents cost = (numbers : List ℕ) × (line ≡ codes "plan " ++ numbers) × ArePlanNumbers numbers (agents, cost)

-- `none` and the bound, without leading zeros
abbrev pub IsNoneHead : List ℕ → (bound : ℕ) → Type 0
IsNoneHead line bound = (bound ≤ MOST_BOUND) × (line ≡ codes "none " ++ decimal bound)

-- `gave up`, how many nodes were taken, and a lower bound on the cost of a plan
abbrev pub IsGaveUpHead : List ℕ → (nodes least : ℕ) → Type 0
IsGaveUpHead line nodes least =
    (numbers : List ℕ) × (line ≡ codes "gave up " ++ numbers) × AreGaveUpNumbers numbers (nodes, least)

-- a head that is followed by no line
abbrev pub IsWholeHead : List ℕ → Type 0
IsWholeHead line = ((bound : ℕ) × IsNoneHead line bound) ⊎ ((pair : ℕ × ℕ) × IsGaveUpHead line pair.0 pair.1)

-- a head that is followed by this many lines
abbrev pub IsHeadOf : ℕ → List ℕ → Type 0
IsHeadOf n line = ((cost : ℕ) × IsPlanHead line n cost) ⊎ (IsWholeHead line × (n ≡ 0))

-- the first line, with its LF, is a head that is followed by this many lines
abbrev pub AsksFor : List ℕ → ℕ → Type 0
AsksFor bytes n = (line : List ℕ) × IsFullLine bytes 1 line × IsHeadOf n line

-- a position `x,y`, in numbers of at most nine digits without leading zeros
abbrev pub IsPlace : List ℕ → ℕ × ℕ → Type 0
IsPlace word place =
    (place.0 ≤ MOST_COORDINATE) × (place.1 ≤ MOST_COORDINATE) × (word ≡ decimal place.0 ++ (codes "," ++ decimal place.1))

-- the pieces of a line, cut at each space
abbrev pub words_of : List ℕ → List (List ℕ)
words_of line = slice_split (λ b. b == 32) line

-- a line of positions, parted by single spaces
abbrev pub IsLine : List ℕ → List (ℕ × ℕ) → Type 0
IsLine line places = (length places ≤ MOST_CELLS) × AllZip IsPlace (words_of line) places

abbrev pub IsInside : Grid → ℕ × ℕ → Type 0
IsInside g place = (place.0 < g.width) × (place.1 < g.height)

-- the cell in the place's column and row
abbrev pub IsCellAt : Grid → ℕ × ℕ → ℕ → Type 0
IsCellAt g place cell = IsInside g place × (cell ≡ place.1 * g.width + place.0)

-- the position at this place is outside the map, and none before it is
abbrev pub IsFirstOutside : Grid → List (ℕ × ℕ) → ℕ → Type 0
IsFirstOutside g places at = ((place : ℕ × ℕ) × (slice_get places at ≡ Some place) × (¬ IsInside g place))
    × ((k : ℕ) (place : ℕ × ℕ) → k < at → slice_get places k ≡ Some place → IsInside g place)

-- the line of this path: a position for each of its cells
abbrev pub IsPathLine : Grid → List ℕ → List ℕ → Type 0
IsPathLine g line path = (places : List (ℕ × ℕ)) × IsLine line places × AllZip (IsCellAt g) places path

-- the bytes are the lines of these paths, whose sizes and cells are those of paths on the map
pub record AreLinesOf (g : Grid) (bytes : List ℕ) (plan : List (List ℕ)) : Type 0 where
  pub sizes : AllByRecursion (λ path. (0 < length path) × (length path ≤ MOST_CELLS)) plan
  pub inside : AllByRecursion (AllByRecursion (λ c. c < cells g)) plan
  pub spelled : bytes ≡ flat_map (line g) plan

-- why the bytes don't begin with the line of a path, the line of number k
abbrev pub IsLineFault : Grid → List ℕ → ℕ → TextFault → Type 0
IsLineFault g bytes k Head = ⊥
IsLineFault g bytes k (Line n) =
    (n ≡ k) × ((line rest : List ℕ) (places : List (ℕ × ℕ)) → IsFirstLine bytes line rest → ¬ IsLine line places)
IsLineFault g bytes k (Outside n at) = (n ≡ k)
    × ((line : List ℕ) × (rest : List ℕ) × (places : List (ℕ × ℕ)) × IsFirstLine bytes line rest × IsLine line places × IsFirstOutside g places at)
IsLineFault g bytes k NoMemory = Unit {0}

-- the bytes up to the rest are the lines of these paths
pub record ReadsLines (g : Grid) (bytes rest : List ℕ) (paths : List (List ℕ)) : Type 0 where
  pub done : List (List ℕ)
  pub cut : bytes ≡ flat_map (λ l. l ++ 10 ∷ []) done ++ rest
  pub apart : AllByRecursion (λ l. All (λ b. (b == 10) ≡ false) l) done
  pub each : AllZip (IsPathLine g) done paths

-- why the bytes aren't the lines of n paths, from line 2 on: a line is none, or bytes stand behind the last one
pub record HasLinesFault (g : Grid) (bytes : List ℕ) (n : ℕ) (fault : TextFault) : Type 0 where
  pub rest : List ℕ
  pub paths : List (List ℕ)
  pub read : ReadsLines g bytes rest paths
  pub stuck : ((length paths < n) × IsLineFault g rest (length paths + 2) fault)
      ⊎ ((length paths ≡ n) × (rest ≢ []) × (fault ≡ Line (n + 2)))

-- when bytes have a fault; they may have several
abbrev pub HasTextFault : Grid → List ℕ → TextFault → Type 0
HasTextFault g bytes Head = ¬ ((n : ℕ) × AsksFor bytes n)
HasTextFault g bytes (Line k) = (n : ℕ) × AsksFor bytes n
    × (((1 < k) × (k ≤ n + 1) × (¬ ((line : List ℕ) × (places : List (ℕ × ℕ)) × IsFullLine bytes k line × IsLine line places)))
    ⊎ ((k ≡ n + 2) × (¬ (pieces bytes ≡ full_lines bytes ++ [] ∷ [] × (length (full_lines bytes) ≡ n + 1)))))
HasTextFault g bytes (Outside k at) = (n : ℕ) × AsksFor bytes n × (1 < k) × (k ≤ n + 1)
    × ((line : List ℕ) × (places : List (ℕ × ℕ)) × (place : ℕ × ℕ) × IsFullLine bytes k line × IsLine line places
    × (slice_get places at ≡ Some place) × (¬ IsInside g place))
HasTextFault g bytes NoMemory = ⊥

-- by line, and in a line by place
abbrev pub text_fault_rank : TextFault → List ℕ
text_fault_rank Head = 1 ∷ []
text_fault_rank (Line k) = k ∷ []
text_fault_rank (Outside k at) = k ∷ at ∷ []
text_fault_rank NoMemory = []

-- the fault of the first faulty line
abbrev pub IsTextFault : Grid → List ℕ → TextFault → Type 0
IsTextFault g bytes fault = IsLeast text_fault_rank (HasTextFault g bytes) fault
