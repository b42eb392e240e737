-- A node's name as it is kept: its first turns as the highest bits of a number, and the turns behind them as a list.
use Rattle.std.specs.Prelude.{◌≡◌, ℕ, zero, suc, ◌+◌, ◌-◌, ◌*◌, ◌^◌, ◌<◌, ◌≤◌, nat_lt, if◌then◌else◌, List, [], ◌∷◌, Option, Some, None}
use Rattle.mapf_tree.specs.declared.tree.side.Side.{Side}
use Rattle.mapf_tree.specs.declared.tree.side.Side.TheVariants.{Left, Right}

-- left before right
abbrev pub turn : Side → ℕ
turn Left = 0
turn Right = 1

-- the turns as a number of so many bits: the first turn is the highest bit, and the bits behind the last one are 0
abbrev pub number_of : List Side → ℕ → ℕ
number_of [] bits = 0
number_of (s ∷ ss) zero = 0
number_of (s ∷ ss) (suc bits) = turn s * 2 ^ bits + number_of ss bits

-- so many turns, read from the highest of so many bits of a number
abbrev pub turns_of : ℕ → ℕ → ℕ → List Side
turns_of zero bits n = []
turns_of (suc few) zero n = []
turns_of (suc few) (suc bits) n =
    if nat_lt n (2 ^ bits) then Left ∷ turns_of few bits n else Right ∷ turns_of few bits (n - 2 ^ bits)

-- what always holds of a name: the number is that of its turns, and turns stand behind it only where it is full
pub record IsKept (first few : ℕ) (suffix : List Side) : Type 0 where
  pub within : few ≤ 64
  pub filled : few < 64 → suffix ≡ []
  pub number : number_of (turns_of few 64 first) 64 ≡ first

-- the turns that lie apart; none where nothing does
abbrev pub turns_in : Option (List Side) → List Side
turns_in None = []
turns_in (Some turns) = turns
