-- What a call leaves for C: a status, bytes in the caller's room, and how many bytes there were to say.
use Rattle.std.specs.Prelude.{◌≡◌, ℕ, ℤ, pos, ◌<◌, ◌≤◌, List, ◌++◌, length, drop}

-- the status where the room is shorter than what there is to say
abbrev pub too_short : ℕ
too_short = 7

-- a reply of this status and these bytes: their number is told; they stand at the front of the room, and what was behind them
-- stands as it was; or the room is shorter, and stands as it was
pub record IsPut (status : ℕ) (bytes : List ℕ) (old new : List ℕ) (needed : ℕ) (result : ℤ) : Type 0 where
  pub counted : needed ≡ length bytes
  pub fits : length bytes ≤ length old → (result ≡ pos status) × (new ≡ bytes ++ drop (length bytes) old)
  pub short : length old < length bytes → (result ≡ pos too_short) × (new ≡ old)
