use Rattle.std.proofs.Common.{◌≡◌, ◌-◌, ◌++◌}
use Rattle.mapf_tree.specs.Prelude.{turns_of}
use Rattle.mapf_tree.proofs.tree.name.first_turns.Given as goal

-- the turns so far and those of what is left
abbrev pub invariant-loop-turn : goal.invariant-loop-turn
invariant-loop-turn l = l.turns.items ++ turns_of (l.few - l.turn) (64 - l.turn) l.left ≡ turns_of l.few 64 l.number
