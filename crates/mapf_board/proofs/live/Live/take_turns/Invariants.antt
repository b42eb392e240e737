use Rattle.std.proofs.Common.{◌<◌}
use Rattle.mapf_board.specs.Workers.{IsWorkerOf, IsIdle, known_by, size_of}
use Rattle.mapf_board.proofs.Turns.{AreCounted}
use Rattle.mapf_board.proofs.live.Live.take_turns.Given as goal

abbrev pub invariant-loop-turn : goal.invariant-loop-turn
invariant-loop-turn g l = IsWorkerOf l.self l.seat × IsIdle l.seat × (l.slot < size_of l.self) × AreCounted l._turn (known_by l.initial.seat) (known_by l.seat)
