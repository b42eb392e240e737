use Rattle.std.proofs.Common.{◌≡◌, ◌-◌, ◌≤◌, length, take}
use Rattle.std.specs.Io.KnownBytes.{Appends}
use Rattle.mapf_plan.proofs.device.whole.write_whole.Given as goal

abbrev pub invariant-loop-taken : goal.invariant-loop-taken
invariant-loop-taken g l = record {
  within : l.taken ≤ length l.bytes;
  counted : g.S.Sink.failures l.sink ≡ g.S.Sink.failures l.initial.sink;
  appended : Appends (g.S.Sink.contents l.initial.sink) (g.S.Sink.contents l.sink) (take l.taken l.bytes);
}

abbrev pub decreases-loop-taken : goal.decreases-loop-taken
decreases-loop-taken g l = length l.bytes - l.taken
