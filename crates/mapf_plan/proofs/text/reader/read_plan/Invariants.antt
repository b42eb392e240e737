use Rattle.std.proofs.Common.{◌≡◌, length}
use Rattle.mapf_plan.specs.ReadText.{ReadsLines}
use Rattle.mapf_plan.proofs.text.reader.read_plan.Given as goal

abbrev pub invariant-loop-agent : goal.invariant-loop-agent
invariant-loop-agent l = record {
  lines : ReadsLines l.map l.bytes l.rest l.paths.items;
  agents : length l.paths.items ≡ l.agent;
}
