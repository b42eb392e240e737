use Rattle.std.proofs.Common.{◌≡◌, ◌<◌, ◌++◌, [], take, map}
use Rattle.std.specs.Prelude.{codes, string_bytes}
use Rattle.std.specs.List.{join_with_byte}
use Rattle.mapf_plan.specs.Text.{position}
use Rattle.mapf_plan.proofs.text.writer.push_positions.Given as goal

abbrev pub invariant-loop-cell : goal.invariant-loop-cell
invariant-loop-cell l = record {
  written : string_bytes l.text ≡ string_bytes l.initial.text ++ join_with_byte 32 (map (position l.map) (take l.cell-index l.path));
  none : l.cell-index ≡ 0 → l.front ≡ [];
  some : 0 < l.cell-index → l.front ≡ codes " ";
}
