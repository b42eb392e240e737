use Rattle.std.proofs.Common.{◌<◌}
use Rattle.mapf_grid.specs.Grid.{HasSizes}
use Rattle.mapf_grid.proofs.instance.AgentRows.{AreAgents}
use Rattle.mapf_grid.proofs.instance.agents.places_of.Given as goal

abbrev pub invariant-loop-number : goal.invariant-loop-number
invariant-loop-number l = AreAgents l.map l.fn.rows l.number l.starts l.goals × (0 < l.number → HasSizes l.map)
