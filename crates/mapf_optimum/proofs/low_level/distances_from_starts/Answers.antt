use Rattle.std.proofs.Common.{arith, ◌≡◌, length}
use Rattle.mapf_optimum.proofs.StartTables.{more_tables}
use Rattle.mapf_optimum.proofs.low_level.distances_from_starts.Goals as goal

pub loop-agent-preserved : goal.loop-agent-preserved
loop-agent-preserved c =
    let inv = c.loop-agent.invariant in
    record {
      long = omega (arith, c.push_reserved.ensures.len, inv.long);
      room = omega (arith, c.push_reserved.ensures.capacity, inv.room);
      shortest = more_tables c.args.instance.now c.loop-agent.tables.items _ c.loop-agent.agent _ _ _ inv.long c.push_reserved.ensures.items
          c.map.ensures.map c.start.ensures.start c.in_ok-to.ensures inv.shortest;
    }

pub returns : goal.returns
returns c =
    let inv = c.loop-agent.invariant in
    let all : c.loop-agent.agent ≡ length c.args.instance.now.starts = omega (arith, c.agents-agent-end.ensures.agents) in
    record { each = omega (arith, inv.long, all); shortest = λ i low. inv.shortest i (omega (arith, low, all)) }
