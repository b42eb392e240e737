use Rattle.mapf_low.proofs.backwards.StateTables.{HasOnly}
use Rattle.mapf_low.proofs.backwards.dead_ends.widen.Given as goal

abbrev pub invariant-loop-state : goal.invariant-loop-state
invariant-loop-state l = HasOnly l.state-items l.count l.wider.items
