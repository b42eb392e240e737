use Rattle.std.proofs.Common.{ℕ, subst}
use Rattle.std.specs.Vec.{with_items}
use Rattle.mapf_low.specs.Backwards.Tracing.{DeadEnds, IsJoined}
use Rattle.mapf_low.specs.Backwards.StateTable.{states_of}
use Rattle.mapf_low.proofs.backwards.StateTables.{put_items, put_table, put_joined}
use Rattle.mapf_low.proofs.backwards.dead_ends.DeadEnds.add.Goals as goal

pub invariant_of-self-2 : goal.invariant_of-self-2
invariant_of-self-2 c =
    let s : ℕ × ℕ = (c.args.cell, c.args.time) in
    let is = put_items c.widen.new.places c.deref_mut.result.now c.put.new.places s c.deref_mut.ensures.value c.put.ensures in
    put_table c.widen.new.places.items (with_items c.widen.new.places c.put.new.places).items s c.in_ok-widen.ensures.count is c.in_ok-widen.ensures.table.at_places

pub returns-clause-states : goal.returns-clause-states
returns-clause-states c =
    let s : ℕ × ℕ = (c.args.cell, c.args.time) in
    let new = (with_items c.widen.new.places c.put.new.places).items in
    let is = put_items c.widen.new.places c.deref_mut.result.now c.put.new.places s c.deref_mut.ensures.value c.put.ensures in
    subst (λ (d : DeadEnds). IsJoined s d.states (states_of new)) c.self.view_is
    (put_joined c.widen.new.places.items new s c.in_ok-widen.ensures.count is c.self.inside.places.items c.in_ok-widen.ensures.states)
