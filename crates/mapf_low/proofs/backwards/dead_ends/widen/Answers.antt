use Rattle.std.proofs.Common.{rules, ℕ, List, Option, Some, Contains, subst, sym, ap, ◌∙◌}
use Rattle.mapf_low.specs.Backwards.StateTable.{IsSize}
use Rattle.mapf_low.proofs.backwards.StateTables.{HasOnly, put_items, only_none, only_more}
use Rattle.mapf_low.proofs.backwards.dead_ends.widen.Goals as goal
use Rattle.mapf_low.proofs.backwards.dead_ends.widen.Goals.{in-Some, in_default}

pub loop-state-init : goal.loop-state-init
loop-state-init c =
    only_none c.as_slice-state-items.result.now c.args.count c.in_ok-wider.wider.items c.requires.count (c.in_ok-wider.ensures.items_if_clones_equal (λ y h. search rules))

pub loop-state-preserved : goal.loop-state-preserved
loop-state-preserved c =
    elim c.match-state.branch [
      | in-Some w ↦
          let s : ℕ × ℕ = (w.in-Some.cell, w.in-Some.time) in
          let is = put_items c.loop-state.wider w.deref_mut.result.now w.put.new.places s w.deref_mut.ensures.value w.put.ensures in
          only_more c.as_slice-state-items.result.now c.args.count c.loop-state.wider.items c.match-state.wider.items c.loop-state.state-index c.state-item.result s
          c.requires.count c.loop-state.invariant c.loop-state-test.true c.state-item.is w.in-Some.is (ap (λ v. v.items) w.wider-is ∙ is)
      | in_default w ↦ subst (λ v. HasOnly c.as_slice-state-items.result.now c.args.count v.items) (sym w.wider-is) c.loop-state.invariant
    ]

pub returns-clause-table : goal.returns-clause-table
returns-clause-table c = c.loop-state.invariant.table_is

pub returns-clause-count : goal.returns-clause-count
returns-clause-count c = subst IsSize (sym c.loop-state.invariant.long) c.requires.count

pub returns-clause-states : goal.returns-clause-states
returns-clause-states c =
    subst (λ (xs : List (Option (ℕ × ℕ))). (s : ℕ × ℕ) → Contains c.loop-state.wider.items (Some s) → Contains xs (Some s)) c.as_slice-state-items.ensures.value c.loop-state.invariant.states
