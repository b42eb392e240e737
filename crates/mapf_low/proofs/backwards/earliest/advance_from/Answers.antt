use Rattle.std.proofs.Common.{◌≡◌, ◌+◌, ℕ, [], ◌∷◌, ◌++◌, true, length, Contains, subst, sym, arith}
use Rattle.std.proofs.lemmas.Option.{slice_get_within}
use Rattle.mapf_low.specs.Distances.Levels.{IsFreeNeighbour}
use Rattle.mapf_low.proofs.backwards.Advancing.{advances_both, advances_waits, tried_more, looked_all, looked_waits}
use Rattle.mapf_low.proofs.backwards.earliest.advance_from.Goals as goal

pub enter-requires-clause-inside : goal.enter-requires-clause-inside
enter-requires-clause-inside c =
    let neighbour : IsFreeNeighbour c.args.query.now.grid c.args.from c.to-item.result =
    (c.neighbours.ensures c.to-item.result).0 (subst (λ xs. Contains xs c.to-item.result) c.as_slice-to-items.ensures (c.loop-to.to-index, c.loop-to-test.true, sym c.to-item.is)) in
    omega (arith, slice_get_within c.args.query.now.grid.free c.to-item.result true neighbour.0, c.requires.table, c.loop-to.invariant.advances.same_length)

pub loop-to-preserved : goal.loop-to-preserved
loop-to-preserved c =
    record {
      advances = advances_both c.args.query.now.grid (c.args.time + 1) c.args.table.now c.loop-to.table c.enter.new.table c.args.next.now.items c.loop-to.next.items c.enter.new.next.items
          c.loop-to.invariant.advances c.in_ok-all_entered.ensures.advances;
      tried = tried_more c.args.query.now c.args.time c.args.from (c.args.time + 1) c.loop-to.table c.enter.new.table c.loop-to.next.items c.enter.new.next.items
          c.as_slice-to-items.result.now c.loop-to.to-index c.to-item.result c.loop-to.all_entered c.in_ok-all_entered.field-0 c.loop-to-test.true c.to-item.is
          c.loop-to.invariant.tried c.in_ok-all_entered.ensures.advances c.in_ok-all_entered.ensures.entered c.in_ok-all_entered.ensures.tells;
    }

pub returns-in_ok-push-clause-advances : goal.returns-in_ok-push-clause-advances
returns-in_ok-push-clause-advances c =
    rw c.in_ok-push.ensures.items
    (advances_both c.args.query.now.grid (c.args.time + 1) c.args.table.now c.loop-to.table c.loop-to.table c.args.next.now.items c.loop-to.next.items (c.loop-to.next.items ++ c.args.from ∷ [])
    c.loop-to.invariant.advances (advances_waits c.args.query.now.grid (c.args.time + 1) c.loop-to.table c.loop-to.next.items c.args.from c.requires.free))

pub returns-in_ok-push-clause-looked_at : goal.returns-in_ok-push-clause-looked_at
returns-in_ok-push-clause-looked_at c =
    let neighbours = c.as_slice-to-items.result.now in
    let whole : c.loop-to.to-index ≡ length neighbours = omega arith in
    let of : (v : ℕ) → IsFreeNeighbour c.args.query.now.grid c.args.from v → Contains neighbours v =
    subst (λ xs. (v : ℕ) → IsFreeNeighbour c.args.query.now.grid c.args.from v → Contains xs v) (sym c.as_slice-to-items.ensures) (λ v s. (c.neighbours.ensures v).1 s) in
    rw c.in_ok-push.ensures.items
    (looked_waits c.args.query.now c.args.time c.args.from c.loop-to.table neighbours c.loop-to.to-index c.loop-to.all_entered whole of c.loop-to.invariant.tried c.loop-to.next.items)

pub returns-else-not-all_entered-clause-looked_at : goal.returns-else-not-all_entered-clause-looked_at
returns-else-not-all_entered-clause-looked_at c =
    let neighbours = c.as_slice-to-items.result.now in
    let whole : c.loop-to.to-index ≡ length neighbours = omega arith in
    let of : (v : ℕ) → IsFreeNeighbour c.args.query.now.grid c.args.from v → Contains neighbours v =
    subst (λ xs. (v : ℕ) → IsFreeNeighbour c.args.query.now.grid c.args.from v → Contains xs v) (sym c.as_slice-to-items.ensures) (λ v s. (c.neighbours.ensures v).1 s) in
    looked_all c.args.query.now c.args.time c.args.from c.loop-to.table neighbours c.loop-to.to-index c.loop-to.all_entered whole of c.loop-to.invariant.tried c.loop-to.next.items c.if-not-all_entered.false
