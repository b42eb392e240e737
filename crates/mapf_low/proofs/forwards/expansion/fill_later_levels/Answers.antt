use Rattle.std.proofs.Common.{◌≡◌, [], length, Contains, subst, sym, arith}
use Rattle.mapf_low.specs.Forwards.FLevels.{Grows, Leads, SomeLeads}
use Rattle.mapf_low.proofs.forwards.Grown.{some_none, some_more, some_all}
use Rattle.mapf_low.proofs.forwards.expansion.fill_later_levels.Goals as goal

pub loop-from-init : goal.loop-from-init
loop-from-init c = record {
  next = subst (Grows (SomeLeads c.args.query.now c.args.sum 1 []) c.args.next.now) (sym c.in_ok-make_room.ensures) (some_none (Leads c.args.query.now c.args.sum 1) c.cells-from-items.result.now c.args.next.now);
  after = subst (Grows (SomeLeads c.args.query.now c.args.sum 2 []) c.args.after.now) (sym c.in_ok-make_room-2.ensures) (some_none (Leads c.args.query.now c.args.sum 2) c.cells-from-items.result.now c.args.after.now);
}

pub expand_beyond-requires : goal.expand_beyond-requires
expand_beyond-requires c =
    let placed = c.requires.placed c.from-item.result (subst (λ xs. Contains xs c.from-item.result) c.cells-from-items.ensures.cells (c.loop-from.from-index, c.loop-from-test.true, sym c.from-item.is)) in
    record { free = placed.0; near = placed.2; sum = c.requires.sum; small = c.requires.small }

pub loop-from-preserved : goal.loop-from-preserved
loop-from-preserved c = record {
  next = some_more (Leads c.args.query.now c.args.sum 1) c.cells-from-items.result.now c.args.next.now c.loop-from.next c.expand_beyond.new.next
      c.loop-from.from-index c.from-item.result c.loop-from-test.true c.from-item.is c.loop-from.invariant.next c.in_ok-expand_beyond.ensures.next;
  after = some_more (Leads c.args.query.now c.args.sum 2) c.cells-from-items.result.now c.args.after.now c.loop-from.after c.expand_beyond.new.after
      c.loop-from.from-index c.from-item.result c.loop-from-test.true c.from-item.is c.loop-from.invariant.after c.in_ok-expand_beyond.ensures.after;
}

pub returns-clause-next : goal.returns-clause-next
returns-clause-next c =
    let whole : c.loop-from.from-index ≡ length c.cells-from-items.result.now = omega arith in
    subst (λ xs. Grows (SomeLeads c.args.query.now c.args.sum 1 xs) c.args.next.now c.loop-from.next) c.cells-from-items.ensures.cells
    (some_all (Leads c.args.query.now c.args.sum 1) c.cells-from-items.result.now c.args.next.now c.loop-from.next c.loop-from.from-index whole c.loop-from.invariant.next)

pub returns-clause-after : goal.returns-clause-after
returns-clause-after c =
    let whole : c.loop-from.from-index ≡ length c.cells-from-items.result.now = omega arith in
    subst (λ xs. Grows (SomeLeads c.args.query.now c.args.sum 2 xs) c.args.after.now c.loop-from.after) c.cells-from-items.ensures.cells
    (some_all (Leads c.args.query.now c.args.sum 2) c.cells-from-items.result.now c.args.after.now c.loop-from.after c.loop-from.from-index whole c.loop-from.invariant.after)
