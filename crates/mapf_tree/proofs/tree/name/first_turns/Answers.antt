use Rattle.std.proofs.Common.{◌+◌, ◌++◌, ◌-◌, ap, ◌∙◌}
use Rattle.mapf_tree.specs.Prelude.{turns_of}
use Rattle.mapf_tree.proofs.tree.NameTurns.{left_read, right_read}
use Rattle.mapf_tree.proofs.tree.name.first_turns.Goals.{then-left-bit+in_ok-push, else-left-bit+in_ok-push-2}
use Rattle.mapf_tree.proofs.tree.name.first_turns.Goals as goal

pub loop-turn-preserved : goal.loop-turn-preserved
loop-turn-preserved c =
    let whole = turns_of c.args.few 64 c.args.number in
    let few = c.args.few - (c.loop-turn.turn + 1) in
    let bits = 64 - (c.loop-turn.turn + 1) in
    elim c.if-left-bit.branch [
      | then-left-bit+in_ok-push w ↦
          rw (w.turns-is, w.left-is) (ap (λ l. l ++ turns_of few bits c.loop-turn.left) w.in_ok-push.ensures.items
          ∙ left_read whole c.loop-turn.turns.items c.args.few c.loop-turn.turn c.loop-turn.left c.bit_of-bit.result c.loop-turn-test.true c.requires c.bit_of-bit.ensures c.loop-turn.invariant w.if-left-bit.true)
      | else-left-bit+in_ok-push-2 w ↦
          rw (w.turns-is, w.left-is) (ap (λ l. l ++ turns_of few bits (c.loop-turn.left - c.bit_of-bit.result)) w.in_ok-push-2.ensures.items
          ∙ right_read whole c.loop-turn.turns.items c.args.few c.loop-turn.turn c.loop-turn.left c.bit_of-bit.result c.loop-turn-test.true c.requires c.bit_of-bit.ensures c.loop-turn.invariant w.if-left-bit.false)
    ]
