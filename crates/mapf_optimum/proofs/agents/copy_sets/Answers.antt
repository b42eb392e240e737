use Rattle.std.proofs.Common.{arith, length-take, ◌≡◌, ◌++◌, ◌∷◌, [], take, length, sym, ap, ap₂, ◌∙◌}
use Rattle.std.proofs.Math.Seq.{take-length}
use Rattle.std.proofs.lemmas.List.{take_more}
use Rattle.mapf_optimum.proofs.agents.copy_sets.Goals as goal

pub push_reserved-requires : goal.push_reserved-requires
push_reserved-requires c = omega (arith, ap length c.loop-set.invariant.equal, length-take c.loop-set.set-index c.args.sets.now, c.loop-set.invariant.room)

pub loop-set-preserved : goal.loop-set-preserved
loop-set-preserved c = record {
  equal = c.push_reserved.ensures.items ∙ ap₂ (λ xs x. xs ++ x ∷ []) c.loop-set.invariant.equal (c.in_ok-copy.ensures ∙ c.set-item.is) ∙ sym (take_more c.args.sets.now c.loop-set.set-index c.set-item.result c.loop-set-test.true);
  room = omega (arith, c.push_reserved.ensures.capacity, c.loop-set.invariant.room);
}

pub returns : goal.returns
returns c =
    let whole : c.loop-set.set-index ≡ length c.args.sets.now = omega arith in
    c.loop-set.invariant.equal ∙ ap (λ n. take n c.args.sets.now) whole ∙ take-length c.args.sets.now
