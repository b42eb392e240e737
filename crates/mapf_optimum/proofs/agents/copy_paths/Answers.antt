use Rattle.std.proofs.Common.{arith, length-take, ◌≡◌, ◌++◌, ◌∷◌, [], take, length, sym, ap, ap₂, ◌∙◌}
use Rattle.std.proofs.Math.Seq.{take-length}
use Rattle.std.proofs.lemmas.List.{take_more}
use Rattle.mapf_optimum.proofs.agents.copy_paths.Goals as goal

pub push_reserved-requires : goal.push_reserved-requires
push_reserved-requires c = omega (arith, ap length c.loop-path.invariant.equal, length-take c.loop-path.path-index c.args.paths.now, c.loop-path.invariant.room)

pub loop-path-preserved : goal.loop-path-preserved
loop-path-preserved c = record {
  equal = c.push_reserved.ensures.items ∙ ap₂ (λ xs x. xs ++ x ∷ []) c.loop-path.invariant.equal (c.in_ok-copy.ensures ∙ c.path-item.is) ∙ sym (take_more c.args.paths.now c.loop-path.path-index c.path-item.result c.loop-path-test.true);
  room = omega (arith, c.push_reserved.ensures.capacity, c.loop-path.invariant.room);
}

pub returns : goal.returns
returns c =
    let whole : c.loop-path.path-index ≡ length c.args.paths.now = omega arith in
    c.loop-path.invariant.equal ∙ ap (λ n. take n c.args.paths.now) whole ∙ take-length c.args.paths.now
