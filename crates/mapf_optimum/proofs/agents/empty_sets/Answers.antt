use Rattle.std.proofs.Common.{arith, ◌≡◌, ◌++◌, List, ◌∷◌, [], length, replicate, ap, ap₂, ◌∙◌}
use Rattle.std.proofs.lemmas.List.{replicate_more}
use lib.ListN.{length-replicate}
use Rattle.mapf_low.specs.declared.constraint.Constraint.{Constraint}
use Rattle.mapf_optimum.proofs.agents.empty_sets.Goals as goal

pub loop-agent-init : goal.loop-agent-init
loop-agent-init c = record { empty = c.in_ok-sets.ensures.items; room = c.in_ok-sets.ensures.capacity }

pub push_reserved-requires : goal.push_reserved-requires
push_reserved-requires c = omega (arith, ap length c.loop-agent.invariant.empty, length-replicate {A = List Constraint} c.loop-agent._agent [], c.loop-agent.invariant.room)

pub loop-agent-preserved : goal.loop-agent-preserved
loop-agent-preserved c = record {
  empty = c.push_reserved.ensures.items ∙ ap₂ (λ xs x. xs ++ x ∷ []) c.loop-agent.invariant.empty c.new.ensures ∙ replicate_more c.loop-agent._agent [];
  room = omega (arith, c.push_reserved.ensures.capacity, c.loop-agent.invariant.room);
}

pub returns : goal.returns
returns c =
    let whole : c.loop-agent._agent ≡ c.args.agents = omega arith in
    c.loop-agent.invariant.empty ∙ ap (λ n. replicate n []) whole
