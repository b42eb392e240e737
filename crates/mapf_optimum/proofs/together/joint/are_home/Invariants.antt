use Rattle.mapf_optimum.proofs.together.joint.are_home.Given as goal

abbrev pub invariant-loop-agent : goal.invariant-loop-agent
invariant-loop-agent l = Unit {0}
