use Rattle.std.proofs.Common.{arith, ap, length, subst, sym}
use Rattle.mapf_bounds.specs.Waiting.{IsMoving}
use Rattle.mapf_bounds.proofs.Moving.{moved_all, moves_on}
use Rattle.mapf_bounds.proofs.solving.admit_all.Goals as goal

pub nodes-init : goal.nodes-init
nodes-init c = λ problem below moving. subst (IsMoving problem c.args.range.most c.args.open_list) (sym c.new-waiting.ensures.empty) moving

pub nodes-smaller : goal.nodes-smaller
nodes-smaller c = omega (arith, ap length c.in-Some.ensures.taken)

pub nodes-preserved : goal.nodes-preserved
nodes-preserved c = λ problem below moving.
    moves_on problem c.args.range.most c.args.range.least below c.nodes.open_list c.take_least.new.self c.in-Some.node c.nodes.waiting.entries c.admit_own.new.waiting.entries (c.nodes.invariant problem below moving) c.in-Some.ensures.taken c.in_ok-admit_own.ensures

pub returns : goal.returns
returns c = λ problem below moving.
    moved_all problem c.args.range.most c.nodes.open_list c.nodes.waiting.entries c.in_default.ensures.taken.0 (c.nodes.invariant problem below moving)
