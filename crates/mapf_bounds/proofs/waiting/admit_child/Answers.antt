use Rattle.std.proofs.Common.{rules, refl, subst, sym}
use Rattle.mapf_bounds.specs.Bounds.{IsRaised}
use Rattle.mapf_bounds.specs.Waiting.{IsAdmittedChild, absent, present}
use Rattle.mapf_bounds.proofs.waiting.admit_child.Goals as goal

pub returns-in_default : goal.returns-in_default
returns-in_default c = subst (λ o. IsAdmittedChild c.args.most c.args.waiting.now.entries c.args.known c.args.groups.now.value.items o c.args.waiting.now.entries) (sym c.in_default.is) (absent refl)

pub returns : goal.returns
returns c =
    subst (λ o. IsAdmittedChild c.args.most c.args.waiting.now.entries c.args.known c.args.groups.now.value.items o c.admit.new.waiting.entries) (sym c.in-Some.is)
    (present {node = c.in-Some.node} c.raised-bound.result _ (subst (λ b. IsRaised b c.args.known c.raised-bound.result) c.own.ensures c.raised-bound.ensures) refl (search rules) refl c.in_ok-admit.ensures)
