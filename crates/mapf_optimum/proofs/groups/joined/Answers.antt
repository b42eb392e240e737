use Rattle.std.proofs.Common.{◌≡◌, ◌∙◌, length, subst, sym, ap, get_or, arith}
use Rattle.std.proofs.lemmas.List.{length-map}
use Rattle.mapf_optimum.specs.FreeTree.{IsGroupBound}
use Rattle.mapf_optimum.specs.Groups.{alone}
use Rattle.mapf_optimum.proofs.Parts.{whole_bound}
use Rattle.mapf_optimum.proofs.groups.joined.Goals as goal

-- src/groups.rt:181:5
pub with_group-requires-clause-group : goal.with_group-requires-clause-group
with_group-requires-clause-group c =
    let count : length c.agents-count.result.now ≡ length (alone c.args.part.now).inst.starts =
    omega (arith, ap length c.agents-count.ensures.numbers, length-map c.args.part.now.agents (λ i. get_or c.args.part.now.problem.inst.starts i 0)) in
    subst (λ a. IsGroupBound (alone c.args.part.now) c.args.node.sets a c.in_ok-found.found.least) (sym c.deref.ensures.value)
    (whole_bound (alone c.args.part.now) c.args.node.sets c.in_ok-all.all.items c.in_ok-found.found.least (c.in_ok-all.ensures.long ∙ count)
    (λ i h. c.in_ok-all.ensures.each i (omega (arith, h, count))) c.in_ok-found.ensures)
