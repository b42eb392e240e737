use Rattle.std.proofs.Common.{sym, subst, ap, ◌∙◌, map, get_or, length, List, ℕ}
use Rattle.mapf_optimum.specs.FreeTree.{IsGroup}
use Rattle.mapf_optimum.specs.Groups.{Part, alone, part_of}
use Rattle.mapf_optimum.proofs.Parts.{group_in_group, part_of_part}
use Rattle.mapf_optimum.proofs.part.Part.part.Goals as goal

pub invariant_of-result : goal.invariant_of-result
invariant_of-result c =
    group_in_group _ c.self.inside.agents.items c.args.agents.now c.in_ok-members.members.items c.self.invariant
    (subst (λ (p : Part). IsGroup (length p.agents) c.args.agents.now) (sym c.self.view_is) c.requires)
    (c.in_ok-members.ensures ∙ ap (λ (l : List ℕ). map (λ k. get_or l k 0) c.args.agents.now) c.deref.ensures.value)

pub returns-clause-alone : goal.returns-clause-alone
returns-clause-alone c =
    part_of_part c.self.inside.low.now c.self.inside.agents.items c.args.agents.now c.in_ok-members.members.items
    (subst (λ (p : Part). IsGroup (length p.agents) c.args.agents.now) (sym c.self.view_is) c.requires)
    (c.in_ok-members.ensures ∙ ap (λ (l : List ℕ). map (λ k. get_or l k 0) c.args.agents.now) c.deref.ensures.value)
    ∙ ap (λ (p : Part). part_of (alone p) c.args.agents.now) c.self.view_is
