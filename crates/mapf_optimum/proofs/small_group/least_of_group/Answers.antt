use Rattle.std.proofs.Common.{◌≡◌, map, get_or, length, ap, subst, sym, ◌∙◌, arith}
use Rattle.std.specs.List.{sum_by}
use Rattle.std.proofs.lemmas.List.{length-map}
use Rattle.mapf_grid.specs.declared.instance.TheConstants.{MOST_AGENTS}
use Rattle.mapf_plan.specs.Path.{cost}
use Rattle.mapf_optimum.specs.FreeTree.{HaveLeastPaths, IsFreeNode, IsLowerBoundOf, paths_in}
use Rattle.mapf_optimum.specs.Groups.{Part, alone, part_of}
use Rattle.mapf_optimum.proofs.SmallGroups.{few_paths, fresh_from_least, sum_below}
use Rattle.mapf_optimum.proofs.small_group.least_of_group.Goals as goal

pub sum_of-sum-requires : goal.sum_of-sum-requires
sum_of-sum-requires g c =
    let plan = g.P.AgentPaths.paths c.args.plan.now in
    omega (
      arith,
      ap length c.deref-3.ensures.value,
      ap length c.in_ok-costs.ensures,
      length-map c.deref-2.result.now cost,
      ap length c.deref-2.ensures.value,
      ap length c.in_ok-paths.ensures,
      few_paths (length c.args.low.now.inst.starts) MOST_AGENTS plan c.args.agents.now c.requires.group (omega (arith, c.requires.plan, c.agents-count.ensures.few)),
    )

pub returns-then-sum-from-clause-least : goal.returns-then-sum-from-clause-least
returns-then-sum-from-clause-least g c =
    let plan = g.P.AgentPaths.paths c.args.plan.now in
    subst (IsLowerBoundOf (part_of c.args.low.now c.args.agents.now) c.args.sets.items) (sym c.sum_of-sum.ensures)
    (sum_below (part_of c.args.low.now c.args.agents.now) c.args.sets.items c.deref-3.result.now (paths_in plan c.args.agents.now) c.requires.paths
    (c.deref-3.ensures.value ∙ c.in_ok-costs.ensures ∙ ap (map cost) (c.deref-2.ensures.value ∙ c.in_ok-paths.ensures)))

pub of-requires-clause-few : goal.of-requires-clause-few
of-requires-clause-few g c =
    let plan = g.P.AgentPaths.paths c.args.plan.now in
    omega (
      arith,
      ap length c.in_ok-paths.ensures,
      few_paths (length c.args.low.now.inst.starts) MOST_AGENTS plan c.args.agents.now c.requires.group (omega (arith, c.requires.plan, c.agents-count.ensures.few)),
    )

pub find-requires-clause-node : goal.find-requires-clause-node
find-requires-clause-node g c =
    let plan = g.P.AgentPaths.paths c.args.plan.now in
    let problem = part_of c.args.low.now c.args.agents.now in
    let paths : c.of.result ≡ paths_in plan c.args.agents.now = c.of.ensures ∙ c.in_ok-paths.ensures in
    let have : HaveLeastPaths problem c.args.sets.items c.of.result = subst (HaveLeastPaths problem c.args.sets.items) (sym paths) c.requires.paths in
    subst (λ p. IsFreeNode p c.new-node.result) (sym (ap (λ (p : Part). alone p) c.of-part.ensures ∙ ap (λ l. part_of c.args.low.now l) c.in_ok-from_slice.ensures.items))
    (fresh_from_least problem c.args.sets.items c.in_ok-costs.costs.items c.of.result have (c.in_ok-costs.ensures ∙ ap (map cost) (c.deref-2.ensures.value ∙ sym c.of.ensures)) c.new-node.result c.new-node.ensures
    (omega (arith, c.len.ensures, c.if-len-agents.false, c.args.sets.ok, length-map c.args.agents.now (λ i. get_or c.args.low.now.inst.starts i 0)))
    (omega (arith, c.if-sum-from.false, c.from.ensures, c.bound.ensures.bound, c.sum_of-sum.ensures, ap (λ l. sum_by (λ k. k) l) c.deref-3.ensures.value)))
