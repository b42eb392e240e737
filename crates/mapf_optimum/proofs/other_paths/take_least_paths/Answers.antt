use Rattle.std.proofs.Common.{ℕ, ◌+◌, ◌<◌, List, Vec, Global, length, arith, subst, sym}
use Rattle.mapf_optimum.specs.FreeTree.{HaveAllowedPaths}
use Rattle.mapf_optimum.specs.Groups.{alone}
use Rattle.mapf_optimum.proofs.Taking.{CostLeast, path_cost_at, no_cheaper, some_path, costs_least, takes_least, one_less, one_stays}
use Rattle.mapf_optimum.proofs.other_paths.take_least_paths.Goals as goal
use Rattle.mapf_optimum.proofs.other_paths.take_least_paths.Goals.{then-cost-costs+in_ok-path+in-Some+in_ok-push, then-cost-costs+in_ok-path+in_default, else-cost-costs}

pub least_path-requires-clause-least : goal.least_path-requires-clause-least
least_path-requires-clause-least c =
    let a = c.loop-agent.agent in
    let h : a < length (alone c.args.part.now).inst.starts = omega (arith, c.loop-agent-test.true, c.len-agent-end.ensures, c.requires.paths.agents) in
    no_cheaper (alone c.args.part.now) c.args.sets.now c.args.costs.now c.requires.costs a h c.index-sets-agent.result c.index-sets-agent.is (omega (arith, h, c.requires.sets)) c.bound.result c.bound.ensures.bound

pub loop-agent-preserved : goal.loop-agent-preserved
loop-agent-preserved c =
    let problem = alone c.args.part.now in
    let sets = c.args.sets.now in
    let costs = c.args.costs.now in
    let a = c.loop-agent.agent in
    let paths = c.loop-agent.paths.items in
    let inv = c.loop-agent.invariant in
    let h : a < length problem.inst.starts = omega (arith, c.loop-agent-test.true, c.len-agent-end.ensures, c.requires.paths.agents) in
    let hs : a < length sets = omega (arith, h, c.requires.sets) in
    let hp : a < length paths = omega (arith, h, inv.paths.agents) in
    elim c.if-cost-costs.branch [
      | then-cost-costs+in_ok-path+in-Some+in_ok-push w ↦ record {
        paths = subst (λ (v : Vec (List ℕ) Global). HaveAllowedPaths problem sets v.items) (sym w.paths-is)
            (takes_least problem sets costs c.requires.costs a h w.index-sets-agent.result w.index-sets-agent.is hs w.bound.result w.bound.ensures.bound paths inv.paths w.in_ok-path.field-0 w.in-Some.path w.in_ok-path.ensures w.in-Some.is);
        least = subst (λ (v : Vec (List ℕ) Global). CostLeast problem sets costs v.items (a + 1)) (sym w.paths-is)
            (one_less problem sets costs paths a w.in-Some.path hp
            (costs_least problem sets costs c.requires.costs a h w.index-sets-agent.result w.index-sets-agent.is hs w.bound.result w.bound.ensures.bound w.in_ok-path.field-0 w.in-Some.path w.in_ok-path.ensures w.in-Some.is) inv.least);
      }
      | then-cost-costs+in_ok-path+in_default w ↦
          absurd (some_path problem sets costs c.requires.costs a h w.index-sets-agent.result w.index-sets-agent.is hs w.bound.result w.bound.ensures.bound w.in_ok-path.field-0 w.in_ok-path.ensures w.in_default.is)
      | else-cost-costs w ↦ record {
        paths = subst (λ (v : Vec (List ℕ) Global). HaveAllowedPaths problem sets v.items) (sym w.paths-is) inv.paths;
        least = subst (λ (v : Vec (List ℕ) Global). CostLeast problem sets costs v.items (a + 1)) (sym w.paths-is)
            (one_stays problem sets costs paths a (omega (arith, w.if-cost-costs.false, c.cost.ensures.cost, path_cost_at paths a c.cost.result c.index.result.now c.cost.ensures.cost c.index.ensures hp)) inv.least);
      }
    ]

pub returns-clause-least : goal.returns-clause-least
returns-clause-least c = λ i k.
    let inv = c.loop-agent.invariant in
    inv.least i (omega (arith, k, inv.paths.agents, c.requires.paths.agents, c.loop-agent-test.false, c.len-agent-end.ensures))
