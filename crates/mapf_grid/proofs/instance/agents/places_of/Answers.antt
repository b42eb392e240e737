use Rattle.std.proofs.Common.{◌≡◌, ◌++◌, ◌∷◌, ◌≤◌, [], Some, length, take, slice_get, length-take-le, subst, arith, rules}
use Rattle.std.proofs.lemmas.Grind.{common_steps}
use Rattle.std.proofs.lemmas.Option.{gets}
use Rattle.std.proofs.lemmas.Result.{err_from_is_err_and}
use Rattle.mapf_grid.specs.NewAgent.{IsNewAgent, HasAgentFault}
use Rattle.mapf_grid.proofs.instance.AgentRows.{AreAgents, AreAgents-more, IsInstance-all}
use Rattle.mapf_grid.proofs.instance.AgentFaults.{agent_fault}
use Rattle.mapf_grid.proofs.instance.agents.places_of.Goals as goal

pub returns-in_err-start-clause-fault : goal.returns-in_err-start-clause-fault
returns-in_err-start-clause-fault c =
    let there : c.args.agents ≤ length c.args.rows.now = omega arith in
    let long : length (take c.args.agents c.args.rows.now) ≡ c.args.agents = length-take-le c.args.agents c.args.rows.now there in
    let here : slice_get c.args.rows.now c.loop-number.number ≡ Some c.row-item.result = grind (arith, common_steps, gets) in
    let fault : HasAgentFault c.args.map.now c.loop-number.starts c.loop-number.goals c.row-item.result c.loop-number.number c.in_err-start.field-0.0 = search rules in
    let p = err_from_is_err_and c.from_residual.result c.from_residual.ensures.1 in
    rw (p.1, p.2) (λ other. agent_fault c.args.agents (omega arith) there (omega arith) c.loop-number.invariant.0 here c.in_err-start.field-0.0 fault)

pub loop-number-preserved : goal.loop-number-preserved
loop-number-preserved c =
    let here : slice_get c.args.rows.now c.loop-number.number ≡ Some c.row-item.result = grind (arith, common_steps, gets) in
    let starts : c.push.new.self ≡ c.loop-number.starts ++ c.in_ok-start.start ∷ [] = grind (arith, common_steps) in
    let goals : c.push-in-loop-number.new.self ≡ c.loop-number.goals ++ c.in_ok-start.goal ∷ [] = grind (arith, common_steps) in
    let new : IsNewAgent c.args.map.now c.loop-number.starts c.loop-number.goals c.row-item.result c.in_ok-start.start c.in_ok-start.goal = search rules in
    (rw (starts, goals) (AreAgents-more c.row-item.result c.in_ok-start.start c.in_ok-start.goal c.loop-number.invariant.0 here new), λ _. c.agent_of.ensures.sizes)

pub returns-clause-found : goal.returns-clause-found
returns-clause-found c =
    let there : c.args.agents ≤ length c.args.rows.now = omega arith in
    let long : length (take c.args.agents c.args.rows.now) ≡ c.args.agents = length-take-le c.args.agents c.args.rows.now there in
    let all : c.loop-number.number ≡ c.args.agents = omega arith in
    rw (c.into_cells.ensures, c.into_cells-2.ensures) (IsInstance-all (subst (λ n. AreAgents c.args.map.now c.args.rows.now n c.loop-number.starts c.loop-number.goals) all c.loop-number.invariant.0) (omega arith) (omega arith) there)
