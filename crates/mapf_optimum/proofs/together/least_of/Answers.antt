use Rattle.std.proofs.Common.{◌≡◌, ◌+◌, take, sum_by, sym, ap, ◌∙◌, arith}
use Rattle.std.proofs.lemmas.List.{take_more}
use Rattle.std.proofs.lemmas.List.Sums.{sum_by_push}
use Rattle.mapf_optimum.specs.Together.{Agent}
use Rattle.mapf_optimum.proofs.together.least_of.Goals as goal

pub loop-agent-preserved : goal.loop-agent-preserved
loop-agent-preserved c =
    let a : Agent = c.agent-item.result in
    let k = c.loop-agent.agent-index in
    let least = λ (b : Agent). b.least in
    let more : sum_by least (take (k + 1) c.args.agents.now) ≡ sum_by least (take k c.args.agents.now) + a.least =
    ap (sum_by least) (take_more c.args.agents.now k a c.loop-agent-test.true) ∙ sum_by_push least (take k c.args.agents.now) _ ∙ ap (λ (b : Agent). sum_by least (take k c.args.agents.now) + b.least) (sym c.agent-item.is) in
    omega (arith, more, c.loop-agent.invariant, c.saturating_add-sum.ensures, c.from.ensures, c.least.ensures)
