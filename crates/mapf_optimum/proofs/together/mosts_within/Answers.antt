use Rattle.std.proofs.Common.{◌≡◌, List, ℕ, ◌+◌, ◌<◌, ◌≤◌, length, set, min, Some, refl, sym, ap, ◌∙◌, ⊎_elim, arith}
use Rattle.std.specs.Prelude.{slice_get}
use Rattle.std.proofs.Math.ListN.{length-set}
use Rattle.std.proofs.lemmas.Bool.{cases_lt}
use Rattle.std.proofs.lemmas.List.{get_or-set_same, get_or-set_other}
use Rattle.std.proofs.lemmas.Option.{slice_get_read, same_Some}
use Rattle.mapf_optimum.specs.Together.{Agent}
use Rattle.mapf_optimum.specs.PlaceNumbers.{number_in}
use Rattle.mapf_optimum.proofs.JointSearch.{reads}
use Rattle.mapf_optimum.proofs.PlansWithin.{least_others, path_within}
use Rattle.mapf_optimum.proofs.together.mosts_within.Goals as goal

pub loop-agent-init : goal.loop-agent-init
loop-agent-init c = record { long = refl; each = λ i agent l is. absurd (omega (arith, l)) }

pub loop-agent-preserved : goal.loop-agent-preserved
loop-agent-preserved c = record {
  long = simp length-set c.loop-agent.invariant.long;
  each = λ i agent l is. ⊎_elim (λ h. before i agent h is) (λ h. here i agent (omega (arith, h, l)) is) (cases_lt i k);
}
  where
    k : ℕ
    k = c.loop-agent.agent

    inside : k < length c.loop-agent.mosts
    inside = omega (arith, c.loop-agent.invariant.long, c.loop-agent-test.true, c.requires.few)

    new : List ℕ
    new = set c.loop-agent.mosts k c.min.result

    before : (i : ℕ) (agent : Agent) → i < k → slice_get c.args.agents.now i ≡ Some agent → min (agent.least + c.saturating_sub-left.result) 4294967295 ≤ number_in new i
    before i agent h is =
        let other : number_in new i ≡ number_in c.loop-agent.mosts i = get_or-set_other c.loop-agent.mosts k i c.min.result 0 (λ e. omega (arith, e, h)) in
        omega (arith, other, c.loop-agent.invariant.each i agent h is)

    got : slice_get c.args.agents.now k ≡ Some c.index-agents-agent.result
    got = slice_get_read c.args.agents.now (length c.args.agents.now) k c.index-agents-agent.result refl c.loop-agent-test.true c.index-agents-agent.is

    here : (i : ℕ) (agent : Agent) → k ≡ i → slice_get c.args.agents.now i ≡ Some agent → min (agent.least + c.saturating_sub-left.result) 4294967295 ≤ number_in new i
    here i agent e is =
        let least : c.index-agents-agent.result.least ≡ agent.least = ap (λ (a : Agent). a.least) (same_Some c.index-agents-agent.result agent (sym got ∙ ap (slice_get c.args.agents.now) e ∙ is)) in
        let same : number_in new i ≡ c.min.result = ap (number_in new) (sym e) ∙ get_or-set_same c.loop-agent.mosts k c.min.result 0 inside in
        omega (arith, same, least, c.min.ensures, c.from-in-loop-agent.ensures, c.saturating_add-most.ensures, c.from.ensures, c.least.ensures, c.saturating_sub-left.ensures, c.requires.small)

pub returns : goal.returns
returns c = λ rule plan is i l.
    let a = reads c.args.agents.now i l in
    let sum = least_others c.args.agents.now plan is.0.agents (λ k b h. (is.1 k b h).least) i a.0 a.1 in
    let within = path_within rule c.args.agents.now c.args.total plan is i l in
    omega (arith, c.loop-agent.invariant.each i a.0 (omega (arith, l, c.loop-agent-test.false)) a.1, c.saturating_sub-left.ensures, c.least_of.ensures, sum, is.0.within, within, c.requires.small)
