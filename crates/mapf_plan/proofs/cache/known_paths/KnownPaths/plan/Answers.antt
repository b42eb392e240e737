use Rattle.std.proofs.Common.{◌∙◌, ◌<◌, ℕ, length, subst, sym, arith}
use Rattle.std.specs.Prelude.{slice_index}
use borrow.Author.Count.{below_more}
use Rattle.mapf_plan.specs.KnownPaths.{KnownPaths, AreMet, IsKnownPlan}
use Rattle.mapf_plan.proofs.cache.PathTimes.{all_met, met_in_more}
use Rattle.mapf_plan.proofs.cache.known_paths.KnownPaths.plan.Goals as goal

pub loop-agent-preserved : goal.loop-agent-preserved
loop-agent-preserved c =
    let self = c.args.self.now in let numbers = c.args.numbers.now in let agent = c.loop-agent.agent in let ms = c.add_pair_conflicts.new.conflicts.items in
    let Met : ℕ → Type 0 = λ i. (k : ℕ) → i < k → k < length numbers → AreMet self i (slice_index numbers i) k (slice_index numbers k) ms in
    let earlier : (i : ℕ) → i < agent → Met i =
    λ i l k h m. met_in_more self i (slice_index numbers i) k (slice_index numbers k) c.loop-agent.conflicts.items ms c.in_ok-add_pair_conflicts.ensures.keeps (c.loop-agent.invariant.1 i k l h m) in
    let here : Met agent =
    subst (λ (s : KnownPaths). (k : ℕ) → agent < k → k < length numbers → AreMet s agent (slice_index numbers agent) k (slice_index numbers k) ms) c.loop-agent.invariant.0
    (λ k h m. c.in_ok-add_pair_conflicts.ensures.pairs k (omega (arith, h)) m (λ e. omega (arith, e, h))) in
    (c.in_ok-add_pair_conflicts.ensures.known ∙ c.loop-agent.invariant.0, λ i k l h m. below_more Met agent earlier here i l k h m)

pub returns-clause-plan : goal.returns-clause-plan
returns-clause-plan c =
    subst (λ ns. IsKnownPlan c.args.self.now ns c.loop-agent.conflicts.items) (sym c.in_ok-numbers.ensures.items)
    (record {
      few = c.requires.agents;
      inside = c.requires.numbers;
      meet = all_met c.args.self.now c.args.numbers.now c.loop-agent.conflicts.items (λ i k l h. c.loop-agent.invariant.1 i k (omega (arith, l, h)) l h);
    })
