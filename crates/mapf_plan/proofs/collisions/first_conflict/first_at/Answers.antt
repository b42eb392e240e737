use Rattle.std.proofs.Common.{◌≡◌, ◌-◌, ◌<◌, MatchOption, ⊎_elim, subst, sym, ap, ◌∙◌, arith}
use Rattle.std.specs.Prelude.{⊤}
use Rattle.std.proofs.lemmas.Bool.{cases_lt}
use Rattle.mapf_plan.specs.Path.{at}
use Rattle.mapf_plan.specs.Plan.{place, first_agent, second_agent}
use Rattle.mapf_plan.specs.FirstConflict.{IsConflictAt, IsEarlier}
use Rattle.mapf_plan.specs.Marks.{IsMarked, beside}
use Rattle.mapf_plan.proofs.Conflicts.{agents_of}
use Rattle.mapf_plan.proofs.collisions.Steps.{meets_at, one_more, first_of_time}
use Rattle.mapf_plan.proofs.collisions.first_conflict.first_at.Goals.{then-meets, else-meets}
use Rattle.mapf_plan.proofs.collisions.first_conflict.first_at.Goals as goal

pub loop-agent-preserved : goal.loop-agent-preserved
loop-agent-preserved g c =
    let rule = c.args.rule in let plan = g.P.AgentPaths.paths c.args.plan.now in let t = c.args.time in let n = c.loop-agent.agent in
    let to : c.at.result ≡ place plan n t = c.at.ensures ∙ ap (λ p. at p t) c.path-path.ensures in
    let from : c.at-from.result ≡ place plan n (t - 1) = c.at-from.ensures ∙ ap (λ p. at p c.saturating_sub.result) c.path-path.ensures ∙ ap (λ k. place plan n k) c.saturating_sub.ensures in
    let left : beside rule c.at-from.result c.at.result ≡ beside rule (place plan n (t - 1)) (place plan n t) = ap (λ k. beside rule k c.at.result) from ∙ ap (λ k. beside rule (place plan n (t - 1)) k) to in (
      elim c.if-meets.branch [
        | then-meets w ↦ subst (λ known. MatchOption known ⊤ (IsConflictAt rule plan t)) (sym w.known-is) w.earlier_at-known.ensures.conflict
        | else-meets w ↦ subst (λ known. MatchOption known ⊤ (IsConflictAt rule plan t)) (sym w.known-is) c.loop-agent.invariant.0
      ],
      (λ d is l before.
          elim c.if-meets.branch [
            | then-meets w ↦
                ⊎_elim (λ h. c.loop-agent.invariant.1 d is h (w.earlier_at-known.ensures.keeps d (subst (λ known. IsEarlier d known) w.known-is before)))
                (λ h. w.earlier_at-known.ensures.first d is (omega (arith, l, h)) (subst (λ known. IsEarlier d known) w.known-is before)) (cases_lt (second_agent d) n)
            | else-meets w ↦
                ⊎_elim (λ h. c.loop-agent.invariant.1 d is h (subst (λ known. IsEarlier d known) w.known-is before))
                (λ h.
                let same : second_agent d ≡ n = omega (arith, l, h) in
                let small : first_agent d < n = omega (arith, same, (agents_of rule plan d is.0).0) in
                let apart = c.meets.ensures.apart w.if-meets.false in
                ⊎_elim (λ m. apart.0 (subst (IsMarked c.loop-agent.marks c.args.round) (ap (λ k. place plan k t) same ∙ sym to) m))
                (λ m. apart.1 (subst (IsMarked c.loop-agent.marks c.args.round) (ap (λ k. beside rule (place plan k (t - 1)) (place plan k t)) same ∙ sym left) m))
                (meets_at rule plan (IsMarked c.loop-agent.marks c.args.round) t d is (c.loop-agent.invariant.2 (first_agent d) small) (c.loop-agent.invariant.3 (first_agent d) small)))
                (cases_lt (second_agent d) n)
          ]),
      one_more (λ k. IsMarked c.meets.new.self c.args.round (place plan k t)) n (λ k l. c.meets.ensures.keeps (place plan k t) (c.loop-agent.invariant.2 k l))
          (subst (IsMarked c.meets.new.self c.args.round) to c.meets.ensures.marked.0),
      one_more (λ k. IsMarked c.meets.new.self c.args.round (beside rule (place plan k (t - 1)) (place plan k t))) n
          (λ k l. c.meets.ensures.keeps (beside rule (place plan k (t - 1)) (place plan k t)) (c.loop-agent.invariant.3 k l))
          (subst (IsMarked c.meets.new.self c.args.round) left c.meets.ensures.marked.1),
    )

pub returns : goal.returns
returns g c =
    let rule = c.args.rule in let plan = g.P.AgentPaths.paths c.args.plan.now in
    first_of_time rule plan c.args.time c.loop-agent.known c.requires.before c.loop-agent.invariant.0
    (λ d is.
    let all : second_agent d < c.loop-agent.agent = omega (arith, (agents_of rule plan d is.0).1, c.agents-agent-end.ensures.agents, c.loop-agent-test.false) in
    c.loop-agent.invariant.1 d is all)
