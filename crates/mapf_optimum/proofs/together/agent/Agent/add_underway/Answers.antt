use Rattle.std.proofs.Common.{◌≡◌, ℕ, ◌+◌, ◌≤◌, false, true, Some, MatchOption, subst, sym, ap, ◌∙◌, arith}
use Rattle.mapf_plan.specs.Path.{cost}
use Rattle.mapf_low.specs.Walk.{IsWalk, IsDistance}
use Rattle.mapf_optimum.specs.Together.{Agent}
use Rattle.mapf_optimum.proofs.AgentPlaces.{some_walk, rest_least, rest_back, has_pushed}
use Rattle.mapf_optimum.proofs.together.agent.Agent.add_underway.Goals as goal
use Rattle.mapf_optimum.proofs.together.agent.Agent.add_underway.Goals.{then-distance-eq0, else-distance-eq0}

pub returns-in_ok-push-clause-adds : goal.returns-in_ok-push-clause-adds
returns-in_ok-push-clause-adds c p path here l cheap =
    has_pushed p c.args.time c.args.places.now.items c.push.new.self.items _ c.in_ok-push.ensures.items
    record { on = sym here; pays = pays; home = λ is. (let no : false ≡ true = is in cc); away = λ is. l }
  where
    agent : Agent
    agent = c.args.self.now

    distance : MatchOption c.get.result ((n : ℕ) → ¬ IsWalk agent.grid c.args.cell agent.goal n) (IsDistance agent.grid agent.goal c.args.cell)
    distance = subst (λ (a : Agent). MatchOption c.get.result ((n : ℕ) → ¬ IsWalk a.grid c.args.cell a.goal n) (IsDistance a.grid a.goal c.args.cell)) c.self.view_is
        (c.get.ensures.shortest _ _ c.self.invariant.sizes c.self.invariant.goal c.self.invariant.distances)

    rest : c.args.time + c.if-distance-eq0.rest ≤ cost p
    rest = elim c.if-distance-eq0.branch [
      | then-distance-eq0 w ↦ omega (arith, w.rest-is, rest_back agent p path c.args.time c.args.cell here l c.get.result (c.in-Some.is ∙ ap Some (let none : c.in-Some.distance ≡ 0 = omega (arith, w.if-distance-eq0) in none)) distance)
      | else-distance-eq0 w ↦ omega (arith, w.rest-is, rest_least agent p path c.args.time c.args.cell here l c.get.result c.in-Some.distance c.in-Some.is distance)
    ]

    pays : c.max-cost.result ≤ cost p
    pays = omega (arith, c.max-cost.ensures, c.saturating_add.ensures, rest, path.least, ap (λ (a : Agent). a.least) c.self.view_is)

pub returns-else-cost-most-clause-adds : goal.returns-else-cost-most-clause-adds
returns-else-cost-most-clause-adds c p path here l cheap = absurd (omega (arith, pays, cheap, c.if-cost-most.false))
  where
    agent : Agent
    agent = c.args.self.now

    distance : MatchOption c.get.result ((n : ℕ) → ¬ IsWalk agent.grid c.args.cell agent.goal n) (IsDistance agent.grid agent.goal c.args.cell)
    distance = subst (λ (a : Agent). MatchOption c.get.result ((n : ℕ) → ¬ IsWalk a.grid c.args.cell a.goal n) (IsDistance a.grid a.goal c.args.cell)) c.self.view_is
        (c.get.ensures.shortest _ _ c.self.invariant.sizes c.self.invariant.goal c.self.invariant.distances)

    rest : c.args.time + c.if-distance-eq0.rest ≤ cost p
    rest = elim c.if-distance-eq0.branch [
      | then-distance-eq0 w ↦ omega (arith, w.rest-is, rest_back agent p path c.args.time c.args.cell here l c.get.result (c.in-Some.is ∙ ap Some (let none : c.in-Some.distance ≡ 0 = omega (arith, w.if-distance-eq0) in none)) distance)
      | else-distance-eq0 w ↦ omega (arith, w.rest-is, rest_least agent p path c.args.time c.args.cell here l c.get.result c.in-Some.distance c.in-Some.is distance)
    ]

    pays : c.max-cost.result ≤ cost p
    pays = omega (arith, c.max-cost.ensures, c.saturating_add.ensures, rest, path.least, ap (λ (a : Agent). a.least) c.self.view_is)

pub returns-in_default-clause-adds : goal.returns-in_default-clause-adds
returns-in_default-clause-adds c p path here l cheap = absurd
    (some_walk agent p path c.args.time c.args.cell here l c.get.result
    (subst (λ (a : Agent). MatchOption c.get.result ((n : ℕ) → ¬ IsWalk a.grid c.args.cell a.goal n) (IsDistance a.grid a.goal c.args.cell)) c.self.view_is
    (c.get.ensures.shortest _ _ c.self.invariant.sizes c.self.invariant.goal c.self.invariant.distances))
    c.in_default.not-Some)
  where
    agent : Agent
    agent = c.args.self.now
