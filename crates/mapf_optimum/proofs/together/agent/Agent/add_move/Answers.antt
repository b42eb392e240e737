use Rattle.std.proofs.Common.{◌≡◌, ◌≢◌, ℕ, ◌<◌, ◌≤◌, true, false, List, Contains, sym, ap, ◌∙◌, ⊎_elim, arith}
use Rattle.std.proofs.lemmas.Bool.{cases_lt, eq-eqb}
use Rattle.mapf_plan.specs.Path.{at, cost}
use Rattle.mapf_optimum.specs.Together.{Agent, IsPathOf, Steps, HasPlace}
use Rattle.mapf_optimum.specs.declared.together.place.Place.{Place}
use Rattle.mapf_optimum.proofs.AgentPlaces.{both_ok, no_other, last_step, has_pushed, has_more}
use Rattle.mapf_optimum.proofs.together.agent.Agent.add_move.Goals as goal
use Rattle.mapf_optimum.proofs.together.agent.Agent.add_move.Goals.{then-eq+then-ne+then-self-time+then-time-most+in_ok-push, else-eq, else-eq-via-then-eq+then-ne+then-self-time+else-time-most, else-eq-via-then-eq+then-ne+else-self-time, else-eq-via-then-eq+else-ne, else-eq-via-else-eq}

pub returns-clause-adds : goal.returns-clause-adds
returns-clause-adds c = both_ok c.add_underway.result stands c.add_underway.ensures.keeps c.add_underway.ensures.adds
  where
    agent : Agent
    agent = c.args.self.now

    new : List Place
    new = c.add_underway.new.places.items

    stands : ((x : Place) → Contains c.if-eq.places.items x → Contains new x) → ((p : List ℕ) → IsPathOf agent p → at p c.args.time ≡ c.args.to → c.args.time < cost p → cost p ≤ c.args.most → HasPlace p c.args.time new) →
        (p : List ℕ) → Steps agent p c.args.time c.args.from c.args.to → cost p ≤ c.args.most → HasPlace p c.args.time new
    stands keeps adds p s cheap = ⊎_elim (λ l. adds p s.path s.to_there l cheap) home (cases_lt c.args.time (cost p))
      where
        goal_is : c.self.inside.goal ≡ agent.goal
        goal_is = ap (λ (a : Agent). a.goal) c.self.view_is

        least_is : c.self.inside.least ≡ agent.least
        least_is = ap (λ (a : Agent). a.least) c.self.view_is

        home : cost p ≤ c.args.time → HasPlace p c.args.time new
        home l =
            let last = last_step agent p c.args.time c.args.from c.args.to s l in
            elim c.if-eq.branch [
              | then-eq+then-ne+then-self-time+then-time-most+in_ok-push w ↦ has_more p c.args.time c.if-eq.places.items new keeps
                  (has_pushed p c.args.time c.args.places.now.items c.if-eq.places.items _ (ap (λ v. v.items) w.places-is ∙ w.in_ok-push.ensures.items)
                  record { on = sym s.to_there; pays = s.underway; home = λ is. l; away = λ is. (let no : false ≡ true = sym is in cc) })
              | else-eq w ↦ elim w.else-eq.branch [
                | else-eq-via-then-eq+then-ne+then-self-time+else-time-most v ↦ absurd (omega (arith, v.if-time-most.false, s.underway, cheap))
                | else-eq-via-then-eq+then-ne+else-self-time v ↦ absurd (omega (arith, v.if-self-time.false, last.2, least_is))
                | else-eq-via-then-eq+else-ne v ↦ absurd (last.1 (let there : c.args.from ≡ c.self.inside.goal = no_other c.args.from c.self.inside.goal (sym v.ne.ensures ∙ v.if-ne.false) in there ∙ goal_is))
                | else-eq-via-else-eq v ↦ absurd (let other : c.args.to ≢ c.self.inside.goal = (λ e. let no : false ≡ true = sym v.if-eq.false ∙ c.eq.ensures ∙ eq-eqb c.args.to c.self.inside.goal e in cc) in other (last.0 ∙ sym goal_is))
              ]
            ]
