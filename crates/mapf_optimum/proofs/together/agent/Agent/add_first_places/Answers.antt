use Rattle.std.proofs.Common.{◌≡◌, ℕ, ◌<◌, ◌≤◌, true, false, List, Contains, sym, ap, ◌∙◌, ⊎_elim, arith}
use Rattle.std.proofs.lemmas.Bool.{cases_lt}
use Rattle.mapf_plan.specs.Path.{at, cost}
use Rattle.mapf_optimum.specs.Together.{Agent, HasPlace, IsPathOf}
use Rattle.mapf_optimum.specs.declared.together.place.Place.{Place}
use Rattle.mapf_optimum.proofs.AgentPlaces.{both_ok, has_pushed, has_more}
use Rattle.mapf_optimum.proofs.together.agent.Agent.add_first_places.Goals as goal
use Rattle.mapf_optimum.proofs.together.agent.Agent.add_first_places.Goals.{then-self-eq0+in_ok-push, else-self-eq0}

pub returns-clause-adds : goal.returns-clause-adds
returns-clause-adds c = both_ok c.add_underway.result stands c.add_underway.ensures.keeps c.add_underway.ensures.adds
  where
    agent : Agent
    agent = c.args.self.now

    new : List Place
    new = c.add_underway.new.places.items

    starts : (p : List ℕ) → IsPathOf agent p → at p 0 ≡ c.self.inside.start
    starts p path = path.path.starts ∙ sym (ap (λ (a : Agent). a.start) c.self.view_is)

    stands : ((x : Place) → Contains c.if-self-eq0.places.items x → Contains new x) → ((p : List ℕ) → IsPathOf agent p → at p 0 ≡ c.self.inside.start → 0 < cost p → cost p ≤ c.args.most → HasPlace p 0 new) →
        (p : List ℕ) → IsPathOf agent p → cost p ≤ c.args.most → HasPlace p 0 new
    stands keeps adds p path cheap = ⊎_elim (λ l. adds p path (starts p path) l cheap) home (cases_lt 0 (cost p))
      where
        home : cost p ≤ 0 → HasPlace p 0 new
        home l = elim c.if-self-eq0.branch [
          | then-self-eq0+in_ok-push w ↦ has_more p 0 c.if-self-eq0.places.items new keeps
              (has_pushed p 0 c.args.places.now.items c.if-self-eq0.places.items _ (ap (λ v. v.items) w.places-is ∙ w.in_ok-push.ensures.items)
              record { on = sym (starts p path); pays = omega arith; home = λ is. l; away = λ is. (let no : false ≡ true = sym is in cc) })
          | else-self-eq0 w ↦ absurd (omega (arith, w.if-self-eq0.false, path.least, l, ap (λ (a : Agent). a.least) c.self.view_is))
        ]
