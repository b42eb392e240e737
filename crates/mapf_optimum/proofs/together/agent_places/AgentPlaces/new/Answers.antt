use Rattle.std.proofs.Common.{rules, ◌<◌, length, Contains, subst, sym, ap, ⊎_elim}
use Rattle.std.proofs.lemmas.Option.{slice_get_within}
use Rattle.mapf_optimum.specs.PlaceNumbers.{AgentKnown}
use Rattle.mapf_optimum.proofs.Looks.{none_looked}
use Rattle.mapf_optimum.proofs.together.agent_places.AgentPlaces.new.Goals as goal

pub returns-clause-begins : goal.returns-clause-begins
returns-clause-begins c = λ p path cheap.
    let found = c.in_ok-add_first_places.ensures.adds p path cheap in
    let m = c.in_ok-add_moves.ensures.each found.0 (subst (λ l. Contains l found.0) (sym c.deref.ensures.value) found.1) in
    let all = ap (λ (k : AgentKnown). k.all) c.places.view_is in
    let has = rw (← all) at m.4 in
    let l : m.2 < length c.places.inside.all.items = slice_get_within c.places.inside.all.items m.2 _ has in
    (m.2, search (rules, l), (found.0, has, found.2))

pub returns-clause-looked : goal.returns-clause-looked
returns-clause-looked c = λ number look is.
    let same = ap (λ (k : AgentKnown). k.looks) c.places.view_is in
    ⊎_elim (λ old. absurd (search (rules, old))) (λ none. none_looked c.args.agent.now _ number look.below none)
    (c.in_ok-add_moves.ensures.gets.fresh number look (rw same at is))
