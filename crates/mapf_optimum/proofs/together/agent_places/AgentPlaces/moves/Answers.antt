use Rattle.std.proofs.Common.{◌≡◌, length, sym, ap, ◌∙◌, arith}
use Rattle.std.proofs.lemmas.Option.{same_Some}
use Rattle.mapf_optimum.specs.declared.together.place.Look.{Look}
use Rattle.mapf_optimum.specs.PlaceNumbers.{AgentKnown}
use Rattle.mapf_optimum.proofs.Looks.{among}
use Rattle.mapf_optimum.proofs.together.agent_places.AgentPlaces.moves.Goals as goal

pub returns-then-look-len : goal.returns-then-look-len
returns-then-look-len c = λ move is.
    let moves : c.deref.result.now ≡ c.args.self.now.moves = c.deref.ensures.value ∙ ap (λ (k : AgentKnown). k.moves) c.self.view_is in
    let look : is.look ≡ c.in-Some.look = same_Some is.look c.in-Some.look (sym is.there ∙ sym c.look.ensures ∙ c.in-Some.is) in
    let first : is.look.first ≡ c.in-Some.look.first = ap (λ (l : Look). l.first) look in
    let end : is.look.end ≡ c.in-Some.look.end = ap (λ (l : Look). l.end) look in
    among c.deref.result.now c.in-Some.look.first c.in-Some.look.end is.place move (omega (arith, is.from, first)) (omega (arith, is.before, end))
    (omega (arith, is.inside, end, ap length moves)) (rw moves is.is)
