use Rattle.std.proofs.Common.{rules, ◌≡◌, ◌+◌, ◌<◌, set, length, Contains, subst, sym, ap, ◌∙◌, arith}
use Rattle.std.proofs.lemmas.Option.{slice_get_within}
use Rattle.mapf_optimum.specs.declared.together.place.Look.{Look}
use Rattle.mapf_optimum.specs.Together.{Agent}
use Rattle.mapf_optimum.specs.PlaceNumbers.{AgentKnown, AreAdded, AreLookedOn, IsLookedOn}
use Rattle.mapf_optimum.proofs.Looks.{looked_less, looked_there, looked_with}
use Rattle.mapf_optimum.proofs.together.agent_places.AgentPlaces.look_on.Goals as goal

pub returns-then-look-from-clause-there : goal.returns-then-look-from-clause-there
returns-then-look-from-clause-there c =
    looked_less c.args.agent.now c.args.self.now c.args.number (c.args.most + 1) c.in-Some-look.look.below (omega (arith, c.if-look-from.true, c.from.ensures))
    (c.requires c.args.number c.in-Some-look.look (sym c.look.ensures ∙ c.in-Some-look.is))

pub index_mut-requires : goal.index_mut-requires
index_mut-requires c =
    let l : c.args.number < length c.add_moves.new.self.looks = slice_get_within c.add_moves.new.self.looks c.args.number c.in-Some-look.look
    (c.in_ok-add_moves.ensures.gets.looks c.args.number c.in-Some-look.look (sym c.look.ensures ∙ c.in-Some-look.is)) in
    let same : length c.self-2.inside.looks.items ≡ length c.add_moves.new.self.looks = ap (λ (k : AgentKnown). length k.looks) c.self-2.view_is in
    search (rules, l, same)

-- what was looked for, and what is looked for now
looked : (c : goal.After-self-1) →
    let look : Look = record { below = c.from-2.result + 1; first = c.len-first.result; end = c.len.result } in
    let new : AgentKnown = record { all = c.self-2.inside.all.items; looks = set c.self-2.inside.looks.items c.args.number look; moves = c.self-2.inside.moves.items; first = c.self-2.inside.first } in
    AreLookedOn c.args.agent.now new × IsLookedOn c.args.agent.now new c.args.number (c.args.most + 1)
looked c = (looked_with agent old mid new c.args.number look added.gets whole all looks moves inside c.requires (subst (λ n. IsLookedOn agent new c.args.number n) (sym below) there), there)
  where
    agent : Agent
    agent = c.args.agent.now

    old : AgentKnown
    old = c.args.self.now

    mid : AgentKnown
    mid = c.add_moves.new.self

    look : Look
    look = record { below = c.from-2.result + 1; first = c.len-first.result; end = c.len.result }

    new : AgentKnown
    new = record { all = c.self-2.inside.all.items; looks = set c.self-2.inside.looks.items c.args.number look; moves = c.self-2.inside.moves.items; first = c.self-2.inside.first }

    added : AreAdded old mid c.deref.result.now c.saturating_add-time.result
    added = c.in_ok-add_moves.ensures

    whole : length old.looks ≡ length old.all
    whole = search rules

    all : new.all ≡ mid.all
    all = ap (λ (k : AgentKnown). k.all) c.self-2.view_is

    looks : new.looks ≡ set mid.looks c.args.number look
    looks = ap (λ (k : AgentKnown). set k.looks c.args.number look) c.self-2.view_is

    moves : new.moves ≡ mid.moves
    moves = ap (λ (k : AgentKnown). k.moves) c.self-2.view_is

    inside : c.args.number < length mid.looks
    inside = slice_get_within mid.looks c.args.number c.in-Some-look.look (added.gets.looks c.args.number c.in-Some-look.look (sym c.look.ensures ∙ c.in-Some-look.is))

    below : look.below ≡ c.args.most + 1
    below = ap (λ n. n + 1) c.from-2.ensures

    there : IsLookedOn agent new c.args.number (c.args.most + 1)
    there = looked_there agent old mid new c.args.number look added.gets whole all looks moves inside c.in-Some.from c.add_next_places.new.places.items c.args.most c.saturating_add-time.result
        (sym c.at.ensures ∙ c.in-Some.is) (λ l. omega (arith, l, c.saturating_add-time.ensures))
        (λ x i. added.each x (subst (λ l. Contains l x) (sym c.deref.ensures.value) i))
        (search rules) (search rules) c.in_ok-add_next_places.ensures.adds

pub returns-clause-looked : goal.returns-clause-looked
returns-clause-looked c = (looked c).0

pub returns-clause-there : goal.returns-clause-there
returns-clause-there c = (looked c).1
