use Rattle.std.proofs.Common.{◌≡◌, ◌∙◌, ◌++◌, ◌∷◌, [], length, refl, ap, arith}
use Rattle.mapf_optimum.specs.declared.together.place.Place.{Place}
use Rattle.mapf_optimum.specs.declared.together.place.Move.{Move}
use Rattle.mapf_optimum.specs.PlaceNumbers.{AgentKnown, GetsPlaces, HasMoveTo}
use Rattle.mapf_optimum.proofs.JointSteps.{each_none, each_more, each_all}
use Rattle.mapf_optimum.proofs.Numbered.{gets_none, gets_both, gets_move, moves_still, moves_last}
use Rattle.mapf_optimum.proofs.together.agent_places.AgentPlaces.add_moves.Goals as goal

pub loop-place-init : goal.loop-place-init
loop-place-init c = record {
  gets = gets_none c.args.self.now c.args.self.now refl;
  each = each_none (λ (x : Place). HasMoveTo c.args.self.now (length c.args.self.now.moves) x c.args.time);
}

pub loop-place-preserved : goal.loop-place-preserved
loop-place-preserved c =
    let fn : AgentKnown = c.args.self.now in
    let old : AgentKnown = c.loop-place.self in
    let mid : AgentKnown = c.number_of.new.self in
    let new : AgentKnown = record { all = c.self.inside.all.items; looks = c.self.inside.looks.items; moves = c.push.new.self.items; first = c.self.inside.first } in
    let move : Move = record { number = c.in_ok-number.number; place = c.place-item.result } in
    let all : new.all ≡ mid.all = ap (λ (k : AgentKnown). k.all) c.self.view_is in
    let looks : new.looks ≡ mid.looks = ap (λ (k : AgentKnown). k.looks) c.self.view_is in
    let moves : new.moves ≡ mid.moves ++ move ∷ [] = c.in_ok-push.ensures.items ∙ ap (λ l. l ++ move ∷ []) (ap (λ (k : AgentKnown). k.moves) c.self.view_is) in
    let first : new.first ≡ mid.first = ap (λ (k : AgentKnown). k.first) c.self.view_is in
    let more : GetsPlaces old new = gets_both old mid new c.in_ok-number.ensures.gets (gets_move mid new move all looks moves first) in
    let gets = c.loop-place.invariant.gets in
    record {
      gets = gets_both fn old new gets more;
      each = each_more (λ (x : Place). HasMoveTo new (length fn.moves) x c.args.time) c.args.places.now c.loop-place.place-index c.place-item.result c.loop-place-test.true c.place-item.is
          (λ x i. moves_still old new (length fn.moves) x c.args.time more (c.loop-place.invariant.each x i))
          (moves_last old mid new (length fn.moves) c.in_ok-number.number c.place-item.result c.args.time gets.longer c.in_ok-number.ensures.moves c.in_ok-number.ensures.has all moves);
    }

pub returns : goal.returns
returns c = record {
  gets = c.loop-place.invariant.gets;
  each = each_all (λ (x : Place). HasMoveTo c.loop-place.self (length c.args.self.now.moves) x c.args.time) c.args.places.now c.loop-place.place-index
      (omega (arith, c.loop-place.auto.place-index-end, c.loop-place-test.false)) c.loop-place.invariant.each;
}
