use Rattle.std.proofs.Common.{arith, ◌≡◌, All, None, ap, sym, refl, subst, length}
use Rattle.std.proofs.lemmas.List.Elements.{All-nil, All-push}
use Rattle.mapf_board.proofs.round.empty_places.Goals as goal

pub loop-i-init : goal.loop-i-init
loop-i-init g c = record {
  long = ap length c.in_ok-places.ensures.items;
  room = c.in_ok-places.ensures.capacity;
  empty = subst (All (λ place. place ≡ None)) (sym c.in_ok-places.ensures.items) (All-nil (λ place. place ≡ None));
}

pub loop-i-preserved : goal.loop-i-preserved
loop-i-preserved g c = record {
  long = omega (arith, c.push_reserved.ensures.len, c.loop-i.invariant.long);
  room = omega (arith, c.push_reserved.ensures.capacity, c.loop-i.invariant.room);
  empty = subst (All (λ place. place ≡ None)) (sym c.push_reserved.ensures.items) (All-push (λ place. place ≡ None) c.loop-i.places.items _ c.loop-i.invariant.empty refl);
}
