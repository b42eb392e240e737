use Rattle.std.proofs.Common.{ℕ, ◌+◌, ◌-◌, ◌*◌, List, Contains, length, take}
use Rattle.mapf_optimum.specs.declared.together.place.Move.{Move}
use Rattle.mapf_optimum.specs.PlaceNumbers.{AreAtKnown, AreSame, GoesBy, GoesOnFrom, Grows, HaveGone}
use Rattle.mapf_optimum.proofs.together.steps.+joint.Given as goal

abbrev pub decreases-add_from : goal.decreases-add_from
decreases-add_from l = 2 * (length l.from.now.places.now - l.agent) + 1

abbrev pub decreases-add_by : goal.decreases-add_by
decreases-add_by l = 2 * (length l.from.now.places.now - l.agent)

abbrev pub invariant-add_from-loop-next : goal.invariant-add_from-loop-next
invariant-add_from-loop-next l = record {
  grows : Grows l.fn.known l.known;
  keeps : (x : List ℕ) → Contains l.fn.cheap.items x → Contains l.cheap.items x;
  same : AreSame l.agent l.fn.to l.to;
  adds : (plan : List (List ℕ)) (time : ℕ) → GoesOnFrom plan l.from.terms l.from.places.now l.from.numbers.now l.from.joint.now time →
      HaveGone plan l.from.places.now l.from.joint.now l.fn.to l.agent l.cost (time + 1) → (move : Move) → Contains (take l.next-index l.next-items) move →
      GoesBy plan l.from.places.now l.agent move (time + 1) → AreAtKnown plan l.from.places.now l.known l.cheap.items (time + 1);
}
