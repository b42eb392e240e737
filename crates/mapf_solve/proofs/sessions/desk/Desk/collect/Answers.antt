use Rattle.std.proofs.Common.{None, map, refl, ap, sym, ◌∙◌}
use Rattle.mapf_board.specs.Views.{collecting}
use Rattle.mapf_board.specs.Owners.{known_to}
use Rattle.mapf_solve.specs.Sessions.{number_of}
use Rattle.mapf_solve.proofs.Boards.{freed_sides, with_note}
use Rattle.mapf_solve.proofs.sessions.desk.Desk.collect.Goals as goal

pub invariant_of-self : goal.invariant_of-self
invariant_of-self g c = record {
  board = c.args.self.now.board;
  slots = c.args.self.now.slots;
  owns = c.collect.ensures.owner;
  sides = freed_sides _ c.collect.result _ _ _ (collecting (known_to c.args.self.now.owner) c.args.slot.number) (λ x. refl) c.collect.ensures.collected c.collect.ensures.found c.args.self.now.sides;
  numbered = c.args.self.now.numbered ∙ ap (λ v. map number_of v.current) (sym c.in_err-left.ensures.found);
}

pub invariant_of-self-2 : goal.invariant_of-self-2
invariant_of-self-2 g c = record {
  board = c.args.self.now.board;
  slots = c.args.self.now.slots;
  owns = c.collect.ensures.owner;
  sides = freed_sides _ c.collect.result _ _ _ (collecting (known_to c.args.self.now.owner) c.args.slot.number) (λ x. refl) c.collect.ensures.collected c.collect.ensures.found c.args.self.now.sides;
  numbered = with_note number_of _ _ _ c.args.slot.number None c.args.self.now.numbered (ap (λ v. v.current) c.in_ok-left.ensures.collected);
}

pub returns : goal.returns
returns g c = c.args.self.now.sides c.args.slot.number _ c.in_ok-left.ensures.current
