use Rattle.std.proofs.Common.{Some, ap, slice_set, sym, ◌∙◌}
use Rattle.mapf_board.specs.Owners.{known_to}
use Rattle.mapf_solve.specs.Sessions.{number_of}
use Rattle.mapf_solve.proofs.Boards.{posted_sides, posted_current, with_note}
use Rattle.mapf_solve.proofs.sessions.desk.Desk.post.Goals as goal

pub invariant_of-self : goal.invariant_of-self
invariant_of-self g c = record {
  board = c.args.self.now.board;
  slots = c.args.self.now.slots;
  owns = c.post.ensures.owner;
  sides = posted_sides _ c.post.result _ _ _ _ c.post.ensures.posted c.post.ensures.found c.requires c.args.self.now.sides;
  numbered = ap (λ n. slice_set c.args.self.now.numbers c.args.slot.number (Some n)) c.number-number.ensures
      ∙ with_note number_of _ _ _ c.args.slot.number (Some c.args.job) c.args.self.now.numbered
      (posted_current c.post.result (known_to c.args.self.now.owner) (known_to c.post.new.owner) c.args.slot.number c.args.job (sym c.if-is_ok.ensures.value) c.post.ensures.posted);
}
