use Rattle.std.proofs.Common.{rules, arith, ap, ◌∙◌, inl, inr}
use Rattle.mapf_board.specs.Views.{Seen, looking}
use Rattle.mapf_board.specs.Workers.{known_by, looks_of, tries_of, shut_looks_of, record_of}
use Rattle.mapf_board.proofs.Turns.{looked, with_claim, with_miss}
use Rattle.mapf_board.proofs.live.Live.take_turns.Goals.{in-Ok, in-Err, else-loop-turn-test, then-loop-turn-test+then-not-is_open}
use Rattle.mapf_board.proofs.live.Live.take_turns.Goals as goal

pub loop-turn-preserved : goal.loop-turn-preserved
loop-turn-preserved g c =
    let sofar = c.loop-turn.invariant.3 in
    let look = c.is_open.ensures.looked ∙ ap (looking (known_by c.loop-turn.seat)) c.if-not-is_open.false in
    let first = known_by c.args.seat.now in
    let before = known_by c.loop-turn.seat in
    let seen = known_by c.is_open.new.seat in
    let after = known_by c.match-claim.seat in (
      search rules,
      search rules,
      search rules,
      elim c.match-claim.branch [
        | in-Ok w ↦ with_claim c.loop-turn._turn first before seen (known_by c.claim.new.seat) after c.loop-turn.slot w.in-Ok.ensures.claimed.0 sofar look w.in-Ok.ensures.claimed.2 (ap tries_of w.seat-is ∙ w.work_off.ensures.tried) (ap record_of w.seat-is ∙ w.work_off.ensures.same)
        | in-Err w ↦ with_miss c.loop-turn._turn first before seen after c.loop-turn.slot w.in-Err._found sofar look (ap known_by w.seat-is ∙ w.in-Err.ensures.found)
      ],
    )

pub returns-clause-looks : goal.returns-clause-looks
returns-clause-looks g c = elim c.loop-turn-test.branch [
  | else-loop-turn-test w ↦ omega (arith, c.loop-turn.invariant.3.0, c.loop-turn.auto._turn-end, ap looks_of w.seat-is)
  | then-loop-turn-test+then-not-is_open w ↦ omega (arith, c.loop-turn.invariant.3.0, (looked _ _ _ w.is_open.ensures.looked).0, ap looks_of w.seat-is)
]

pub returns-clause-tries : goal.returns-clause-tries
returns-clause-tries g c = elim c.loop-turn-test.branch [
  | else-loop-turn-test w ↦ omega (arith, c.loop-turn.invariant.3.1, c.loop-turn.auto._turn-end, ap tries_of w.seat-is)
  | then-loop-turn-test+then-not-is_open w ↦ omega (arith, c.loop-turn.invariant.3.1, (looked _ _ _ w.is_open.ensures.looked).1, c.loop-turn.auto._turn-end, ap tries_of w.seat-is)
]

pub returns-clause-shut : goal.returns-clause-shut
returns-clause-shut g c = elim c.loop-turn-test.branch [
  | else-loop-turn-test w ↦ inr (
    omega (arith, c.loop-turn.invariant.3.1, c.loop-turn.auto._turn-end, ap tries_of w.seat-is),
    omega (arith, c.loop-turn.invariant.3.2, ap shut_looks_of w.seat-is),
  )
  | then-loop-turn-test+then-not-is_open w ↦ inl (
    (known_by c.loop-turn.seat).notes,
    ap record_of w.seat-is ∙ ap (λ (x : Seen _ _). x.notes) (w.is_open.ensures.looked ∙ ap (looking (known_by c.loop-turn.seat)) w.if-not-is_open.true),
    c.loop-turn.invariant.3.2,
  )
]
