use Rattle.std.proofs.Common.{rules, arith, ◌≡◌, length, sym, subst}
use Rattle.mapf_board.specs.Seats.{IsSeatOf}
use Rattle.mapf_board.proofs.round.Round.run.Goals as goal

pub map_vec-requires-after_bounds : goal.map_vec-requires-after_bounds
map_vec-requires-after_bounds g c = λ u v i x low at. (subst (IsSeatOf c.args.self.tickets) (sym at) (c.requires i x low), search rules)

pub returns : goal.returns
returns g c =
    let same : length c.in_ok-made.made.items ≡ length c.args.seats.items = omega (arith, c.in_ok-made.ensures.len, c.in_ok-made.made.ok.0, c.args.seats.ok.0) in
    λ k d low. (c.in_ok-made.ensures.each k d (omega (arith, low, same))).1.call.met
