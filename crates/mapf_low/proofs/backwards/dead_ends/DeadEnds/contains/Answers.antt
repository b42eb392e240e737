use Rattle.std.proofs.Common.{rules, ◌≡◌, ◌↔◌, ◌<◌, ℕ, Some, length, get_or, IsTrue, Contains, subst, ap, ◌∙◌, arith}
use Rattle.std.proofs.lemmas.Bool.Decides.{nat_tests}
use Rattle.mapf_low.specs.Backwards.Tracing.{DeadEnds}
use Rattle.mapf_low.specs.Backwards.StateTable.{place_of}
use Rattle.mapf_low.proofs.backwards.StateTables.{at_place, place_below, has_size}
use Rattle.mapf_low.proofs.backwards.dead_ends.DeadEnds.contains.Goals as goal

pub returns-then-not-is_empty : goal.returns-then-not-is_empty
returns-then-not-is_empty c =
    let table = c.self.inside.places.items in
    let s : ℕ × ℕ = (c.args.cell, c.args.time) in
    let some : 0 < length table = grind (arith, nat_tests) in
    let place : c.place_of.result ≡ place_of (length table) s = c.place_of.ensures ∙ ap (λ n. place_of n s) (omega (arith, c.len.ensures, c.self.inside.places.ok.0)) in
    let h = at_place table s c.index.result.now c.self.invariant.at_places (place_below (length table) s (has_size table c.self.invariant some))
    (c.index.ensures ∙ ap (λ n. get_or table n c.index.result.now) place) in
    let same : IsTrue c.eq.result ↔ (c.index.result.now ≡ Some s) = search rules in
    subst (λ (d : DeadEnds). IsTrue c.eq.result ↔ Contains d.states s) c.self.view_is (λ t. h.0 (same.0 t), λ i. same.1 (h.1 i))
