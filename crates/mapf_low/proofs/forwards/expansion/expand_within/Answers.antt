use Rattle.mapf_low.specs.Walk.{distance_at}
use Rattle.std.proofs.Common.{◌≡◌, ◌↔◌, ◌+◌, ◌-◌, ℕ, Some, Contains, subst, sym, ap, ◌∙◌, arith}
use Rattle.mapf_low.specs.Distances.Levels.{IsFreeNeighbour}
use Rattle.mapf_low.proofs.forwards.Leading.{leads_not, leads_are, neighbours_suffice}
use Rattle.mapf_low.proofs.forwards.expansion.expand_within.Goals as goal

pub returns-then-near-eq0 : goal.returns-then-near-eq0
returns-then-near-eq0 c =
    let none : c.unwrap-near.result ≡ 0 = omega arith in
    leads_not c.args.query.now c.args.sum c.args.from c.args.level.now (sym c.entry.ensures ∙ (c.unwrap-near.ensures ∙ ap Some none))

pub returns : goal.returns
returns c =
    let query = c.args.query.now in
    let near = c.unwrap-near.result in
    let neighbours = c.as_slice.result.now in
    let near_is : distance_at query.table c.args.from ≡ Some near = sym c.entry.ensures ∙ c.unwrap-near.ensures in
    let apart : near - 1 + 1 ≡ near + 0 = omega arith in
    let time : c.args.sum - near + 1 ≡ c.args.sum - near + 1 = omega arith in
    leads_are query c.args.sum 0 c.args.from near (near - 1) (c.args.sum - near + 1) neighbours c.args.level.now c.generate_all.new.level c.requires.free near_is apart time
    (subst (λ xs. (v : ℕ) → Contains xs v ↔ IsFreeNeighbour query.grid c.args.from v) (sym c.as_slice.ensures) c.neighbours-around.ensures)
    (neighbours_suffice query (c.args.sum - near + 1) (near - 1) c.args.from near neighbours c.args.level.now c.generate_all.new.level
    near_is (λ e. omega (arith, e, apart)) c.in_ok-generate_all.ensures)
