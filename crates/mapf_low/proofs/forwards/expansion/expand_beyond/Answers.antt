use Rattle.mapf_low.specs.Walk.{distance_at}
use Rattle.std.proofs.Common.{◌≡◌, ◌↔◌, ◌+◌, ◌-◌, ℕ, Some, Contains, subst, sym, ◌∙◌, arith}
use Rattle.mapf_low.specs.Distances.Levels.{IsFreeNeighbour}
use Rattle.mapf_low.proofs.forwards.Leading.{leads_are, neighbours_suffice, with_itself}
use Rattle.mapf_low.proofs.forwards.expansion.expand_beyond.Goals as goal

pub returns-clause-next : goal.returns-clause-next
returns-clause-next c =
    let query = c.args.query.now in
    let near = c.unwrap-near.result in
    let neighbours = c.as_slice-neighbours.result.now in
    let near_is : distance_at query.table c.args.from ≡ Some near = sym c.entry.ensures ∙ c.unwrap-near.ensures in
    let apart : near + 1 ≡ near + 1 = omega arith in
    let time : c.args.sum - near + 1 ≡ c.args.sum - near + 1 = omega arith in
    leads_are query c.args.sum 1 c.args.from near near (c.args.sum - near + 1) neighbours c.args.next.now c.generate_all.new.level c.requires.free near_is apart time
    (subst (λ xs. (v : ℕ) → Contains xs v ↔ IsFreeNeighbour query.grid c.args.from v) (sym c.as_slice-neighbours.ensures) c.neighbours-around.ensures)
    (with_itself query (c.args.sum - near + 1) near c.args.from neighbours c.args.next.now c.generate.new.level c.generate_all.new.level
    c.in_ok-generate.ensures c.in_ok-generate_all.ensures)

pub returns-clause-after : goal.returns-clause-after
returns-clause-after c =
    let query = c.args.query.now in
    let near = c.unwrap-near.result in
    let neighbours = c.as_slice-neighbours.result.now in
    let near_is : distance_at query.table c.args.from ≡ Some near = sym c.entry.ensures ∙ c.unwrap-near.ensures in
    let apart : near + 1 + 1 ≡ near + 2 = omega arith in
    let time : c.args.sum - near + 1 ≡ c.args.sum - near + 1 = omega arith in
    leads_are query c.args.sum 2 c.args.from near (near + 1) (c.args.sum - near + 1) neighbours c.args.after.now c.generate_all-2.new.level c.requires.free near_is apart time
    (subst (λ xs. (v : ℕ) → Contains xs v ↔ IsFreeNeighbour query.grid c.args.from v) (sym c.as_slice-neighbours.ensures) c.neighbours-around.ensures)
    (neighbours_suffice query (c.args.sum - near + 1) (near + 1) c.args.from near neighbours c.args.after.now c.generate_all-2.new.level
    near_is (λ e. omega (arith, e)) c.in_ok-generate_all-2.ensures)
