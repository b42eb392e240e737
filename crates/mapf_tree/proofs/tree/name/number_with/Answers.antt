use Rattle.std.proofs.Common.{◌≡◌, ◌+◌, ◌*◌, ◌-◌, ◌^◌, sym, ap, ◌∙◌, arith}
use Rattle.mapf_tree.specs.Prelude.{turn}
use Rattle.mapf_tree.proofs.tree.NameTurns.{number_more, number_fits}
use Rattle.mapf_tree.proofs.tree.name.number_with.Goals as goal

-- the bit of a turn to the right
the_bit : (c : goal.After-bit_of) → c.bit_of.result ≡ turn c.args.side * 2 ^ (63 - c.args.few)
the_bit c = let one : turn c.args.side ≡ 1 = ap turn c.in-Right.is in rw one (omega (arith, c.bit_of.ensures))

pub overflow_add-result : goal.overflow_add-result
overflow_add-result c =
    record { fits = omega (arith, the_bit c, number_fits c.args.first c.args.few c.args.side c.requires.room c.requires.number) }

pub returns-in-Left : goal.returns-in-Left
returns-in-Left c =
    let one : turn c.args.side ≡ 0 = ap turn c.in-Left.is in
    sym (number_more c.args.first c.args.few c.args.side c.requires.room c.requires.number ∙ rw one (omega arith))

pub returns-in-Right : goal.returns-in-Right
returns-in-Right c = ap (λ n. c.args.first + n) (the_bit c) ∙ sym (number_more c.args.first c.args.few c.args.side c.requires.room c.requires.number)
