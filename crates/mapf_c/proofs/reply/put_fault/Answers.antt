use Rattle.std.proofs.Common.{ℤ, w32, refl, sym, subst, inr, rules}
use Rattle.std.proofs.lemmas.Int.{to_z-of_z}
use Rattle.mapf_c.specs.Reply.{IsPut}
use Rattle.mapf_c.proofs.reply.put_fault.Goals as goal

pub returns-in-Err : goal.returns-in-Err
returns-in-Err c =
    let line = c.as_bytes-in-Err.result.now in
    (4, line, inr (refl, search rules), subst (λ (r : ℤ). IsPut 4 line c.args.out.now c.put-in-Err.new.out c.put-in-Err.new.needed r) (sym (to_z-of_z w32 c.put-in-Err.result (search rules))) c.put-in-Err.ensures)
