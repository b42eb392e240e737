use Rattle.std.proofs.Common.{⊎_elim, arith}
use Rattle.std.proofs.lemmas.Bool.{cases_lt}
use Rattle.mapf_plan.proofs.collisions.Collisions.{found_at_rest}
use Rattle.mapf_plan.proofs.collisions.first_collision.first_collision.Goals as goal

pub returns-in-None : goal.returns-in-None
returns-in-None c =
    found_at_rest c.args.rule c.args.one.now c.args.other.now c.max-in-None.result c.min-both_rest.result c.args.end c.first_together.result
    (λ t l does.
    ⊎_elim (λ h. c.requires t h does) (λ h. c.in-None.ensures t (omega (arith, l, h, c.max-in-None.ensures)) does) (cases_lt t c.args.from))
    (λ l. omega arith) (omega arith) c.first_together.ensures
