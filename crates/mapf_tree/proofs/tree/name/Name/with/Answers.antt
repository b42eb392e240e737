use Rattle.std.proofs.Common.{◌≡◌, ℕ, List, ◌≤◌, ◌++◌, [], ◌∷◌, length, ap, ◌∙◌, arith}
use Rattle.mapf_tree.specs.Prelude.{Side, turns_of, IsKept}
use Rattle.mapf_tree.proofs.tree.NameTurns.{number_kept, name_more, length_kept}
use Rattle.mapf_tree.proofs.tree.name.Name.with.Goals as goal

-- a name whose number is full is no shorter than it
full : (first few : ℕ) (rest name : List Side) → IsKept first few rest → turns_of few 64 first ++ rest ≡ name → 64 ≤ few → 64 ≤ length name
full first few rest name kept is h = omega (arith, h, length_kept first few rest kept, ap length is)

pub invariant_of-result : goal.invariant_of-result
invariant_of-result c = record {
  within = omega (arith, c.if-self-lt-KEPT.true);
  filled = λ _. c.none.ensures;
  number = number_kept c.self.inside.first c.self.inside.few c.args.side c.if-self-lt-KEPT.true c.self.invariant.number c.number_with.result c.number_with.ensures;
}

pub returns-then-self-lt-KEPT-clause-name : goal.returns-then-self-lt-KEPT-clause-name
returns-then-self-lt-KEPT-clause-name c =
    name_more c.self.inside.first c.self.inside.few c.args.side c.if-self-lt-KEPT.true c.self.invariant.number c.number_with.result c.self.inside.suffix c.none.result c.number_with.ensures
    (c.self.invariant.filled c.if-self-lt-KEPT.true) c.none.ensures
    ∙ ap (λ l. l ++ c.args.side ∷ []) c.self.view_is

pub returns-in_err-with-clause-small : goal.returns-in_err-with-clause-small
returns-in_err-with-clause-small c small = absurd (omega (arith, small, full c.self.inside.first c.self.inside.few c.self.inside.suffix c.args.self.now c.self.invariant c.self.view_is c.if-self-lt-KEPT.false))
