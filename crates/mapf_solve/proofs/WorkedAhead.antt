-- A child that was worked out elsewhere.
use Rattle.std.proofs.Common.{◌≡◌, Option, sym, subst}
use Rattle.mapf_tree.specs.declared.tree.side.Side.{Side}
use Rattle.mapf_tree.specs.Problem.{Problem}
use Rattle.mapf_tree.specs.Nodes.{Node}
use Rattle.mapf_tree.specs.Family.{IsChildOf}

-- a child of a node is one of what is the same node
pub same_child : (p q : Problem) (a b : Node) (s t : Side) (found : Option Node) → q ≡ p → b ≡ a → t ≡ s → IsChildOf q a s found → IsChildOf p b t found
same_child p q a b s t found of node side is =
    subst (λ r. IsChildOf r b t found) of (subst (λ n. IsChildOf q n t found) (sym node) (subst (λ u. IsChildOf q a u found) (sym side) is))
