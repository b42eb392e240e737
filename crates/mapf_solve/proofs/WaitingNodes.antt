-- Nodes of the tree that wait, one after the other.
use Rattle.std.proofs.Common.{◌≡◌, List, ◌∷◌, None, Ok, sym, subst}
use Rattle.mapf_tree.specs.Problem.{Problem}
use Rattle.mapf_tree.specs.Nodes.{Node, AllStand}
use Rattle.mapf_tree.specs.Search.{Searched, IsSearch, IsLawful}
use Rattle.mapf_tree.proofs.high_level.OpenNodes.{tail_stands}

-- behind the first of them the others wait still
pub others_wait : (p : Problem) (old new : List Node) (n : Node) → AllStand p old → old ≡ n ∷ new → AllStand p new
others_wait p old new n all is = tail_stands p n new (subst (AllStand p) is all)

-- and all that waits stands for a node of the tree in a search that has no answer yet
pub search_waits : (s : Searched) (p : Problem) (nodes : List Node) → IsSearch s → s.outcome ≡ Ok None → s.problem ≡ p → nodes ≡ s.waiting → AllStand p nodes
search_waits s p nodes is open_yet of waiting =
    let here : AllStand s.problem s.waiting = (subst (IsLawful s.problem s.waiting s.last) open_yet is).0.stand in
    subst (λ q. AllStand q nodes) of (subst (AllStand s.problem) (sym waiting) here)
