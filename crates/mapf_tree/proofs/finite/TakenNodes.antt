-- How many nodes a search can take.
use Rattle.mapf_tree.proofs.Prelude.{List, [], ◌∷◌, length, All-from_recursion, All-contains}
use Rattle.mapf_tree.specs.Prelude.{PlannedNode, IsMember, EachOnce, TakenAreBounded}
use Rattle.mapf_tree.proofs.finite.Distinct.{Distinct, distinct_le}
use Rattle.mapf_tree.proofs.finite.Finite.{members}

-- what stands once is distinct
pub distinct : (ms : List PlannedNode) → EachOnce ms → Distinct ms
distinct [] once = tt
distinct (m ∷ ms) once = (once.0, distinct ms once.1)

-- a search takes no more than the tree has
pub taken_are_bounded : TakenAreBounded
taken_are_bounded problem =
    let ms = members problem in (
      length ms.0,
      λ taken once inside.
          distinct_le taken ms.0 (distinct taken once) (λ m c. ms.2 m (All-contains (IsMember problem) taken m (All-from_recursion (IsMember problem) taken inside) c)),
    )
