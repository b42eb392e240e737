-- A step of a search under way.
use Rattle.std.proofs.Common.{◌≡◌, ◌++◌, false, List, Option, Some, subst, IsPermutation}
use Rattle.std.specs.Option.{option_to_list}
use Rattle.std.proofs.lemmas.List.Elements.{All-contains}
use Rattle.mapf_plan.specs.declared.conflict.Conflict.{Conflict}
use Rattle.mapf_tree.specs.Problem.{Problem}
use Rattle.mapf_optimum.specs.FreeTree.{FreeNode, IsFreeNode, IsChoice}
use Rattle.mapf_optimum.specs.FreeSearch.{IsBounded, IsTaken, Expands, Bounds, PutsSides, IsUnderWay}
use Rattle.mapf_optimum.proofs.Covering.{taken_was_there}

-- a taken node is a node
pub taken_is_free : (problem : Problem) (waiting rest : List FreeNode) (x : FreeNode) → IsUnderWay problem waiting → IsTaken waiting (Some x) rest → IsFreeNode problem x
taken_is_free problem waiting rest x way taken = All-contains (IsFreeNode problem) waiting x way.free (taken_was_there waiting rest x taken)

-- what was taken, if something was
pub taken_node : (waiting rest : List FreeNode) (found : Option FreeNode) (x : FreeNode) → found ≡ Some x → IsTaken waiting found rest → IsTaken waiting (Some x) rest
taken_node waiting rest found x e taken = subst (λ o. IsTaken waiting o rest) e taken

pub bounds : (problem : Problem) (waiting rest new : List FreeNode) (x : FreeNode) (found : Option FreeNode) → IsTaken waiting (Some x) rest → x.is_bounded ≡ false → IsBounded problem x found → IsPermutation (option_to_list found ++ rest) new →
    Bounds problem waiting new
bounds problem waiting rest new x found taken unbounded bounded put = record { node = x; rest = rest; taken = taken; unbounded = unbounded; found = found; bounded = bounded; put = put }

pub expands : (problem : Problem) (waiting rest new : List FreeNode) (x : FreeNode) (c : Conflict) → IsTaken waiting (Some x) rest → IsChoice problem x.plan c → PutsSides problem x c rest new → Expands problem waiting new
expands problem waiting rest new x c taken choice sides = record { node = x; rest = rest; taken = taken; conflict = c; choice = choice; sides = sides }
