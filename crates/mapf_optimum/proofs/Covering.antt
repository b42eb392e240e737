-- An expansion loses no candidate, and what is found is a cheapest one.
use Rattle.std.proofs.Common.{◌≡◌, ℕ, ◌<◌, ◌≤◌, List, [], ◌∷◌, ◌++◌, Option, Some, None, subst, sym, refl, ⊎_elim, arith, All, Contains, IsPermutation}
use Rattle.std.specs.Option.{option_to_list}
use Rattle.std.proofs.lemmas.Bool.{cases_lt}
use Rattle.std.proofs.lemmas.List.Elements.{All-nil, All-cons, All-tail, All-append, All-contains, Contains-append_left, Contains-append_right}
use Rattle.std.proofs.lemmas.List.Sorted.{IsPermutation-sym, All-permutation, Contains-permutation}
use Rattle.mapf_grid.proofs.Members.{nowhere, here, here_or_there}
use Rattle.mapf_plan.specs.declared.conflict.Conflict.{Conflict}
use Rattle.mapf_plan.specs.Plan.{plan_cost, IsValid}
use Rattle.mapf_low.specs.declared.constraint.Constraint.{Constraint}
use Rattle.mapf_tree.specs.declared.tree.side.Side.{Side}
use Rattle.mapf_tree.specs.declared.tree.side.Side.TheVariants.{Left, Right}
use Rattle.mapf_tree.specs.Problem.{Problem}
use Rattle.mapf_optimum.specs.FreeTree.{FreeNode, IsFreeNode, IsCandidate, IsLowerBoundOf}
use Rattle.mapf_optimum.specs.FreeSearch.{AreSideSets, IsSideOf, IsBounded, IsTaken, IsUnderWay, IsUnderWayFrom, Expands, Bounds}
use Rattle.mapf_optimum.specs.Laws.{ExpansionCovers, BoundingCovers, LeastIsOptimum, LeastLabelIsBelow, NothingWaits}
use Rattle.mapf_optimum.proofs.SideSets.{side_sets}
use Rattle.mapf_optimum.proofs.Sides.{has_a_side}

-- all of an option
all_of_option : {X : Type 0} (P : X → Type 0) (o : Option X) → ((x : X) → o ≡ Some x → P x) → All P (option_to_list o)
all_of_option P None h = All-nil P
all_of_option P (Some x) h = All-cons P x [] (h x refl) (All-nil P)

-- a taken node was there
pub taken_was_there : (old rest : List FreeNode) (x : FreeNode) → IsTaken old (Some x) rest → Contains old x
taken_was_there old rest x taken = Contains-permutation (x ∷ rest) old x (IsPermutation-sym old (x ∷ rest) taken.0) (here rest refl)

-- what all had, those that are left have
all_left : (P : FreeNode → Type 0) (old rest : List FreeNode) (x : FreeNode) → IsTaken old (Some x) rest → All P old → All P rest
all_left P old rest x taken all = All-tail P x rest (All-permutation P old (x ∷ rest) taken.0 all)

-- a side has sets, and a candidate under them is one at the side's node, which is there
record HasSide (problem : Problem) (node : FreeNode) (c : Conflict) (s : Side) (found : Option FreeNode) (plan : List (List ℕ)) : Type 0 where
  sets : List (List Constraint)
  are : AreSideSets node.sets c s sets
  at_side : IsCandidate problem sets plan → (n : FreeNode) × Contains (option_to_list found) n × IsCandidate problem n.sets plan

has_side : (problem : Problem) (node : FreeNode) (c : Conflict) (s : Side) (found : Option FreeNode) (plan : List (List ℕ)) → IsSideOf problem node c s found → HasSide problem node c s found plan
has_side problem node c s (Some child) plan is = record { sets = child.sets; are = is.1; at_side = λ k. (child, here [] refl, k) }
has_side problem node c s None plan is =
    let w = side_sets node.sets c s in record { sets = w.0; are = w.1; at_side = λ k. absurd (is w.0 w.1 plan k) }

-- what was put in is there
module _ (problem : Problem) (old new : List FreeNode) (e : Expands problem old new) where
  into : (n : FreeNode) → Contains (option_to_list e.sides.right ++ (option_to_list e.sides.left ++ e.rest)) n → Contains new n
  into n i = Contains-permutation _ new n e.sides.put i

  -- what holds of the sides and of all that waited holds of all that wait then
  after : (P : FreeNode → Type 0) → All P old → ((s : Side) (found : Option FreeNode) → IsSideOf problem e.node e.conflict s found → (child : FreeNode) → found ≡ Some child → P child) → All P new
  after P all sides =
      All-permutation P _ new e.sides.put
      (All-append P (option_to_list e.sides.right) _ (all_of_option P e.sides.right (sides Right e.sides.right e.sides.right_side))
      (All-append P (option_to_list e.sides.left) e.rest (all_of_option P e.sides.left (sides Left e.sides.left e.sides.left_side)) (all_left P old e.rest e.node e.taken all)))

  -- a candidate of the taken node is one of its sides
  of_taken : IsFreeNode problem e.node → (plan : List (List ℕ)) → IsCandidate problem e.node.sets plan → (n : FreeNode) × Contains new n × IsCandidate problem n.sets plan
  of_taken is plan k =
      let l = has_side problem e.node e.conflict Left e.sides.left plan e.sides.left_side in
      let r = has_side problem e.node e.conflict Right e.sides.right plan e.sides.right_side in
      ⊎_elim (λ h. let w = l.at_side h in (w.0, into w.0 (Contains-append_right (option_to_list e.sides.right) _ w.0 (Contains-append_left (option_to_list e.sides.left) e.rest w.0 w.1)), w.2))
      (λ h. let w = r.at_side h in (w.0, into w.0 (Contains-append_left (option_to_list e.sides.right) _ w.0 w.1), w.2))
      (has_a_side problem e.node e.conflict l.sets r.sets plan is e.choice l.are r.are k)

-- all that wait then are nodes, if all that waited were
module _ (problem : Problem) (old new : List FreeNode) (free : All (IsFreeNode problem) old) (e : Expands problem old new) where
  free_then : All (IsFreeNode problem) new
  free_then = after problem old new e (IsFreeNode problem) free (λ s found is child same. let k = subst (IsSideOf problem e.node e.conflict s) same is in k.0)

  -- a candidate of the taken node is one of its sides, and one of another node is still there
  still_there : (plan : List (List ℕ)) → (n : FreeNode) × Contains old n × IsCandidate problem n.sets plan → (n : FreeNode) × Contains new n × IsCandidate problem n.sets plan
  still_there plan w =
      ⊎_elim
      (λ same. of_taken problem old new e (All-contains (IsFreeNode problem) old e.node free (taken_was_there old e.rest e.node e.taken)) plan (subst (λ n. IsCandidate problem n.sets plan) (sym same) w.2))
      (λ i. (w.0, into problem old new e w.0 (Contains-append_right (option_to_list e.sides.right) _ w.0 (Contains-append_right (option_to_list e.sides.left) e.rest w.0 i)), w.2))
      (here_or_there e.rest (Contains-permutation old (e.node ∷ e.rest) w.0 e.taken.0 w.1))

pub expansion_covers : ExpansionCovers
expansion_covers problem old new way e = record { free = free_then problem old new way.free e; covers = λ plan valid within. still_there problem old new way.free e plan (way.covers plan valid within) }

-- the same among the candidates under some sets
pub expansion_covers_from : (problem : Problem) (sets : List (List Constraint)) (old new : List FreeNode) → IsUnderWayFrom problem sets old → Expands problem old new → IsUnderWayFrom problem sets new
expansion_covers_from problem sets old new way e = record { free = free_then problem old new way.free e; covers = λ plan candidate. still_there problem old new way.free e plan (way.covers plan candidate) }

-- where a node is bounded, all that wait then are nodes, and a candidate of it is one of the bounded node
module _ (problem : Problem) (old new : List FreeNode) (free : All (IsFreeNode problem) old) (e : Bounds problem old new) where
  free_bounded : All (IsFreeNode problem) new
  free_bounded =
      All-permutation (IsFreeNode problem) _ new e.put
      (All-append (IsFreeNode problem) (option_to_list e.found) e.rest (all_of_option (IsFreeNode problem) e.found (λ x same. let k = subst (IsBounded problem e.node) same e.bounded in k.0.0)) (all_left (IsFreeNode problem) old e.rest e.node e.taken free))

  at_found : (found : Option FreeNode) → IsBounded problem e.node found → (plan : List (List ℕ)) → IsCandidate problem e.node.sets plan → (n : FreeNode) × Contains (option_to_list found) n × IsCandidate problem n.sets plan
  at_found None none plan k = absurd (none plan k)
  at_found (Some n) is plan k = (n, here [] refl, subst (λ l. IsCandidate problem l plan) (sym is.0.1) k)

  still_bounded : (plan : List (List ℕ)) → (n : FreeNode) × Contains old n × IsCandidate problem n.sets plan → (n : FreeNode) × Contains new n × IsCandidate problem n.sets plan
  still_bounded plan w =
      ⊎_elim (λ same. let f = at_found e.found e.bounded plan (subst (λ n. IsCandidate problem n.sets plan) (sym same) w.2) in (f.0, Contains-permutation _ new f.0 e.put (Contains-append_left (option_to_list e.found) e.rest f.0 f.1), f.2))
      (λ i. (w.0, Contains-permutation _ new w.0 e.put (Contains-append_right (option_to_list e.found) e.rest w.0 i), w.2))
      (here_or_there e.rest (Contains-permutation old (e.node ∷ e.rest) w.0 e.taken.0 w.1))

pub bounding_covers : BoundingCovers
bounding_covers problem old new way e = record { free = free_bounded problem old new way.free e; covers = λ plan valid within. still_bounded problem old new way.free e plan (way.covers plan valid within) }

-- the same among the candidates under some sets
pub bounding_covers_from : (problem : Problem) (sets : List (List Constraint)) (old new : List FreeNode) → IsUnderWayFrom problem sets old → Bounds problem old new → IsUnderWayFrom problem sets new
bounding_covers_from problem sets old new way e = record { free = free_bounded problem old new way.free e; covers = λ plan candidate. still_bounded problem old new way.free e plan (way.covers plan candidate) }

-- a search begins with a node
pub begins_from : (problem : Problem) (node : FreeNode) (old new : List FreeNode) → IsFreeNode problem node → old ≡ [] → IsPermutation (node ∷ old) new → IsUnderWayFrom problem node.sets new
begins_from problem node old new is empty put = record {
  free = All-permutation (IsFreeNode problem) (node ∷ old) new put (subst (λ l. All (IsFreeNode problem) (node ∷ l)) (sym empty) (All-cons (IsFreeNode problem) node [] is (All-nil (IsFreeNode problem))));
  covers = λ plan candidate. (node, Contains-permutation (node ∷ old) new node put (here old refl), candidate);
}

-- a node that waits is a node
pub free_from : (problem : Problem) (sets : List (List Constraint)) (waiting rest : List FreeNode) (x : FreeNode) → IsUnderWayFrom problem sets waiting → IsTaken waiting (Some x) rest → IsFreeNode problem x
free_from problem sets waiting rest x way taken = All-contains (IsFreeNode problem) waiting x way.free (taken_was_there waiting rest x taken)

-- no candidate under those sets costs less than the least label
pub least_label_from : (problem : Problem) (sets : List (List Constraint)) (waiting rest : List FreeNode) (x : FreeNode) (least : ℕ) → IsUnderWayFrom problem sets waiting → IsTaken waiting (Some x) rest → least ≡ x.label →
    IsLowerBoundOf problem sets least
least_label_from problem sets waiting rest x least way taken label plan candidate =
    let w = way.covers plan candidate in
    omega (arith, label, All-contains (λ y. x.label ≤ y.label) waiting w.0 taken.1 w.1, (All-contains (IsFreeNode problem) waiting w.0 way.free w.1).below plan w.2)

-- where no node waits there is none, so that any number is a lower bound
pub nothing_waits_from : (problem : Problem) (sets : List (List Constraint)) (waiting rest : List FreeNode) (least : ℕ) → IsUnderWayFrom problem sets waiting → IsTaken waiting None rest → IsLowerBoundOf problem sets least
nothing_waits_from problem sets waiting rest least way taken plan candidate =
    let w = way.covers plan candidate in absurd (nowhere (subst (λ nodes. Contains nodes w.0) taken.0 w.1))

-- where no node waits, each valid plan costs more than the bound
pub none_within : (problem : Problem) (waiting rest : List FreeNode) → IsUnderWay problem waiting → IsTaken waiting None rest → (plan : List (List ℕ)) → IsValid problem.rule problem.inst plan → problem.bound < plan_cost plan
none_within problem waiting rest way taken plan valid =
    ⊎_elim (λ over. over) (λ within. let w = way.covers plan valid within in absurd (nowhere (subst (λ nodes. Contains nodes w.0) taken.0 w.1))) (cases_lt problem.bound (plan_cost plan))

-- no valid plan costs less than the least label
pub least_label_is_below : LeastLabelIsBelow
least_label_is_below problem waiting rest x way taken plan valid =
    ⊎_elim (λ h. omega (arith, h, is.within)) (λ h. let w = way.covers plan valid h in omega (arith, All-contains (λ y. x.label ≤ y.label) waiting w.0 taken.1 w.1, (All-contains (IsFreeNode problem) waiting w.0 way.free w.1).below plan w.2))
    (cases_lt problem.bound (plan_cost plan))
  where
    is : IsFreeNode problem x
    is = All-contains (IsFreeNode problem) waiting x way.free (taken_was_there waiting rest x taken)

-- the plan of a node of the least label costs no more than the label, and that no more than any valid plan
pub least_is_optimum : LeastIsOptimum
least_is_optimum problem waiting rest x way taken bounded none = record {
  valid = record { agents = is.paths.agents; paths = λ i h. (is.paths.each i h).path; no_conflict = none };
  within = omega (arith, is.dear bounded, is.within);
  least = λ other valid. omega (arith, is.dear bounded, least_label_is_below problem waiting rest x way taken other valid);
}
  where
    is : IsFreeNode problem x
    is = All-contains (IsFreeNode problem) waiting x way.free (taken_was_there waiting rest x taken)

-- each valid plan within the bound is a candidate of a node that waits
pub nothing_waits : NothingWaits
nothing_waits problem way plan valid within = nowhere (way.covers plan valid within).1
