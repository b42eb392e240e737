-- One change more at the end of a chain.
use Rattle.mapf_tree.proofs.Prelude.{◌≡◌, ◌≢◌, ◌↔◌, ℕ, ◌+◌, ◌<◌, List, [], ◌∷◌, ◌++◌, length, take, take_all, map, get_or, set, All, Option, Some, replicate, ap₂, refl, sym, ap, ◌∙◌, subst, subst₂, arith, Contains, get_or-set_same, slice_get_within, get_or_from_slice_get, All-push, set_cases}
use Rattle.std.specs.List.{AllZip, AppendsClones, slice_get}
use Rattle.std.proofs.lemmas.List.{length-set, length_push, map-append, take_more}
use Rattle.mapf_tree.specs.Prelude.{Constraint, path_of, plan_cost, Conflict, Side, Chain, Node, node_of, IsConflictOf, IsSameSet, AgreesWith, Changed, changed_plan, changed_sets, with_one}
use Rattle.mapf_tree.proofs.ConstraintSets.{IsWith, IsWith-cons}

-- the last change is made last
pub changed_plan-push : (plan : List (List ℕ)) (xs : List Changed) (x : Changed) → changed_plan plan (xs ++ x ∷ []) ≡ set (changed_plan plan xs) x.agent x.path
changed_plan-push plan [] x = refl
changed_plan-push plan (y ∷ xs) x = changed_plan-push (set plan y.agent y.path) xs x

pub changed_sets-push : (sets : List (List Constraint)) (xs : List Changed) (x : Changed) → changed_sets sets (xs ++ x ∷ []) ≡ set (changed_sets sets xs) x.agent (x.constraint ∷ get_or (changed_sets sets xs) x.agent [])
changed_sets-push sets [] x = refl
changed_sets-push sets (y ∷ xs) x = changed_sets-push (set sets y.agent (y.constraint ∷ get_or sets y.agent [])) xs x

-- no change adds an agent
pub length-changed_plan : (plan : List (List ℕ)) (xs : List Changed) → length (changed_plan plan xs) ≡ length plan
length-changed_plan plan [] = refl
length-changed_plan plan (x ∷ xs) = length-changed_plan (set plan x.agent x.path) xs ∙ length-set plan x.agent x.path

pub length-changed_sets : (sets : List (List Constraint)) (xs : List Changed) → length (changed_sets sets xs) ≡ length sets
length-changed_sets sets [] = refl
length-changed_sets sets (x ∷ xs) = length-changed_sets (set sets x.agent (x.constraint ∷ get_or sets x.agent [])) xs ∙ length-set sets x.agent _

-- one more of a list's front
pub taken_more : {X : Type 0} (xs : List X) (k : ℕ) (x : X) → slice_get xs k ≡ Some x → take (k + 1) xs ≡ take k xs ++ x ∷ []
taken_more xs k x is = take_more xs k x (slice_get_within xs k x is) ∙ ap (λ y. take k xs ++ y ∷ []) (get_or_from_slice_get xs k x x is)

-- what holds of each element holds of this one
pub all_at : {X : Type 0} (P : X → Type 0) (xs : List X) (k : ℕ) (x : X) → slice_get xs k ≡ Some x → All P xs → P x
all_at P xs k x is all = subst P (get_or_from_slice_get xs k x x is) (all k x (slice_get_within xs k x is))

-- clones by what they show append what the others show
pub map-clones : {X Y : Type 0} (f : X → Y) (old new more : List X) → AppendsClones (λ x y. f y ≡ f x) old new more → map f new ≡ map f old ++ map f more
map-clones f old new more (ys, is, same) = ap (map f) is ∙ map-append f old ys ∙ ap (λ l. map f old ++ l) (shown more ys same)
  where
    shown : (xs ys : List _) → AllZip (λ x y. f y ≡ f x) xs ys → map f ys ≡ map f xs
    shown [] [] same = refl
    shown [] (y ∷ ys) same = absurd same
    shown (x ∷ xs) [] same = absurd same
    shown (x ∷ xs) (y ∷ ys) same = ap₂ (λ z zs. z ∷ zs) same.0 (shown xs ys same.1)

-- an agent's path after one change more
pub path_more : (plan : List (List ℕ)) (xs : List Changed) (x : Changed) (agent : ℕ) (old new : List ℕ) → agent < length plan → old ≡ path_of (changed_plan plan xs) agent →
    (x.agent ≡ agent → new ≡ x.path) → (x.agent ≢ agent → new ≡ old) → new ≡ path_of (changed_plan plan (xs ++ x ∷ [])) agent
path_more plan xs x agent old new inside is own other =
    subst (λ p. new ≡ path_of p agent) (sym (changed_plan-push plan xs x))
    (set_cases (λ q. new ≡ q) (changed_plan plan xs) x.agent agent x.path [] (subst (λ n. agent < n) (sym (length-changed_plan plan xs)) inside) own (λ n. other n ∙ is))

-- an agent's constraints after one change more
pub sets_more : (sets : List (List Constraint)) (xs : List Changed) (x : Changed) (agent : ℕ) (old new : List Constraint) → agent < length sets →
    IsSameSet old (get_or (changed_sets sets xs) agent []) → (x.agent ≡ agent → IsWith x.constraint old new) → (x.agent ≢ agent → new ≡ old) →
    IsSameSet new (get_or (changed_sets sets (xs ++ x ∷ [])) agent [])
sets_more sets xs x agent old new inside is own other =
    let now = changed_sets sets xs in
    let within = subst (λ n. agent < n) (sym (length-changed_sets sets xs)) inside in
    subst (λ l. IsSameSet new (get_or l agent [])) (sym (changed_sets-push sets xs x))
    (set_cases (IsSameSet new) now x.agent agent (x.constraint ∷ get_or now x.agent []) [] within
    (λ e. IsWith-cons x.constraint (get_or now x.agent []) old new (subst (λ a. IsSameSet old (get_or now a [])) (sym e) is) (own e))
    (λ n. subst (λ s. IsSameSet s (get_or now agent [])) (sym (other n)) is))

module _ (name : List Side) (chain : Chain) (conflict : Option Conflict) (node : Node) (is : node_of name chain conflict ≡ node) where
  -- an agent of a node is one of the root
  pub at_root : (agent : ℕ) (chain' : Chain) → chain' ≡ chain → agent < length node.plan → agent < length chain'.root
  at_root agent chain' e inside =
      omega (arith, subst (λ (n : Node). agent < length n.plan) (sym is) inside, length-changed_plan chain.root chain.changes, ap (λ (l : Chain). length l.root) e)

  -- and it has as many
  pub agents_of_root : (chain' : Chain) → chain' ≡ chain → length chain'.root ≡ length node.plan
  agents_of_root chain' e =
      ap (λ (l : Chain). length l.root) e ∙ sym (length-changed_plan chain.root chain.changes) ∙ ap (λ (n : Node). length n.plan) is

  -- and so are those of its changes
  pub all_at_root : (chain' : Chain) → chain' ≡ chain → All (λ x. x.agent < length (changed_plan chain.root chain.changes)) chain.changes → All (λ x. x.agent < length chain'.root) chain'.changes
  all_at_root chain' e all =
      subst (λ (l : Chain). All (λ x. x.agent < length l.root) l.changes) (sym e)
      (subst (λ n. All (λ x. x.agent < n) chain.changes) (length-changed_plan chain.root chain.changes) all)

  -- a node's constraints are those of its changes
  pub sets_of_changes : node.constraints ≡ changed_sets (replicate (length node.plan) []) node.changes
  sets_of_changes =
      sym (ap (λ (n : Node). n.constraints) is) ∙ ap (λ n. changed_sets (replicate n []) chain.changes) (sym (length-changed_plan chain.root chain.changes))
      ∙ ap (λ (n : Node). changed_sets (replicate (length n.plan) []) n.changes) is

  -- the last change's path is its agent's
  pub last_at : (agent n : ℕ) (x : Changed) (chain' : Chain) → chain' ≡ chain → slice_get chain'.changes n ≡ Some x → length chain'.changes ≡ n + 1 → x.agent ≡ agent → agent < length node.plan → x.path ≡ path_of node.plan agent
  last_at agent n x chain' e at last own inside =
      let ps = changed_plan chain'.root (take n chain'.changes) in
      let same : node.plan ≡ set ps x.agent x.path =
      sym (ap (λ (n : Node). n.plan) is)
      ∙ ap (λ (l : Chain). changed_plan l.root l.changes) (sym e)
      ∙ ap (changed_plan chain'.root) (sym (take_all (n + 1) chain'.changes (omega arith)) ∙ taken_more chain'.changes n x at)
      ∙ changed_plan-push chain'.root (take n chain'.changes) x in
      sym (ap (λ l. path_of l agent) same ∙ subst (λ a. path_of (set ps a x.path) agent ≡ x.path) (sym own)
      (get_or-set_same ps agent x.path [] (omega (arith, at_root agent chain' e inside, length-changed_plan chain'.root (take n chain'.changes)))))

  -- an agent's constraints, as they are gathered from the changes
  pub sets_at : (agent : ℕ) (set : List Constraint) (chain' : Chain) → chain' ≡ chain → agent < length node.plan →
      ((agents : ℕ) → agent < agents → (x : Constraint) → Contains set x ↔ Contains (get_or (changed_sets (replicate agents []) chain'.changes) agent []) x) →
      (x : Constraint) → Contains set x ↔ Contains (get_or node.constraints agent []) x
  sets_at agent set chain' e inside gathered x =
      subst (λ (n : Node). Contains set x ↔ Contains (get_or n.constraints agent []) x) is
      (subst (λ (l : Chain). Contains set x ↔ Contains (get_or (changed_sets (replicate (length chain.root) []) l.changes) agent []) x) e
      (gathered (length chain.root) (at_root agent chain refl inside) x))

  module _ (x : Changed) (chain' : Chain) (e : chain' ≡ with_one chain x) where
    -- with one change more the plan has another path for its agent
    pub plan_turned : changed_plan chain'.root chain'.changes ≡ set node.plan x.agent x.path
    plan_turned =
        ap (λ (l : Chain). changed_plan l.root l.changes) e ∙ changed_plan-push chain.root chain.changes x ∙ ap (λ (n : Node). set n.plan x.agent x.path) is

    -- and the agent one constraint more
    pub sets_turned : changed_sets (replicate (length chain'.root) []) chain'.changes ≡ set node.constraints x.agent (x.constraint ∷ get_or node.constraints x.agent [])
    sets_turned =
        ap (λ (l : Chain). changed_sets (replicate (length l.root) []) l.changes) e ∙ changed_sets-push (replicate (length chain.root) []) chain.changes x
        ∙ ap (λ (n : Node). set n.constraints x.agent (x.constraint ∷ get_or n.constraints x.agent [])) is

    -- what is always so of a node is so of the one after it
    pub agrees_turned : (sum turns sum' turns' : ℕ) (name' : List Side) (s : Side) (conflict' : Option Conflict) → AgreesWith sum turns (node_of name chain conflict) → x.agent < length node.plan →
        sum' ≡ plan_cost (set node.plan x.agent x.path) → turns' ≡ length node.name + 1 → name' ≡ node.name ++ s ∷ [] → IsConflictOf node.rule (set node.plan x.agent x.path) conflict' →
        AgreesWith sum' turns' (node_of name' chain' conflict')
    agrees_turned sum turns sum' turns' name' s conflict' agrees inside costs deep named first = record {
      cost = costs ∙ ap plan_cost (sym plan_turned);
      depth = deep ∙ sym (ap length named ∙ length_push node.name s);
      conflict = subst₂ (λ r plan. IsConflictOf r plan conflict') (sym (ap (λ (l : Chain). l.rule) e ∙ ap (λ (n : Node). n.rule) is)) (sym plan_turned) first;
      turned = ap (λ (l : Chain). length l.changes) e ∙ length_push chain.changes x ∙ ap (λ n. n + 1) (agrees.turned ∙ ap (λ (n : Node). length n.name) is) ∙ sym (ap length named ∙ length_push node.name s);
      agents = subst (λ n. All (λ y. y.agent < n) chain'.changes) (sym many) (subst (All (λ y. y.agent < length node.plan)) (sym (ap (λ (l : Chain). l.changes) e)) (All-push (λ y. y.agent < length node.plan) chain.changes x old inside));
    }
      where
        many : length (changed_plan chain'.root chain'.changes) ≡ length node.plan
        many = ap length plan_turned ∙ length-set node.plan x.agent x.path

        old : All (λ y. y.agent < length node.plan) chain.changes
        old = subst (λ (n : Node). All (λ y. y.agent < length n.plan) chain.changes) is agrees.agents
