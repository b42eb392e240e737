-- A job for each agent, and what the answers to them are.
use Rattle.std.proofs.Common.{◌≡◌, ℕ, zero, suc, ◌+◌, ◌<◌, List, [], ◌∷◌, ◌++◌, length, get_or, map, Option, Some, None, Result, Ok, Err, IfOk, Contains, MatchOption, refl, sym, ap, ◌∙◌, subst, arith}
use Rattle.std.specs.List.{AllZip, range_with_len}
use Rattle.std.proofs.lemmas.List.{get_or-map, length-map, map-id}
use Rattle.std.proofs.lemmas.List.FromFn.{length-map-range_with_len, map-range_with_len_more}
use Rattle.mapf_grid.specs.Instance.{Instance}
use Rattle.mapf_plan.specs.Plan.{path_of}
use Rattle.mapf_tree.specs.Problem.{Problem, HasDistances}
use Rattle.mapf_tree.specs.Tree.{IsAllowedFor}
use Rattle.mapf_tree.specs.Family.{IsRoot, IsOwn, AreRootPaths}
use Rattle.mapf_tree.proofs.RootNodes.{free_at_root}
use Rattle.mapf_solve.specs.Rounds.{WantedPath, WantedTable, FitsPath, FitsGoal, wanted_path, wanted_table, AreOfAgents, AreOfGoals}

-- there are as many jobs as agents
pub as_many : {J : Type 0} (asked : ℕ → J) (n : ℕ) (jobs : List J) → jobs ≡ map asked (range_with_len 0 n) → length jobs ≡ n
as_many asked n jobs is = ap length is ∙ length-map-range_with_len asked 0 n

-- one job more
pub jobs_more : {J : Type 0} (asked : ℕ → J) (n : ℕ) (old new : List J) (job : J) → job ≡ asked n → new ≡ old ++ job ∷ [] → old ≡ map asked (range_with_len 0 n) → new ≡ map asked (range_with_len 0 (n + 1))
jobs_more asked n old new job is e all =
    e ∙ ap (λ j. old ++ j ∷ []) is ∙ ap (λ l. l ++ asked n ∷ []) all ∙ sym (map-range_with_len_more asked 0 n n (omega arith))

module _ {J B : Type 0} (R : J → B → Type 0) (asked : ℕ → J) (d : B) where
  -- one answer before those to the jobs of later agents
  one_before : (a n : ℕ) (y : B) (answers : List B) → R (asked a) y → (length answers ≡ n) × ((i : ℕ) → i < n → R (asked (a + 1 + i)) (get_or answers i d)) → (length (y ∷ answers) ≡ suc n) × ((i : ℕ) → i < suc n → R (asked (a + i)) (get_or (y ∷ answers) i d))
  one_before a n y answers one later = (ap suc later.0, each)
    where
      each : (i : ℕ) → i < suc n → R (asked (a + i)) (get_or (y ∷ answers) i d)
      each zero h = let same : a ≡ a + 0 = omega arith in subst (λ k. R (asked k) y) same one
      each (suc i) h = let same : a + 1 + i ≡ a + suc i = omega arith in subst (λ k. R (asked k) (get_or answers i d)) same (later.1 i (omega (arith, h)))

  -- the answers to the jobs of n agents from agent a on
  answered : (a n : ℕ) (answers : List B) → AllZip R (map asked (range_with_len a n)) answers → (length answers ≡ n) × ((i : ℕ) → i < n → R (asked (a + i)) (get_or answers i d))
  answered a zero [] all = (refl, λ i h. absurd (omega (arith, h)))
  answered a zero (y ∷ answers) all = absurd all
  answered a (suc n) [] all = absurd all
  answered a (suc n) (y ∷ answers) all = one_before a n y answers all.0 (answered (a + 1) n answers all.1)

  -- the answers to a job for each agent
  pub answered_each : (n : ℕ) (jobs : List J) (answers : List B) → jobs ≡ map asked (range_with_len 0 n) → AllZip R (map (λ j. j) jobs) answers → (length answers ≡ n) × ((i : ℕ) → i < n → R (asked i) (get_or answers i d))
  answered_each n jobs answers is all =
      let each = answered 0 n answers (subst (λ l. AllZip R l answers) (map-id jobs ∙ is) all) in
      (each.0, λ i h. let same : 0 + i ≡ i = omega arith in subst (λ k. R (asked k) (get_or answers i d)) same (each.1 i h))

-- the tables that answer a job for each agent's goal are those of the goals
pub goal_tables : (inst : Instance) (jobs : List WantedTable) (tables : List (List (Option ℕ))) → AreOfGoals inst jobs → AllZip FitsGoal (map (λ j. j) jobs) tables → HasDistances inst tables
goal_tables inst jobs tables are all =
    let each = answered_each FitsGoal (wanted_table inst) [] (length inst.starts) jobs tables are all in record { each = each.0; shortest = each.1 }

module _ (p : Problem) (first : ℕ) (jobs : List WantedPath) (found : List (Option (List ℕ))) (are : AreOfAgents p first jobs) (all : AllZip FitsPath (map (λ j. j) jobs) found) where
  each : (length found ≡ length p.inst.starts) × ((i : ℕ) → i < length p.inst.starts → IsOwn p i [] (get_or found i None))
  each = answered_each FitsPath (wanted_path p first) None (length p.inst.starts) jobs found are all

  -- where each agent has a path, those are the root's
  root_paths : (paths : List (List ℕ)) → found ≡ map Some paths → AreRootPaths p paths
  root_paths paths is = record {
    each = sym (length-map paths Some) ∙ sym (ap length is) ∙ each.0;
    own = λ i h. subst (IsOwn p i []) (ap (λ l. get_or l i None) is ∙ get_or-map Some paths i [] None (omega (arith, h, each.0, ap length is, length-map paths Some))) (each.1 i h);
  }

  -- where one has none, there is no root
  no_root : Contains found None → IsRoot p None
  no_root (i, low, is) plan has =
      let h : i < length p.inst.starts = omega (arith, low, each.0) in
      let none : IsOwn p i [] None = subst (IsOwn p i []) is (each.1 i h) in
      none (path_of plan i) (subst (λ cs. IsAllowedFor p i cs (path_of plan i)) (free_at_root p i h) (has.own i h).member)

  -- so what is found of all is what a root is made of
  pub found_paths : {V E : Type 0} (all_of : V → List (List ℕ)) (r : Result (Option V) E) → IfOk r (λ paths. MatchOption paths (Contains found None) (λ v. found ≡ map Some (all_of v))) → IfOk r (λ paths. MatchOption paths (IsRoot p None) (λ v. AreRootPaths p (all_of v)))
  found_paths all_of (Ok (Some paths)) is = root_paths (all_of paths) is
  found_paths all_of (Ok None) is = no_root is
  found_paths all_of (Err e) is = tt
