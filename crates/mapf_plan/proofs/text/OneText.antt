-- No text begins another, and no text is the text of two answers.
use Rattle.std.proofs.Common.{◌≡◌, ℕ, ◌<◌, ◌≤◌, List, [], ◌∷◌, ◌++◌, length, get_or, refl, sym, ap, ◌∙◌, subst, append_assoc, arith}
use Rattle.std.specs.Prelude.{codes, decimal}
use Rattle.std.specs.List.{flat_map, AllByRecursion}
use Rattle.std.proofs.lemmas.List.{append_cancel_left}
use Rattle.std.proofs.lemmas.Fmt.{decimal_injective}
use Rattle.mapf_grid.specs.Grid.{Grid, HasSizes, cells}
use Rattle.mapf_plan.specs.declared.answer.TheConstants.{MOST_STATED}
use Rattle.mapf_plan.specs.declared.plan.path.TheConstants.{MOST_CELLS}
use Rattle.mapf_plan.specs.Text.{line, text, CanWrite}
use Rattle.mapf_plan.specs.ReadText as read
use Rattle.mapf_plan.specs.ReadText.{IsPathLine, IsTextOf}
use Rattle.mapf_plan.specs.TextLaws.{TextIsOne}
use Rattle.mapf_plan.specs.declared.answer.Answer.{Answer}
use Rattle.mapf_plan.specs.declared.answer.Answer.TheVariants as answer
use Rattle.mapf_plan.proofs.text.Cuts.{Lacks-decimal, cut_is_one}
use Rattle.mapf_plan.proofs.text.Written.{written, Lacks-written, path_line, path_is_one}

-- each path has the sizes of a path
abbrev pub AreSized : List (List ℕ) → Type 0
AreSized plan = AllByRecursion (λ path. (0 < length path) × (length path ≤ MOST_CELLS)) plan

-- each cell is on the map
abbrev pub AreInside : Grid → List (List ℕ) → Type 0
AreInside g plan = AllByRecursion (AllByRecursion (λ c. c < cells g)) plan

-- a number before a byte that is no digit is one
number_is_one : (byte m n : ℕ) (xs ys : List ℕ) → byte < 48 → m ≤ MOST_STATED → n ≤ MOST_STATED
    → decimal m ++ byte ∷ xs ≡ decimal n ++ byte ∷ ys → (m ≡ n) × (xs ≡ ys)
number_is_one byte m n xs ys below m_small n_small same =
    let cut = cut_is_one byte (decimal m) xs (decimal n) ys (Lacks-decimal byte m m_small below) (Lacks-decimal byte n n_small below) same in
    (decimal_injective m n (omega arith) (omega arith) cut.0, cut.1)

-- lines of as many paths that begin alike are of the same paths
plan_is_one : (g : Grid) (plan other : List (List ℕ)) (xs ys : List ℕ) → HasSizes g → AreSized plan → AreInside g plan → AreSized other → AreInside g other
    → length plan ≡ length other → flat_map (line g) plan ++ xs ≡ flat_map (line g) other ++ ys → plan ≡ other
plan_is_one g [] [] xs ys sizes sized inside other_sized other_inside as_many same = refl
plan_is_one g [] (q ∷ qs) xs ys sizes sized inside other_sized other_inside as_many same = absurd (omega arith)
plan_is_one g (p ∷ ps) [] xs ys sizes sized inside other_sized other_inside as_many same = absurd (omega arith)
plan_is_one g (p ∷ ps) (q ∷ qs) xs ys sizes sized inside other_sized other_inside as_many same =
    let left : flat_map (line g) (p ∷ ps) ++ xs ≡ written g sizes p ++ 10 ∷ (flat_map (line g) ps ++ xs) = simp append_assoc in
    let right : flat_map (line g) (q ∷ qs) ++ ys ≡ written g sizes q ++ 10 ∷ (flat_map (line g) qs ++ ys) = simp append_assoc in
    let cut = cut_is_one 10 (written g sizes p) (flat_map (line g) ps ++ xs) (written g sizes q) (flat_map (line g) qs ++ ys)
    (Lacks-written g sizes p inside.0) (Lacks-written g sizes q other_inside.0) (sym left ∙ same ∙ right) in
    let P : List ℕ → Type 0 = λ l. IsPathLine g l q in
    let here : p ≡ q = path_is_one g sizes (written g sizes p) p q (path_line g sizes p sized.0 inside.0) (subst P (sym cut.0) (path_line g sizes q other_sized.0 other_inside.0)) in
    let rest : ps ≡ qs = plan_is_one g ps qs xs ys sizes sized.1 inside.1 other_sized.1 other_inside.1 (omega arith) cut.1 in
    cc

answer_is_one : (g : Grid) (a b : Answer) (xs ys : List ℕ) → HasSizes g → read.IsWithinLimits a → CanWrite g a → read.IsWithinLimits b → CanWrite g b
    → text g a ++ xs ≡ text g b ++ ys → a ≡ b
answer_is_one g (answer.Plan plan stated) (answer.Plan other cost) xs ys sizes a_sizes a_can b_sizes b_can same =
    let left : text g (answer.Plan plan stated) ++ xs ≡ codes "plan " ++ (decimal (length plan) ++ 32 ∷ (decimal stated ++ 10 ∷ (flat_map (line g) plan ++ xs))) = simp append_assoc in
    let right : text g (answer.Plan other cost) ++ ys ≡ codes "plan " ++ (decimal (length other) ++ 32 ∷ (decimal cost ++ 10 ∷ (flat_map (line g) other ++ ys))) = simp append_assoc in
    let behind = append_cancel_left (codes "plan ") _ _ (sym left ∙ same ∙ right) in
    let agents = number_is_one 32 (length plan) (length other) _ _ (omega arith) (omega (arith, a_sizes.1)) (omega (arith, b_sizes.1)) behind in
    let costs = number_is_one 10 stated cost _ _ (omega arith) a_can.0 b_can.0 agents.1 in
    let paths : plan ≡ other = plan_is_one g plan other xs ys sizes a_sizes.2 a_can.1 b_sizes.2 b_can.1 agents.0 costs.1 in
    let stateds : stated ≡ cost = costs.0 in
    cc
answer_is_one g (answer.Plan plan stated) (answer.None bound) xs ys sizes a_sizes a_can b_sizes b_can same =
    let byte : ◌≡◌ {A = ℕ} 112 110 = ap (λ l. get_or l 0 0) same in absurd (omega arith)
answer_is_one g (answer.None bound) (answer.Plan plan stated) xs ys sizes a_sizes a_can b_sizes b_can same =
    let byte : ◌≡◌ {A = ℕ} 110 112 = ap (λ l. get_or l 0 0) same in absurd (omega arith)
answer_is_one g (answer.Plan plan stated) (answer.GaveUp nodes least) xs ys sizes a_sizes a_can b_sizes b_can same =
    let byte : ◌≡◌ {A = ℕ} 112 103 = ap (λ l. get_or l 0 0) same in absurd (omega arith)
answer_is_one g (answer.None bound) (answer.GaveUp nodes least) xs ys sizes a_sizes a_can b_sizes b_can same =
    let byte : ◌≡◌ {A = ℕ} 110 103 = ap (λ l. get_or l 0 0) same in absurd (omega arith)
answer_is_one g (answer.GaveUp nodes least) (answer.Plan plan stated) xs ys sizes a_sizes a_can b_sizes b_can same =
    let byte : ◌≡◌ {A = ℕ} 103 112 = ap (λ l. get_or l 0 0) same in absurd (omega arith)
answer_is_one g (answer.GaveUp nodes least) (answer.None bound) xs ys sizes a_sizes a_can b_sizes b_can same =
    let byte : ◌≡◌ {A = ℕ} 103 110 = ap (λ l. get_or l 0 0) same in absurd (omega arith)
answer_is_one g (answer.GaveUp nodes least) (answer.GaveUp others cost) xs ys sizes a_sizes a_can b_sizes b_can same =
    let left : text g (answer.GaveUp nodes least) ++ xs ≡ codes "gave up " ++ (decimal nodes ++ 32 ∷ (decimal least ++ 10 ∷ xs)) = simp append_assoc in
    let right : text g (answer.GaveUp others cost) ++ ys ≡ codes "gave up " ++ (decimal others ++ 32 ∷ (decimal cost ++ 10 ∷ ys)) = simp append_assoc in
    let behind = append_cancel_left (codes "gave up ") _ _ (sym left ∙ same ∙ right) in
    let counts = number_is_one 32 nodes others _ _ (omega arith) (omega (arith, a_can.1)) (omega (arith, b_can.1)) behind in
    let first : nodes ≡ others = counts.0 in
    let second : least ≡ cost = (number_is_one 10 least cost xs ys (omega arith) (omega (arith, a_can.2)) (omega (arith, b_can.2)) counts.1).0 in
    cc
answer_is_one g (answer.None bound) (answer.None other) xs ys sizes a_sizes a_can b_sizes b_can same =
    let left : text g (answer.None bound) ++ xs ≡ codes "none " ++ (decimal bound ++ 10 ∷ xs) = simp append_assoc in
    let right : text g (answer.None other) ++ ys ≡ codes "none " ++ (decimal other ++ 10 ∷ ys) = simp append_assoc in
    let behind = append_cancel_left (codes "none ") _ _ (sym left ∙ same ∙ right) in
    let bounds : bound ≡ other = (number_is_one 10 bound other xs ys (omega arith) (omega (arith, a_can)) (omega (arith, b_can)) behind).0 in
    cc

pub text_is_one : TextIsOne
text_is_one g a b a_text b_text xs ys sizes is other same =
    answer_is_one g a b xs ys sizes is.sizes is.writable other.sizes other.writable (ap (λ l. l ++ xs) (sym is.spelled) ∙ same ∙ ap (λ l. l ++ ys) other.spelled)
