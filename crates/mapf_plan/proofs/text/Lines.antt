-- The lines of the agents, read from the top, and the text that they are.
use Rattle.std.proofs.Common.{◌≡◌, ℕ, ◌/◌, ◌%◌, ◌<◌, ◌≤◌, List, [], ◌∷◌, ◌++◌, length, map, refl, sym, ap, ◌∙◌, append_assoc, append-nil, arith}
use Rattle.std.specs.List.{flat_map, join_with_byte, AllByRecursion, AllZip}
use Rattle.std.proofs.lemmas.List.Concat.{flat_map-append}
use Rattle.std.proofs.lemmas.List.Splits.{join_with_byte-slice_split}
use Rattle.std.proofs.lemmas.Nat.{div-mul-add, mod-mul-add, mul-add-lt}
use Rattle.mapf_grid.specs.Grid.{Grid, cells}
use Rattle.mapf_plan.specs.Text.{position, line}
use Rattle.mapf_plan.specs.ReadText.{IsPlace, IsCellAt, IsPathLine, IsFirstLine, AreLinesOf, ReadsLines, words_of}
use Rattle.mapf_plan.proofs.text.Cuts.{Lacks}
use Rattle.mapf_plan.proofs.text.Places.{AllZip-push, AllZip-length, IsLine-some}
use Rattle.mapf_plan.specs.declared.plan.path.TheConstants.{MOST_CELLS}

-- a word that is a place is the position of the place's cell
place_spelled : (g : Grid) (word : List ℕ) (place : ℕ × ℕ) (cell : ℕ) → IsPlace word place → IsCellAt g place cell → word ≡ position g cell
place_spelled g word place cell is at =
    let column : cell % g.width ≡ place.0 = ap (λ n. n % g.width) at.1 ∙ mod-mul-add place.1 g.width place.0 at.0.0 in
    let row : cell / g.width ≡ place.1 = ap (λ n. n / g.width) at.1 ∙ div-mul-add place.1 g.width place.0 at.0.0 in
    rw (column, row) is.2

words_spelled : (g : Grid) (words : List (List ℕ)) (places : List (ℕ × ℕ)) (path : List ℕ) → AllZip IsPlace words places → AllZip (IsCellAt g) places path
    → words ≡ map (position g) path
words_spelled g [] [] [] zip at = refl
words_spelled g [] [] (c ∷ cs) zip at = absurd at
words_spelled g [] (p ∷ ps) path zip at = absurd zip
words_spelled g (w ∷ ws) [] path zip at = absurd zip
words_spelled g (w ∷ ws) (p ∷ ps) [] zip at = absurd at
words_spelled g (w ∷ ws) (p ∷ ps) (c ∷ cs) zip at =
    let first = place_spelled g w p c zip.0 at.0 in let rest = words_spelled g ws ps cs zip.1 at.1 in cc

-- a path's line is the one that is written for it
pub line_spelled : (g : Grid) (text path : List ℕ) → IsPathLine g text path → text ++ 10 ∷ [] ≡ line g path
line_spelled g text path is =
    let words = words_spelled g (words_of text) is.0 path is.1.1 is.2 in
    ap (λ l. l ++ 10 ∷ []) (sym (join_with_byte-slice_split 32 text) ∙ ap (join_with_byte 32) words)

cells_inside : (g : Grid) (places : List (ℕ × ℕ)) (path : List ℕ) → AllZip (IsCellAt g) places path → AllByRecursion (λ c. c < cells g) path
cells_inside g [] [] at = tt
cells_inside g [] (c ∷ cs) at = absurd at
cells_inside g (p ∷ ps) [] at = absurd at
cells_inside g (p ∷ ps) (c ∷ cs) at =
    (omega (arith, mul-add-lt p.1 g.width p.0 g.height at.0.0.1 at.0.0.0, at.0.1), cells_inside g ps cs at.1)

pub ReadsLines-start : (g : Grid) (bytes : List ℕ) → ReadsLines g bytes bytes []
ReadsLines-start g bytes = record { done = []; cut = refl; apart = tt; each = tt }

all_push : {X : Type 0} (P : X → Type 0) (xs : List X) (x : X) → AllByRecursion P xs → P x → AllByRecursion P (xs ++ x ∷ [])
all_push P [] x all here = (here, tt)
all_push P (y ∷ ys) x all here = (all.0, all_push P ys x all.1 here)

pub ReadsLines-more : (g : Grid) (bytes rest text after path : List ℕ) (paths : List (List ℕ)) → ReadsLines g bytes rest paths
    → IsFirstLine rest text after → IsPathLine g text path → ReadsLines g bytes after (paths ++ path ∷ [])
ReadsLines-more g bytes rest text after path paths reads first here =
    let one_more : flat_map (λ l. l ++ 10 ∷ []) (reads.done ++ text ∷ []) ++ after ≡ flat_map (λ l. l ++ 10 ∷ []) reads.done ++ (text ++ 10 ∷ after) =
    rw flat_map-append (simp (append_assoc, append-nil)) in record {
      done = reads.done ++ text ∷ [];
      cut = reads.cut ∙ ap (λ l. flat_map (λ k. k ++ 10 ∷ []) reads.done ++ l) first.0 ∙ sym one_more;
      apart = all_push (Lacks 10) reads.done text reads.apart first.1;
      each = AllZip-push (IsPathLine g) reads.done paths text path reads.each here;
    }

-- what was read is the text that is written
pub lines_spelled : (g : Grid) (texts paths : List (List ℕ)) → AllZip (IsPathLine g) texts paths → flat_map (λ l. l ++ 10 ∷ []) texts ≡ flat_map (line g) paths
lines_spelled g [] [] zip = refl
lines_spelled g [] (p ∷ ps) zip = absurd zip
lines_spelled g (t ∷ ts) [] zip = absurd zip
lines_spelled g (t ∷ ts) (p ∷ ps) zip =
    let first = line_spelled g t p zip.0 in let rest = lines_spelled g ts ps zip.1 in cc

-- each path has the sizes of a path, and its cells are on the map
pub paths_fit : (g : Grid) (texts paths : List (List ℕ)) → AllZip (IsPathLine g) texts paths
    → AllByRecursion (λ path. (0 < length path) × (length path ≤ MOST_CELLS)) paths × AllByRecursion (AllByRecursion (λ c. c < cells g)) paths
paths_fit g [] [] zip = (tt, tt)
paths_fit g [] (p ∷ ps) zip = absurd zip
paths_fit g (t ∷ ts) [] zip = absurd zip
paths_fit g (t ∷ ts) (p ∷ ps) zip =
    let rest = paths_fit g ts ps zip.1 in
    let long = AllZip-length (IsCellAt g) zip.0.0 p zip.0.2 in
    (((omega (arith, long, IsLine-some t zip.0.0 zip.0.1), omega (arith, long, zip.0.1.0)), rest.0), (cells_inside g zip.0.0 p zip.0.2, rest.1))

-- the lines are read to their end
pub ReadsLines-end : (g : Grid) (bytes rest : List ℕ) (paths : List (List ℕ)) → ReadsLines g bytes rest paths → rest ≡ [] → AreLinesOf g bytes paths
ReadsLines-end g bytes rest paths reads ends =
    let fit = paths_fit g reads.done paths reads.each in record {
      sizes = fit.0;
      inside = fit.1;
      spelled = reads.cut ∙ ap (λ l. flat_map (λ k. k ++ 10 ∷ []) reads.done ++ l) ends ∙ append-nil (flat_map (λ k. k ++ 10 ∷ []) reads.done) ∙ lines_spelled g reads.done paths reads.each;
    }
