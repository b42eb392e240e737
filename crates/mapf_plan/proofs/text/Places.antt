-- Lines of positions, read from the left, and their cells.
use Rattle.std.proofs.Common.{◌≡◌, ℕ, zero, suc, ◌+◌, ◌<◌, ◌≤◌, eqb, List, [], ◌∷◌, ◌++◌, length, refl, sym, ap, ◌∙◌, subst, append_assoc, arith, ◌⊎◌, inl, inr, Some, get_or, length-append}
use Rattle.std.specs.Prelude.{slice_get, count_by, decimal}
use Rattle.std.proofs.lemmas.Fmt.{decimal_injective}
use Rattle.mapf_grid.specs.Grid.{Grid}
use Rattle.std.proofs.lemmas.Option.{get_or_from_slice_get}
use Rattle.std.proofs.lemmas.Bool.{cases_lt}
use Rattle.mapf_plan.specs.declared.text.fault.TextFault.{TextFault}
use Rattle.mapf_plan.specs.declared.text.fault.TextFault.TheVariants.{Line, NoMemory}
use Rattle.std.specs.List.{AllZip}
use Rattle.std.proofs.lemmas.List.Splits.{slice_split_at, slice_split_none, length-slice_split}
use Rattle.mapf_plan.specs.ReadText.{IsPlace, IsLine, IsInside, IsCellAt, words_of}
use Rattle.mapf_plan.proofs.text.Cuts.{Lacks, Lacks-decimal, cut_is_one, eqb-refl}
use Rattle.mapf_plan.specs.declared.plan.path.TheConstants.{MOST_CELLS}

-- one more pair
pub AllZip-push : {A B : Type 0} (R : A → B → Type 0) (xs : List A) (ys : List B) (x : A) (y : B) → AllZip R xs ys → R x y → AllZip R (xs ++ x ∷ []) (ys ++ y ∷ [])
AllZip-push R [] [] x y zip here = (here, tt)
AllZip-push R [] (b ∷ ys) x y zip here = absurd zip
AllZip-push R (a ∷ xs) [] x y zip here = absurd zip
AllZip-push R (a ∷ xs) (b ∷ ys) x y zip here = (zip.0, AllZip-push R xs ys x y zip.1 here)

-- the two lists are equally long
pub AllZip-length : {A B : Type 0} (R : A → B → Type 0) (xs : List A) (ys : List B) → AllZip R xs ys → length xs ≡ length ys
AllZip-length R [] [] zip = refl
AllZip-length R [] (b ∷ ys) zip = absurd zip
AllZip-length R (a ∷ xs) [] zip = absurd zip
AllZip-length R (a ∷ xs) (b ∷ ys) zip = omega (arith, AllZip-length R xs ys zip.1)

-- a partner of the element behind a front
pub AllZip-partner : {A B : Type 0} (R : A → B → Type 0) (xs : List A) (x : A) (rest : List A) (ys : List B) → AllZip R (xs ++ x ∷ rest) ys → (y : B) × R x y
AllZip-partner R [] x rest [] zip = absurd zip
AllZip-partner R [] x rest (y ∷ ys) zip = (y, zip.0)
AllZip-partner R (a ∷ xs) x rest [] zip = absurd zip
AllZip-partner R (a ∷ xs) x rest (y ∷ ys) zip = AllZip-partner R xs x rest ys zip.1

-- a line is read up to a rest: the words before it are these positions
pub record ReadsTo (line rest : List ℕ) (places : List (ℕ × ℕ)) : Type 0 where
  pub done : List (List ℕ)
  pub cut : words_of line ≡ done ++ words_of rest
  pub each : AllZip IsPlace done places

-- the words of what has a space in it
pub words_of-cut : (word after : List ℕ) → Lacks 32 word → words_of (word ++ 32 ∷ after) ≡ word ∷ words_of after
words_of-cut word after lacks = slice_split_at (λ b. eqb b 32) word 32 after lacks (eqb-refl 32)

pub ReadsTo-more : (line rest word after : List ℕ) (places : List (ℕ × ℕ)) (place : ℕ × ℕ) → ReadsTo line rest places
    → rest ≡ word ++ 32 ∷ after → Lacks 32 word → IsPlace word place → ReadsTo line after (places ++ place ∷ [])
ReadsTo-more line rest word after places place reads is lacks here = record {
  done = reads.done ++ word ∷ [];
  cut = reads.cut ∙ ap (λ l. reads.done ++ words_of l) is ∙ ap (λ l. reads.done ++ l) (words_of-cut word after lacks) ∙ sym (append_assoc reads.done (word ∷ []) (words_of after));
  each = AllZip-push IsPlace reads.done places word place reads.each here;
}

-- the last word
pub ReadsTo-end : (line rest : List ℕ) (places : List (ℕ × ℕ)) (place : ℕ × ℕ) → ReadsTo line rest places
    → Lacks 32 rest → IsPlace rest place → AllZip IsPlace (words_of line) (places ++ place ∷ [])
ReadsTo-end line rest places place reads lacks here =
    let P : List (List ℕ) → Type 0 = λ words. AllZip IsPlace words (places ++ place ∷ []) in
    subst P (sym (reads.cut ∙ ap (λ l. reads.done ++ l) (slice_split_none (λ b. eqb b 32) rest lacks)))
    (AllZip-push IsPlace reads.done places rest place reads.each here)

-- where as many positions as a line may have are read, and there is a further word, the line isn't one
pub ReadsTo-full : (line rest : List ℕ) (places : List (ℕ × ℕ)) → ReadsTo line rest places → MOST_CELLS ≤ length places
    → (others : List (ℕ × ℕ)) → ¬ IsLine line others
ReadsTo-full line rest places reads full others = λ is.
    let some : length (words_of rest) ≡ count_by (λ b. eqb b 32) rest + 1 = length-slice_split (λ b. eqb b 32) rest in
    let all : length (words_of line) ≡ length reads.done + length (words_of rest) = ap length reads.cut ∙ length-append reads.done (words_of rest) in
    omega (arith, some, all, AllZip-length IsPlace (words_of line) others is.1, AllZip-length IsPlace reads.done places reads.each, is.0)

-- where the next word is no position, the line isn't one
pub ReadsTo-stuck : (line rest word : List ℕ) (more : List (List ℕ)) (places : List (ℕ × ℕ)) → ReadsTo line rest places → words_of rest ≡ word ∷ more
    → ((place : ℕ × ℕ) → ¬ IsPlace word place) → (others : List (ℕ × ℕ)) → ¬ IsLine line others
ReadsTo-stuck line rest word more places reads next none others = λ is.
    let P : List (List ℕ) → Type 0 = λ words. AllZip IsPlace words others in
    let partner = AllZip-partner IsPlace reads.done word more others (subst P (reads.cut ∙ ap (λ l. reads.done ++ l) next) is.1) in
    none partner.0 partner.1

-- why a word isn't taken is why the line isn't one
pub ReadsTo-fault : (line rest word : List ℕ) (more : List (List ℕ)) (places : List (ℕ × ℕ)) (number : ℕ) (fault : TextFault)
    → ReadsTo line rest places → words_of rest ≡ word ∷ more
    → ((fault ≡ NoMemory) ⊎ ((fault ≡ Line number) × ((MOST_CELLS ≤ length places) ⊎ ((place : ℕ × ℕ) → ¬ IsPlace word place))))
    → (fault ≡ NoMemory) ⊎ ((fault ≡ Line number) × ((others : List (ℕ × ℕ)) → ¬ IsLine line others))
ReadsTo-fault line rest word more places number fault reads next (inl memory) = inl memory
ReadsTo-fault line rest word more places number fault reads next (inr (is, inl full)) = inr (is, ReadsTo-full line rest places reads full)
ReadsTo-fault line rest word more places number fault reads next (inr (is, inr none)) = inr (is, ReadsTo-stuck line rest word more places reads next none)

-- what holds of each position below i, and of the one at i
pub below_next : (P : ℕ × ℕ → Type 0) (places : List (ℕ × ℕ)) (i : ℕ) (d : ℕ × ℕ) → ((k : ℕ) (place : ℕ × ℕ) → k < i → slice_get places k ≡ Some place → P place)
    → P (get_or places i d) → (k : ℕ) (place : ℕ × ℕ) → k < i + 1 → slice_get places k ≡ Some place → P place
below_next P places i d below here k place within is =
    elim (cases_lt k i) [
      | inl less ↦ below k place less is
      | inr more ↦ let same : k ≡ i = omega arith in
          subst P (get_or_from_slice_get places i place d (ap (slice_get places) (sym same) ∙ is)) here
    ]

-- a line has at least one position
pub IsLine-some : (line : List ℕ) (places : List (ℕ × ℕ)) → IsLine line places → 0 < length places
IsLine-some line places is = omega (arith, length-slice_split (λ b. eqb b 32) line, AllZip-length IsPlace (words_of line) places is.1)

-- a pair at a place of the first list, whatever stands behind it
pub AllZip-at : {A B : Type 0} (R : A → B → Type 0) (xs more : List A) (ys : List B) (i : ℕ) → AllZip R xs ys → i < length xs
    → (x : A) × (y : B) × (slice_get (xs ++ more) i ≡ Some x) × R x y
AllZip-at R [] more ys i zip within = absurd (omega arith)
AllZip-at R (x ∷ xs) more [] i zip within = absurd zip
AllZip-at R (x ∷ xs) more (y ∷ ys) zero zip within = (x, y, refl, zip.0)
AllZip-at R (x ∷ xs) more (y ∷ ys) (suc i) zip within = AllZip-at R xs more ys i zip.1 (omega arith)

-- what stands behind a front
pub slice_get-behind : {A : Type 0} (xs more : List A) → slice_get (xs ++ more) (length xs) ≡ slice_get more 0
slice_get-behind [] more = refl
slice_get-behind (x ∷ xs) more = slice_get-behind xs more

-- each place of a path's line is on the map
pub places_inside : (g : Grid) (places : List (ℕ × ℕ)) (path : List ℕ) (i : ℕ) (place : ℕ × ℕ) → AllZip (IsCellAt g) places path → slice_get places i ≡ Some place → IsInside g place
places_inside g [] path i place zip is = cc
places_inside g (p ∷ ps) [] i place zip is = absurd zip
places_inside g (p ∷ ps) (c ∷ cs) zero place zip is =
    let same : p ≡ place = cc in subst (IsInside g) same zip.0.0
places_inside g (p ∷ ps) (c ∷ cs) (suc i) place zip is = places_inside g ps cs i place zip.1 is

-- a word spells one place
pub place_is_one : (word : List ℕ) (p q : ℕ × ℕ) → IsPlace word p → IsPlace word q → p ≡ q
place_is_one word (a, b) (c, d) is other =
    let cut = cut_is_one 44 (decimal a) (decimal b) (decimal c) (decimal d) (Lacks-decimal 44 a (omega (arith, is.0)) (omega arith))
    (Lacks-decimal 44 c (omega (arith, other.0)) (omega arith)) (sym is.2 ∙ other.2) in
    let column : a ≡ c = decimal_injective a c (omega (arith, is.0)) (omega (arith, other.0)) cut.0 in
    let row : b ≡ d = decimal_injective b d (omega (arith, is.1)) (omega (arith, other.1)) cut.1 in
    cc

places_are_one : (words : List (List ℕ)) (ps qs : List (ℕ × ℕ)) → AllZip IsPlace words ps → AllZip IsPlace words qs → ps ≡ qs
places_are_one [] [] [] zip other = refl
places_are_one [] [] (q ∷ qs) zip other = absurd other
places_are_one [] (p ∷ ps) qs zip other = absurd zip
places_are_one (w ∷ ws) [] qs zip other = absurd zip
places_are_one (w ∷ ws) (p ∷ ps) [] zip other = absurd other
places_are_one (w ∷ ws) (p ∷ ps) (q ∷ qs) zip other =
    let here = place_is_one w p q zip.0 other.0 in let rest = places_are_one ws ps qs zip.1 other.1 in cc

-- a line spells one list of places
pub line_is_one : (line : List ℕ) (ps qs : List (ℕ × ℕ)) → IsLine line ps → IsLine line qs → ps ≡ qs
line_is_one line ps qs is other = places_are_one (words_of line) ps qs is.1 other.1
