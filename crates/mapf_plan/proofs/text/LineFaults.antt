-- Why bytes don't begin with the line of a path.
use Rattle.std.proofs.Common.{◌≡◌, ℕ, ◌⊎◌, inl, inr, List, refl, sym, ◌∙◌, subst}
use Rattle.mapf_grid.specs.Grid.{Grid}
use Rattle.mapf_plan.specs.ReadText.{IsLine, IsFirstLine, IsFirstOutside, IsLineFault}
use Rattle.mapf_plan.specs.declared.text.fault.TextFault.{TextFault}
use Rattle.mapf_plan.specs.declared.text.fault.TextFault.TheVariants.{Line, Outside, NoMemory}
use Rattle.mapf_plan.proofs.text.Cuts.{Lacks, Lacks-cut, cut_is_one}

-- there is no LF
pub no_line : (g : Grid) (bytes : List ℕ) (k : ℕ) → Lacks 10 bytes → IsLineFault g bytes k (Line k)
no_line g bytes k lacks = (refl, λ line rest places first is. Lacks-cut 10 line rest (subst (Lacks 10) first.0 lacks))

-- the first line has no places
pub no_places : (g : Grid) (bytes line rest : List ℕ) (k : ℕ) (fault : TextFault) → IsFirstLine bytes line rest
    → (fault ≡ NoMemory) ⊎ ((fault ≡ Line k) × ((places : List (ℕ × ℕ)) → ¬ IsLine line places)) → IsLineFault g bytes k fault
no_places g bytes line rest k fault first (inl memory) = rw memory tt
no_places g bytes line rest k fault first (inr why) =
    rw why.0 (
      refl,
      λ other after places begins is.
          let same = cut_is_one 10 other after line rest begins.1 first.1 (sym begins.0 ∙ first.0) in
          let P : List ℕ → Type 0 = λ l. IsLine l places in
          why.1 places (subst P same.0 is),
    )

-- a place of the first line is outside
pub place_outside : (g : Grid) (bytes line rest : List ℕ) (places : List (ℕ × ℕ)) (k : ℕ) (fault : TextFault) → IsFirstLine bytes line rest → IsLine line places
    → (fault ≡ NoMemory) ⊎ ((at : ℕ) × (fault ≡ Outside k at) × IsFirstOutside g places at) → IsLineFault g bytes k fault
place_outside g bytes line rest places k fault first is (inl memory) = rw memory tt
place_outside g bytes line rest places k fault first is (inr why) = rw why.1 (refl, (line, rest, places, first, is, why.2))
