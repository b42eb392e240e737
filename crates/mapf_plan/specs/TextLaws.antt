-- The one text of an answer: no text begins another, and no text is the text of two answers.
use Rattle.std.specs.Prelude.{◌≡◌, ℕ, List, ◌++◌}
use Rattle.mapf_grid.specs.Grid.{Grid, HasSizes}
use Rattle.mapf_plan.specs.ReadText.{IsTextOf}
use Rattle.mapf_plan.specs.declared.answer.Answer.{Answer}

-- where two texts on one map, whatever stands behind each, are the same bytes, they are texts of the same answer
abbrev pub TextIsOne : Type 0
TextIsOne = (g : Grid) (a b : Answer) (a_text b_text xs ys : List ℕ) → HasSizes g → IsTextOf g a_text a → IsTextOf g b_text b
    → a_text ++ xs ≡ b_text ++ ys → a ≡ b
