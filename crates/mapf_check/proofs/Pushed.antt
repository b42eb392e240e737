-- Texts that grow piece by piece.
use Rattle.std.proofs.Common.{◌≡◌, ℕ, List, ◌++◌, append_assoc, ap, ◌∙◌}

-- two pieces, one pushed after the other, are one piece
pub pushed_two : (start a b : List ℕ) {middle end : List ℕ} → middle ≡ start ++ a → end ≡ middle ++ b → end ≡ start ++ (a ++ b)
pushed_two start a b first second = second ∙ ap (λ l. l ++ b) first ∙ append_assoc start a b
