-- Pieces of text with a byte between each two.
use Rattle.std.proofs.Common.{◌≡◌, ℕ, ◌<◌, List, [], ◌∷◌, ◌++◌, length, map, refl, ap, ◌∙◌, append_assoc, arith}
use Rattle.std.specs.List.{join_with_byte}

-- one piece more, behind the byte where others stand before it
pub join_with_byte-more : {X : Type 0} (f : X → List ℕ) (byte : ℕ) (xs : List X) (x : X) (front : List ℕ)
    → (length xs ≡ 0 → front ≡ []) → (0 < length xs → front ≡ byte ∷ []) →
    join_with_byte byte (map f xs) ++ (front ++ f x) ≡ join_with_byte byte (map f (xs ++ x ∷ []))
join_with_byte-more f byte [] x front none some = ap (λ l. l ++ f x) (none refl)
join_with_byte-more f byte (y ∷ []) x front none some = ap (λ l. f y ++ (l ++ f x)) (some (omega arith))
join_with_byte-more f byte (y ∷ z ∷ zs) x front none some =
    append_assoc (f y) (byte ∷ join_with_byte byte (map f (z ∷ zs))) (front ++ f x)
    ∙ ap (λ l. f y ++ (byte ∷ l)) (join_with_byte-more f byte (z ∷ zs) x front (λ e. absurd (omega (arith, e))) (λ l. some (omega arith)))
