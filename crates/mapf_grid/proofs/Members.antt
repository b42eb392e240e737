-- The elements of a list, by its front and its rest.
use Rattle.std.proofs.Common.{◌≡◌, ◌⊎◌, zero, suc, List, [], ◌∷◌, inl, inr, arith, Contains}

-- the empty list has no element
pub nowhere : {X : Type 0} {x : X} → Contains [] x → ⊥
nowhere c = omega (arith, c.1)

-- the front is an element
pub here : {X : Type 0} {x y : X} (xs : List X) → x ≡ y → Contains (x ∷ xs) y
here xs e = (0, omega arith, e)

-- and so is each element of the rest
pub there : {X : Type 0} {x y : X} (xs : List X) → Contains xs y → Contains (x ∷ xs) y
there xs c = (suc c.0, omega (arith, c.1), c.2)

-- and there are no others
pub here_or_there : {X : Type 0} {x y : X} (xs : List X) → Contains (x ∷ xs) y → (x ≡ y) ⊎ Contains xs y
here_or_there xs (zero, l, e) = inl e
here_or_there xs (suc k, l, e) = inr (k, omega (arith, l), e)
