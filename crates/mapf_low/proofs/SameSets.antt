-- Two lists of constraints that agree constraint by constraint are one.
use Rattle.std.proofs.Common.{◌≡◌, Bool, true, false, ◌&&◌, ◌==◌, List, [], ◌∷◌, ℕ, refl, ap, ap₂, sym, ◌∙◌, ⊎_elim}
use Rattle.std.proofs.lemmas.Bool.Decides.{eqb_tells}
use lib.Pointwise.{pointwise}
use Rattle.mapf_low.specs.declared.constraint.Constraint.{Constraint}
use Rattle.mapf_low.specs.declared.constraint.Constraint.TheVariants.{Vertex, Edge}

-- both of two facts
both : (a b : Bool) → (a && b) ≡ true → (a ≡ true) × (b ≡ true)
both true b h = (refl, h)
both false b h = cc

-- equal numbers
same_number : (a b : ℕ) → (a == b) ≡ true → a ≡ b
same_number a b h = ⊎_elim (λ k. k.1) (λ k. let no : false ≡ true = sym k.0 ∙ h in cc) (eqb_tells a b)

-- a test of constraints that compares their parts
pub record ComparesParts (E : Constraint → Constraint → Bool) : Type 0 where
  pub vertices : (c d t u : ℕ) → E (Vertex c t) (Vertex d u) ≡ ((c == d) && (t == u))
  pub edges : (c d v w t u : ℕ) → E (Edge c v t) (Edge d w u) ≡ ((c == d) && ((v == w) && (t == u)))
  pub vertex_edge : (c d w t u : ℕ) → E (Vertex c t) (Edge d w u) ≡ false
  pub edge_vertex : (c v d t u : ℕ) → E (Edge c v t) (Vertex d u) ≡ false

module _ (E : Constraint → Constraint → Bool) (parts : ComparesParts E) where
  same_constraint : (a b : Constraint) → E a b ≡ true → a ≡ b
  same_constraint (Vertex c t) (Vertex d u) h =
      let k = both (c == d) (t == u) (sym (parts.vertices c d t u) ∙ h) in ap₂ (λ x y. Vertex x y) (same_number c d k.0) (same_number t u k.1)
  same_constraint (Edge c v t) (Edge d w u) h =
      let k = both (c == d) ((v == w) && (t == u)) (sym (parts.edges c d v w t u) ∙ h) in
      let l = both (v == w) (t == u) k.1 in
      ap (λ x. Edge x v t) (same_number c d k.0) ∙ ap₂ (λ x y. Edge d x y) (same_number v w l.0) (same_number t u l.1)
  same_constraint (Vertex c t) (Edge d w u) h = let no : false ≡ true = sym (parts.vertex_edge c d w t u) ∙ h in cc
  same_constraint (Edge c v t) (Vertex d u) h = let no : false ≡ true = sym (parts.edge_vertex c v d t u) ∙ h in cc

  pub same_lists : (xs ys : List Constraint) → pointwise E xs ys ≡ true → xs ≡ ys
  same_lists [] [] h = refl
  same_lists [] (y ∷ ys) h = cc
  same_lists (x ∷ xs) [] h = cc
  same_lists (x ∷ xs) (y ∷ ys) h = let k = both (E x y) (pointwise E xs ys) h in ap₂ (λ a l. a ∷ l) (same_constraint x y k.0) (same_lists xs ys k.1)
