use Rattle.std.proofs.Common.{◌≡◌, map, Ordering, Less, Equal, Greater, nat_cmp, refl, sym, ap, ap₂, ◌∙◌}
use Rattle.mapf_tree.specs.Prelude.{ordering_then, slice_cmp, turn}
use Rattle.mapf_tree.proofs.tree.NameOrder.{name_order, compared_turns}
use Rattle.mapf_tree.proofs.tree.name.NameOrd.cmp.Goals as goal

decided : (t s : Ordering) → (t ≡ Equal → ⊥) → t ≡ ordering_then t s
decided Less s h = refl
decided Equal s h = absurd (h refl)
decided Greater s h = refl

-- the second decides where the first doesn't
second : (o p : Ordering) → o ≡ Equal → p ≡ ordering_then o p
second o p equal = ap (λ q. ordering_then q p) (sym equal)

pub returns-in-Equal-cmp : goal.returns-in-Equal-cmp
returns-in-Equal-cmp c =
    c.cmp-in-Equal-cmp.ensures ∙ compared_turns _ refl refl refl refl c.as_slice.result.now c.as_slice-in-Equal-cmp.result.now
    ∙ ap₂ (λ xs ys. slice_cmp nat_cmp (map turn xs) (map turn ys)) c.as_slice.ensures c.as_slice-in-Equal-cmp.ensures
    ∙ ap (λ t. ordering_then t (slice_cmp nat_cmp (map turn c.self.inside.suffix) (map turn c.other.inside.suffix))) (sym c.in-Equal-cmp.is)
    ∙ name_order (second c.cmp.result c.cmp-in-Equal.result c.in-Equal.is) c.cmp.ensures c.cmp-in-Equal.ensures c.self.invariant c.other.invariant c.self.view_is c.other.view_is

pub returns-in_default-cmp : goal.returns-in_default-cmp
returns-in_default-cmp c =
    decided c.cmp-in-Equal.result (slice_cmp nat_cmp (map turn c.self.inside.suffix) (map turn c.other.inside.suffix)) c.in_default-cmp.not-Equal
    ∙ name_order (second c.cmp.result c.cmp-in-Equal.result c.in-Equal.is) c.cmp.ensures c.cmp-in-Equal.ensures c.self.invariant c.other.invariant c.self.view_is c.other.view_is

pub returns-in_default : goal.returns-in_default
returns-in_default c =
    decided c.cmp.result (slice_cmp nat_cmp (map turn c.self.inside.suffix) (map turn c.other.inside.suffix)) c.in_default.not-Equal
    ∙ name_order (decided c.cmp.result (nat_cmp c.self.inside.few c.other.inside.few) c.in_default.not-Equal) c.cmp.ensures refl c.self.invariant c.other.invariant c.self.view_is c.other.view_is
