-- The constraints that a tree can have are so many at most.
use Rattle.mapf_tree.proofs.Prelude.{◌≡◌, ◌≢◌, ℕ, zero, suc, ◌≤◌, ◌+◌, ◌*◌, List, [], ◌∷◌, ◌++◌, map, length, true, refl, ap, ap₂, ◌∙◌, arith, length-append, Contains, length-map, Contains-append_left, Contains-append_right, slice_get_within, below, Contains-below, Contains-map, Contains-flat_map}
use Rattle.mapf_tree.specs.Prelude.{flat_map, Grid, IsFree, Next, Constraint, HoldsGrid}
use Rattle.mapf_low.specs.declared.constraint.Constraint.TheVariants.{Vertex, Edge}
use Rattle.mapf_low.specs.Times.{time_of}

-- every constraint on these cells and edges at times up to b
at_time : List ℕ → List (ℕ × ℕ) → ℕ → List Constraint
at_time cells edges t = map (λ c. Vertex c t) cells ++ map (λ e. Edge e.0 e.1 t) edges

-- and at all of these times
pub universe : List ℕ → List (ℕ × ℕ) → ℕ → List Constraint
universe cells edges b = flat_map (λ t. at_time cells edges t) (below (b + 1))

-- on a free cell or an edge of the grid, and at a time up to b
abbrev pub Fits : Grid → ℕ → Constraint → Type 0
Fits g b (Vertex c t) = IsFree g c × (t ≤ b)
Fits g b (Edge u v t) = Next g u v × (u ≢ v) × (t ≤ b)

-- a constraint that fits is one of them
pub Contains-universe : (g : Grid) (cells : List ℕ) (edges : List (ℕ × ℕ)) (b : ℕ) → HoldsGrid g cells edges → (c : Constraint) → Fits g b c → Contains (universe cells edges b) c
unfolding universe at_time
Contains-universe g cells edges b all (Vertex c t) h =
    Contains-flat_map (λ t. at_time cells edges t) (below (b + 1)) t (Vertex c t) (Contains-below (b + 1) t (omega (arith, h.1)))
    (Contains-append_left (map (λ c. Vertex c t) cells) _ (Vertex c t) (Contains-map (λ c. Vertex c t) cells c (all.all_cells c h.0)))
Contains-universe g cells edges b all (Edge u v t) h =
    Contains-flat_map (λ t. at_time cells edges t) (below (b + 1)) t (Edge u v t) (Contains-below (b + 1) t (omega (arith, h.2)))
    (Contains-append_right (map (λ c. Vertex c t) cells) _ (Edge u v t)
    (Contains-map (λ e. Edge e.0 e.1 t) edges (u, v) (all.all_edges u v h.0 h.1)))

-- lists of one length put together
length-flat_map : {X Y : Type 0} (f : X → List Y) (n : ℕ) → ((x : X) → length (f x) ≡ n) → (xs : List X) → length (flat_map f xs) ≡ length xs * n
length-flat_map f n h [] = omega arith
length-flat_map f n h (x ∷ xs) = omega (arith, length-append (f x) (flat_map f xs), h x, length-flat_map f n h xs)

-- there are n numbers below n
length-below : (n : ℕ) → length (below n) ≡ n
length-below zero = refl
length-below (suc n) = ap suc (length-below n)

-- one for each cell and each edge
length-at_time : (cells : List ℕ) (edges : List (ℕ × ℕ)) (t : ℕ) → length (at_time cells edges t) ≡ length cells + length edges
unfolding at_time
length-at_time cells edges t =
    length-append (map (λ c. Vertex c t) cells) (map (λ e. Edge e.0 e.1 t) edges)
    ∙ ap₂ (λ a b. a + b) (length-map cells (λ c. Vertex c t)) (length-map edges (λ e. Edge e.0 e.1 t))

-- one for each time and each cell or edge
pub length-universe : (cells : List ℕ) (edges : List (ℕ × ℕ)) (b : ℕ) → length (universe cells edges b) ≡ (b + 1) * (length cells + length edges)
unfolding universe
length-universe cells edges b =
    length-flat_map (λ t. at_time cells edges t) (length cells + length edges) (length-at_time cells edges) (below (b + 1))
    ∙ ap (λ k. k * (length cells + length edges)) (length-below (b + 1))

-- what fits is at most at the bound
pub fits_early : (g : Grid) (b : ℕ) (c : Constraint) → Fits g b c → time_of c ≤ b
fits_early g b (Vertex c t) h = h.1
fits_early g b (Edge u v t) h = h.2

-- all cells
pub cells_of : Grid → List ℕ
cells_of g = below (length g.free)

-- all nodes of cells
pub edges_of : Grid → List (ℕ × ℕ)
edges_of g = flat_map (λ u. map (λ v. (u, v)) (below (length g.free))) (below (length g.free))

-- these are all that a grid has
pub holds_all : (g : Grid) → HoldsGrid g (cells_of g) (edges_of g)
unfolding cells_of edges_of
holds_all g =
    record {
      all_cells = λ c h. Contains-below (length g.free) c (slice_get_within g.free c true h);
      all_edges = λ u v h n.
          Contains-flat_map (λ u. map (λ v. (u, v)) (below (length g.free))) (below (length g.free)) u (u, v) (Contains-below (length g.free) u (slice_get_within g.free u true h.0))
          (Contains-map (λ v. (u, v)) (below (length g.free)) v (Contains-below (length g.free) v (slice_get_within g.free v true h.1)));
    }
