use Rattle.std.proofs.Common.{◌≡◌, ◌≤◌}
use Rattle.mapf_tree.proofs.high_level.GoingOn.{GoesOn}
use Rattle.mapf_tree.proofs.search.Search.go.Given as goal

abbrev pub invariant-loop-taken : goal.invariant-loop-taken
invariant-loop-taken g l =
    GoesOn l.initial.self.problem l.initial.self.last l.self l._taken
    × g.C.Children.serves l.children l.self.problem
    × (l.initial.self.taken ≤ l.self.taken)
    × (l._taken ≡ 0 → (l.self ≡ l.initial.self) × (l.children ≡ l.initial.children))
