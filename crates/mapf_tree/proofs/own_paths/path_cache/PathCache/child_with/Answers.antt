use Rattle.mapf_tree.proofs.Prelude.{◌≡◌, ◌<◌, [], length, subst, subst₂, sym, ap, ap₂, ◌∙◌, arith, length-map, slice_get_within, get_or_from_slice_get}
use Rattle.mapf_tree.specs.Prelude.{slice_set, path_of, plan_of, Changed, IsConflictOf, PathCache}
use Rattle.mapf_tree.proofs.own_paths.PathCaches.{small_at, child_at}
use Rattle.mapf_tree.proofs.own_paths.path_cache.PathCache.child_with.Goals as goal

pub cost_at-old-requires-clause-agent : goal.cost_at-old-requires-clause-agent
cost_at-old-requires-clause-agent c =
    subst (λ (x : Changed). x.agent < length c.args.node.now.plan) (sym (c.behind-change.view_is ∙ c.deref.ensures)) (small_at c.args.self.now c.args.node.now c.args.side c.args.path c.args.change.value c.requires.node c.requires.turn).0

pub first_conflict_of_changed-requires-clause-agent : goal.first_conflict_of_changed-requires-clause-agent
first_conflict_of_changed-requires-clause-agent c =
    let inside = (small_at c.args.self.now c.args.node.now c.args.side c.args.path c.args.change.value c.requires.node c.requires.turn).0 in
    omega (arith, inside, ap (λ (x : Changed). x.agent) (c.behind-change.view_is ∙ c.deref.ensures), ap length c.requires.at.same, length-map c.args.at.now.plan.numbers.items (λ n. path_of c.args.self.now.paths n))

pub with_change-requires-clause-agent : goal.with_change-requires-clause-agent
with_change-requires-clause-agent c = (small_at c.args.self.now c.args.node.now c.args.side c.args.path c.args.change.value c.requires.node c.requires.turn).0

pub with_change-requires-clause-conflict : goal.with_change-requires-clause-conflict
with_change-requires-clause-conflict c =
    let node = c.args.node.now in
    let change = c.args.change.value in
    let agent = c.behind-change.inside.agent in
    let paths = c.self.inside.paths in
    let numbers = c.args.at.now.plan.numbers.items in
    let rule : paths.rule ≡ node.rule = c.self.invariant.2 ∙ ap (λ (b : PathCache). b.problem.rule) c.self.view_is ∙ sym c.requires.node.stands.rule in
    let front : plan_of paths.paths numbers ≡ node.plan = ap (λ (b : PathCache). plan_of b.paths numbers) c.self.view_is ∙ c.requires.at.same in
    let path : path_of paths.paths c.args.path ≡ change.path =
    ap (λ (b : PathCache). path_of b.paths c.args.path) c.self.view_is ∙ get_or_from_slice_get c.args.self.now.paths c.args.path change.path [] c.requires.turn.4 in
    let plan : slice_set (plan_of paths.paths numbers) agent (path_of paths.paths c.args.path) ≡ slice_set node.plan change.agent change.path =
    ap₂ (λ l p. slice_set l agent p) front path ∙ ap (λ (x : Changed). slice_set node.plan x.agent change.path) (c.behind-change.view_is ∙ c.deref.ensures) in
    subst₂ (λ r l. IsConflictOf r l c.in_ok-conflict.conflict) rule plan c.in_ok-conflict.ensures.conflict

pub returns-clause-child : goal.returns-clause-child
returns-clause-child c =
    let e = c.in_ok-child.ensures in
    child_at c.args.self.now c.args.node.now c.in_ok-child.child c.args.side c.args.path c.args.change.value c.requires.turn e.name e.changes e.constraints e.plan e.rule e.conflict

pub first_conflict_of_changed-requires-clause-number : goal.first_conflict_of_changed-requires-clause-number
first_conflict_of_changed-requires-clause-number c = subst (λ (b : PathCache). c.args.path < length b.paths) (sym c.self.view_is) (slice_get_within c.args.self.now.paths c.args.path _ c.requires.turn.4)
