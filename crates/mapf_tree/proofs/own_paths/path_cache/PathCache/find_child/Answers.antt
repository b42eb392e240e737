use Rattle.std.proofs.Common.{subst}
use Rattle.mapf_tree.specs.Prelude.{MatchOption, IfKnown, HasNoTurnAt, IsTurnAt}
use Rattle.mapf_tree.proofs.own_paths.PathCaches.{none_at}
use Rattle.mapf_tree.proofs.own_paths.path_cache.PathCache.find_child.Goals as goal

pub returns-in-Known-None-clause-child : goal.returns-in-Known-None-clause-child
returns-in-Known-None-clause-child c =
    let cache = c.args.self.now in
    let node = c.args.node.now in
    let side = c.args.side in
    none_at cache node side (subst (λ turn. MatchOption turn (HasNoTurnAt cache node side) (λ t. IsTurnAt cache node side t.0 t.1.value)) c.in-Known-None.field-0-is
    (subst (λ found. IfKnown found (λ turn. MatchOption turn (HasNoTurnAt cache node side) (λ t. IsTurnAt cache node side t.0 t.1.value))) c.in-Known-None.is c.in_ok-path.ensures))
