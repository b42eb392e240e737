use Rattle.std.proofs.Common.{List, [], ◌∷◌, ◌++◌, ap, subst, ◌∙◌}
use Rattle.mapf_tree.proofs.Prelude.{IfOk-weaker}
use Rattle.mapf_tree.specs.Prelude.{IfSome, IsFreeUnder, AreObeyed, IsObeyed, PlannedNode, StandsFor}
use Rattle.mapf_tree.specs.declared.own_paths.path_cache.free_plans.FreePlan.{FreePlan}
use Rattle.mapf_tree.proofs.own_paths.FreeSearches.{obeyed_by_plan}
use Rattle.mapf_tree.proofs.own_paths.path_cache.PathCache.obeyed_within.Goals as goal

pub returns-clause-obeyed : goal.returns-clause-obeyed
returns-clause-obeyed c =
    let cache = c.free_plan.new.self in
    let node = c.args.node.now in
    let free = c.in-Some.free in
    let waiting = c.push.new.self.items in
    let under = subst (λ found. IfSome found (λ f. (m : PlannedNode) → StandsFor cache.problem node m → IsFreeUnder cache m.0 f)) c.in-Some.is c.in_ok-free.ensures.plan in
    let one = c.in_ok-push.ensures.items ∙ ap (λ (xs : List FreePlan). xs ++ free ∷ []) c.new-waiting.ensures.items in
    IfOk-weaker c.search.result (λ v. AreObeyed cache waiting c.args.most v) (λ v. IsObeyed c.args.self.now.problem node c.args.most v)
    (λ v is. subst (λ p. IsObeyed p node c.args.most v) c.free_plan.ensures.problem (obeyed_by_plan cache node free waiting c.args.most v under one is)) c.search.ensures.obeyed
