use Rattle.std.proofs.Common.{◌++◌, subst}
use Rattle.mapf_tree.specs.Prelude.{IfKnown, IsSidePlan, Left, Right, one_or_none}
use Rattle.mapf_tree.proofs.own_paths.FreeSearches.{branched, branched_before, conflict_kept, grows_on, grows_thrice, put_both, sides_in_order, sides_turned, still_free}
use Rattle.mapf_tree.proofs.own_paths.path_cache.PathCache.branch.Goals as goal

pub conflict_at-requires : goal.conflict_at-requires
conflict_at-requires c =
    let did = c.add_rises.ensures in
    (still_free c.args.self.now c.add_rises.new.self c.args.free.now c.add_rises.new.free did.grows did.sets did.plan did.cost c.requires.free).1.plan

pub side_plan-requires-clause-free : goal.side_plan-requires-clause-free
side_plan-requires-clause-free c =
    let did = c.add_rises.ensures in
    still_free c.args.self.now c.add_rises.new.self c.args.free.now c.add_rises.new.free did.grows did.sets did.plan did.cost c.requires.free

pub side_plan-requires-2-clause-free : goal.side_plan-requires-2-clause-free
side_plan-requires-2-clause-free c =
    let did = c.add_rises.ensures in
    still_free c.args.self.now c.side_plan.new.self c.args.free.now c.add_rises.new.free (grows_on c.args.self.now c.add_rises.new.self c.side_plan.new.self did.grows c.side_plan.ensures.grows) did.sets did.plan did.cost c.requires.free

pub side_plan-requires-2-clause-conflict : goal.side_plan-requires-2-clause-conflict
side_plan-requires-2-clause-conflict c =
    let did = c.add_rises.ensures in
    conflict_kept c.add_rises.new.self c.side_plan.new.self c.add_rises.new.free c.in-Some-conflict_at.conflict c.side_plan.ensures.grows
    (still_free c.args.self.now c.add_rises.new.self c.args.free.now c.add_rises.new.free did.grows did.sets did.plan did.cost c.requires.free) c.in-Some-conflict_at.ensures

pub returns-in_err-right-clause-grows : goal.returns-in_err-right-clause-grows
returns-in_err-right-clause-grows c = grows_thrice c.args.self.now c.add_rises.new.self c.side_plan.new.self c.side_plan-2.new.self c.add_rises.ensures.grows c.side_plan.ensures.grows c.side_plan-2.ensures.grows

pub returns-in_default-3-clause-grows : goal.returns-in_default-3-clause-grows
returns-in_default-3-clause-grows c = grows_thrice c.args.self.now c.add_rises.new.self c.side_plan.new.self c.side_plan-2.new.self c.add_rises.ensures.grows c.side_plan.ensures.grows c.side_plan-2.ensures.grows

pub returns-in_err-put-clause-grows : goal.returns-in_err-put-clause-grows
returns-in_err-put-clause-grows c = grows_thrice c.args.self.now c.add_rises.new.self c.side_plan.new.self c.side_plan-2.new.self c.add_rises.ensures.grows c.side_plan.ensures.grows c.side_plan-2.ensures.grows

pub returns-in_err-put-2-clause-grows : goal.returns-in_err-put-2-clause-grows
returns-in_err-put-2-clause-grows c = grows_thrice c.args.self.now c.add_rises.new.self c.side_plan.new.self c.side_plan-2.new.self c.add_rises.ensures.grows c.side_plan.ensures.grows c.side_plan-2.ensures.grows

pub returns-in_err-put-3-clause-grows : goal.returns-in_err-put-3-clause-grows
returns-in_err-put-3-clause-grows c = grows_thrice c.args.self.now c.add_rises.new.self c.side_plan.new.self c.side_plan-2.new.self c.add_rises.ensures.grows c.side_plan.ensures.grows c.side_plan-2.ensures.grows

pub returns-in_err-put-4-clause-grows : goal.returns-in_err-put-4-clause-grows
returns-in_err-put-4-clause-grows c = grows_thrice c.args.self.now c.add_rises.new.self c.side_plan.new.self c.side_plan-2.new.self c.add_rises.ensures.grows c.side_plan.ensures.grows c.side_plan-2.ensures.grows

pub returns-in_ok-put-2-clause-grows : goal.returns-in_ok-put-2-clause-grows
returns-in_ok-put-2-clause-grows c = grows_thrice c.args.self.now c.add_rises.new.self c.side_plan.new.self c.side_plan-2.new.self c.add_rises.ensures.grows c.side_plan.ensures.grows c.side_plan-2.ensures.grows

pub returns-in_ok-put-4-clause-grows : goal.returns-in_ok-put-4-clause-grows
returns-in_ok-put-4-clause-grows c = grows_thrice c.args.self.now c.add_rises.new.self c.side_plan.new.self c.side_plan-2.new.self c.add_rises.ensures.grows c.side_plan.ensures.grows c.side_plan-2.ensures.grows

pub returns-in_ok-put-2-clause-branches : goal.returns-in_ok-put-2-clause-branches
returns-in_ok-put-2-clause-branches c _ =
    let first = c.args.self.now in
    let old = c.add_rises.new.self in
    let mid = c.side_plan.new.self in
    let new = c.side_plan-2.new.self in
    let begun = c.args.free.now in
    let free = c.add_rises.new.free in
    let waiting = c.args.waiting.now.items in
    let next = c.put-then-conflicts_in.new.waiting.items in
    let conflict = c.in-Some-conflict_at.conflict in
    let left = c.in-Known.left in
    let right = c.in-Known-2.right in
    let did = c.add_rises.ensures in
    branched_before c.args.most first old new begun free waiting next did.grows did.sets did.plan did.cost
    (branched c.args.most old mid new free conflict left right waiting next (one_or_none right ++ one_or_none left) c.side_plan.ensures.grows c.side_plan-2.ensures.grows
    (still_free first old begun free did.grows did.sets did.plan did.cost c.requires.free) c.in-Some-conflict_at.ensures
    (subst (λ found. IfKnown found (IsSidePlan mid free conflict Left c.args.most)) c.in-Known.is c.in_ok-left.ensures.side)
    (subst (λ found. IfKnown found (IsSidePlan new free conflict Right c.args.most)) c.in-Known-2.is c.in_ok-right.ensures.side)
    (put_both waiting (one_or_none right) (one_or_none left) c.put.new.waiting.items next c.in_ok-put.ensures c.in_ok-put-2.ensures) (sides_turned left right))

pub returns-in_ok-put-4-clause-branches : goal.returns-in_ok-put-4-clause-branches
returns-in_ok-put-4-clause-branches c _ =
    let first = c.args.self.now in
    let old = c.add_rises.new.self in
    let mid = c.side_plan.new.self in
    let new = c.side_plan-2.new.self in
    let begun = c.args.free.now in
    let free = c.add_rises.new.free in
    let waiting = c.args.waiting.now.items in
    let next = c.put-else-conflicts_in-2.new.waiting.items in
    let conflict = c.in-Some-conflict_at.conflict in
    let left = c.in-Known.left in
    let right = c.in-Known-2.right in
    let did = c.add_rises.ensures in
    branched_before c.args.most first old new begun free waiting next did.grows did.sets did.plan did.cost
    (branched c.args.most old mid new free conflict left right waiting next (one_or_none left ++ one_or_none right) c.side_plan.ensures.grows c.side_plan-2.ensures.grows
    (still_free first old begun free did.grows did.sets did.plan did.cost c.requires.free) c.in-Some-conflict_at.ensures
    (subst (λ found. IfKnown found (IsSidePlan mid free conflict Left c.args.most)) c.in-Known.is c.in_ok-left.ensures.side)
    (subst (λ found. IfKnown found (IsSidePlan new free conflict Right c.args.most)) c.in-Known-2.is c.in_ok-right.ensures.side)
    (put_both waiting (one_or_none left) (one_or_none right) c.put-else-conflicts_in.new.waiting.items next c.in_ok-put-3.ensures c.in_ok-put-4.ensures) (sides_in_order left right))
