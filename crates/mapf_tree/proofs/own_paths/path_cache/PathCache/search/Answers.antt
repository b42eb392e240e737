use Rattle.std.proofs.Common.{subst, sym, ◌∙◌}
use Rattle.mapf_tree.specs.Prelude.{Grows}
use Rattle.mapf_tree.proofs.own_paths.FreeSearches.{free_next, free_taken, grows_on, leads_next}
use Rattle.mapf_tree.proofs.own_paths.path_cache.PathCache.search.Goals.{then-work-lt-OF_STEP-via-then-work-lt-OF_STEP, then-work-lt-OF_STEP-via-else-work-lt-OF_STEP+in_ok-branch+then-not-branch}
use Rattle.mapf_tree.proofs.own_paths.path_cache.PathCache.search.Goals as goal

pub branch-self-requires-clause-free : goal.branch-self-requires-clause-free
branch-self-requires-clause-free c = free_taken c.loop-step.self c.loop-step.waiting.items c.pop.new.self.items c.in-Some.free c.in-Some.ensures.items c.loop-step.invariant.free

pub returns-in_err-branch-clause-grows : goal.returns-in_err-branch-clause-grows
returns-in_err-branch-clause-grows c = grows_on c.args.self.now c.loop-step.self c.branch-self.new.self c.loop-step.invariant.grows c.branch-self.ensures.grows

pub returns-then-work-lt-OF_STEP-clause-grows : goal.returns-then-work-lt-OF_STEP-clause-grows
returns-then-work-lt-OF_STEP-clause-grows c =
    elim c.then-work-lt-OF_STEP.branch [
      | then-work-lt-OF_STEP-via-then-work-lt-OF_STEP w ↦ subst (λ cache. Grows c.args.self.now cache) (sym w.self-is) c.loop-step.invariant.grows
      | then-work-lt-OF_STEP-via-else-work-lt-OF_STEP+in_ok-branch+then-not-branch w ↦
          subst (λ cache. Grows c.args.self.now cache) (sym w.self-is) (grows_on c.args.self.now c.loop-step.self w.branch-self.new.self c.loop-step.invariant.grows w.branch-self.ensures.grows)
    ]

pub loop-step-preserved : goal.loop-step-preserved
loop-step-preserved c =
    let first = c.args.self.now in
    let old = c.loop-step.self in
    let new = c.branch-self.new.self in
    let all = c.loop-step.waiting.items in
    let rest = c.pop.new.self.items in
    let next = c.branch-self.new.waiting.items in
    let free = c.in-Some.free in
    let inv = c.loop-step.invariant in
    let did = c.branch-self.ensures in
    let branches = c.in_ok-branch.ensures.branches c.if-not-branch.false in record {
      tables = did.tables ∙ inv.tables;
      grows = grows_on first old new inv.grows did.grows;
      free = free_next c.args.most old new all rest next free c.in-Some.ensures.items did.grows branches inv.free;
      leads = leads_next c.args.most first old new c.args.waiting.items all rest next free c.in-Some.ensures.items inv.grows did.grows branches inv.leads;
    }
