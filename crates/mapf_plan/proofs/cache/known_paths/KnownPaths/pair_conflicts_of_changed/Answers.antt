use Rattle.std.proofs.Common.{◌≢◌, ◌<◌, ℕ, subst, arith, Contains}
use Rattle.std.specs.Prelude.{slice_index, length}
use Rattle.mapf_plan.specs.declared.pair_conflicts.PairConflict.{PairConflict}
use Rattle.mapf_plan.specs.KnownPaths.{KnownPaths, AreMet}
use Rattle.mapf_plan.proofs.cache.PathTimes.{changed_met}
use Rattle.mapf_plan.proofs.cache.known_paths.KnownPaths.pair_conflicts_of_changed.Goals as goal

pub returns-clause-conflicts : goal.returns-clause-conflicts
returns-clause-conflicts c =
    let self = c.args.self.now in let agent = c.args.changed in let numbers = c.args.plan.now.numbers.items in let ms = c.add_pair_conflicts.new.conflicts.items in
    let left = c.in_ok-conflicts.conflicts.items in
    let without : (m : PairConflict) → Contains c.args.plan.now.conflicts.items m → m.first ≢ agent → m.second ≢ agent → Contains left m =
    subst (λ old. (m : PairConflict) → Contains old m → m.first ≢ agent → m.second ≢ agent → Contains left m) c.deref.ensures.value c.in_ok-conflicts.ensures in
    let met : (k : ℕ) → k < length numbers → k ≢ agent → AreMet self agent c.args.number k (slice_index numbers k) ms =
    subst (λ ns. (k : ℕ) → k < length ns → k ≢ agent → AreMet self agent c.args.number k (slice_index ns k) ms) c.deref-2.ensures.value
    (subst (λ (s : KnownPaths). (k : ℕ) → k < length c.deref-2.result.now → k ≢ agent → AreMet s agent c.args.number k (slice_index c.deref-2.result.now k) ms) c.self.view_is
    (λ k l n. c.in_ok-add_pair_conflicts.ensures.pairs k (omega arith) l n)) in
    changed_met self numbers agent c.args.number c.args.plan.now.conflicts.items left ms c.requires.agent c.requires.plan.meet without c.in_ok-add_pair_conflicts.ensures.keeps met
