use Rattle.std.proofs.Common.{◌≡◌, [], length, subst, subst₂, sym, ◌∙◌, arith}
use Rattle.std.proofs.lemmas.List.{get_or_default}
use Rattle.mapf_low.specs.Forwards.Chain.{IsChain}
use Rattle.mapf_low.specs.Forwards.FLevels.{level_at, InFLevels}
use Rattle.mapf_low.specs.Reached.{AreLinked, IsReconstructed}
use Rattle.mapf_low.proofs.forwards.Chains.{chain_read}
use Rattle.mapf_low.proofs.forwards.read_path.Goals as goal

pub returns-then-is_chain : goal.returns-then-is_chain
returns-then-is_chain c =
    let query = c.args.query.now in
    let levels = c.args.searched.now.levels.items in
    let nearest = c.args.searched.now.nearest in
    let level = c.index-level.result.now in
    let one : length levels ≡ 1 = omega arith in
    let is : level ≡ level_at levels 0 = c.index-level.ensures ∙ get_or_default levels 0 level [] (omega (arith, one)) in
    let same : c.args.end ≡ nearest = omega arith in
    let chain : IsChain query.table nearest level = subst (λ s. IsChain query.table s level) same (c.is_chain.ensures.0 c.if-is_chain.true) in
    let path : c.of.result ≡ level = c.of.ensures ∙ (c.in_ok-from_slice.ensures.items ∙ c.cells.ensures.cells) in
    subst₂ (λ p e. IsReconstructed query (InFLevels query nearest levels) p 0 e) (sym path) (sym same)
    (chain_read query nearest levels level one is chain
    (subst (λ e. AreLinked query (InFLevels query nearest levels) e) same c.requires.linked)
    (subst (λ e. InFLevels query nearest levels e query.goal) same c.requires.arrived))
