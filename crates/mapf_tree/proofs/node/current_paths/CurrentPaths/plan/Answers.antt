use Rattle.mapf_tree.proofs.Prelude.{◌≡◌, ◌<◌, [], ◌∷◌, ◌++◌, length, map, subst, sym, ap, ◌∙◌, arith, length-map, get_or-map, slice_get_read}
use Rattle.mapf_tree.proofs.node.Chains.{taken_more}
use Rattle.mapf_tree.proofs.node.current_paths.CurrentPaths.plan.Goals as goal

pub loop-path-preserved : goal.loop-path-preserved
loop-path-preserved c =
    let paths = c.deref-path-items.result.now in
    let i = c.loop-path.path-index in
    let path = c.in_ok-copy.field-0 in
    let inside : i < length paths = omega arith in (
      subst (λ xs. c.push_reserved.new.self.items ≡ xs)
          (sym (taken_more (map (λ p. p.now) paths) i path
          (slice_get_read (map (λ p. p.now) paths) (length paths) i path (sym (length-map paths (λ p. p.now))) inside
          (c.in_ok-copy.ensures ∙ ap (λ p. p.now) c.path-item.is ∙ sym (get_or-map (λ p. p.now) paths i c.path-item.result path inside)))))
          (c.push_reserved.ensures.items ∙ ap (λ l. l ++ path ∷ []) c.loop-path.invariant.0),
      omega (arith, c.push_reserved.ensures.len, c.loop-path.invariant.1),
      omega (arith, c.push_reserved.ensures.capacity, c.loop-path.invariant.2),
    )
