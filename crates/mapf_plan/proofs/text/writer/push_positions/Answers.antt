use Rattle.std.proofs.Common.{arith, refl, ap, take, length, length-take-le, ◌≡◌, ◌+◌, ◌∷◌, [], ◌++◌, ◌∙◌, sym, append_assoc}
use Rattle.std.specs.Prelude.{string_bytes}
use Rattle.std.proofs.lemmas.List.{take_more}
use Rattle.mapf_plan.specs.Text.{position}
use Rattle.mapf_plan.proofs.text.Splits.{join_with_byte-more}
use Rattle.mapf_plan.proofs.text.writer.push_positions.Goals as goal

pub loop-cell-preserved : goal.loop-cell-preserved
loop-cell-preserved c =
    let path = c.args.path.now in let k = c.loop-cell.cell-index in let x = c.cell-item.result in
    let more : take (k + 1) path ≡ take k path ++ x ∷ [] = take_more path k x (omega arith) ∙ ap (λ y. take k path ++ y ∷ []) (sym c.cell-item.is) in
    let long : length (take k path) ≡ k = length-take-le k path (omega arith) in
    record {
      written = rw (c.in_ok-push_position.ensures.appended, c.loop-cell.invariant.written, append_assoc, more)
          (ap (λ l. string_bytes c.args.text.now ++ l) (join_with_byte-more (position c.args.map.now) 32 (take k path) x c.loop-cell.front.now
          (λ e. c.loop-cell.invariant.none (omega (arith, e, long))) (λ l. c.loop-cell.invariant.some (omega (arith, l, long)))));
      none = λ e. absurd (omega (arith, e));
      some = λ _. refl;
    }
