use Rattle.std.proofs.Common.{sym, ap, ◌∙◌, length, take}
use Rattle.std.proofs.Math.Seq.{take-append_seam}
use Rattle.std.specs.Cmp.Lexicographic.{same_text, other_text}
use Rattle.mapf_plan.proofs.text.Cuts.{front_and_rest}
use Rattle.mapf_plan.proofs.text.reader.without_front.Goals as goal

pub returns-then-starts_with : goal.returns-then-starts_with
returns-then-starts_with c = front_and_rest c.args.line.now c.args.front.now (same_text _ _ c.if-starts_with.ensures.value)

pub returns-else-starts_with : goal.returns-else-starts_with
returns-else-starts_with c = λ rest is.
    other_text _ _ c.if-starts_with.ensures.value (sym (ap (take (length c.args.front.now)) is ∙ take-append_seam c.args.front.now rest))
