use Rattle.std.proofs.Common.{◌++◌}
use Rattle.std.specs.Option.{option_to_list}
use Rattle.std.proofs.lemmas.List.Sorted.{IsPermutation-trans, IsPermutation-append_right}
use Rattle.mapf_optimum.proofs.expansion.expand.Goals as goal

pub returns : goal.returns
returns c = record {
  left = c.in_ok-side.field-0;
  right = c.in_ok-side-2.field-0;
  left_side = c.in_ok-side.ensures;
  right_side = c.in_ok-side-2.ensures;
  put =
      let l = option_to_list c.in_ok-side.field-0 in
      let r = option_to_list c.in_ok-side-2.field-0 in
      IsPermutation-trans (r ++ (l ++ c.args.waiting.now)) (r ++ c.put.new.self) c.put-2.new.self (IsPermutation-append_right r (l ++ c.args.waiting.now) c.put.new.self c.in_ok-put.ensures) c.in_ok-put-2.ensures;
}
