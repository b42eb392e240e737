use Rattle.std.proofs.Common.{arith}
use Rattle.std.proofs.lemmas.Grind.{common_steps}
use Rattle.mapf_plan.proofs.device.Known.{Appends-front}
use Rattle.mapf_plan.proofs.device.whole.write_whole.Goals as goal

pub loop-taken-preserved : goal.loop-taken-preserved
loop-taken-preserved g c = record {
  within = omega (arith, c.in-Ok.ensures.bound);
  counted = grind (arith, common_steps, c.in-Ok.ensures.counted);
  appended = Appends-front _ _ _ _ _ _ (omega arith) c.loop-taken.invariant.appended c.in-Ok.ensures.bytes;
}
