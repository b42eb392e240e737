use Rattle.mapf_plan.proofs.text.OneText.{text_is_one}
use Rattle.mapf_plan.proofs.laws.one_text.Goals as goal

pub returns : goal.returns
returns c = text_is_one
