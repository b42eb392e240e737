-- What the first line of a text says.
use Rattle.std.specs.Prelude.{ℕ, List}
use Rattle.mapf_plan.specs.ReadText.{IsPlanHead, IsNoneHead, IsGaveUpHead}
use Rattle.mapf_plan.specs.declared.text.reader.Head.{Head}
use Rattle.mapf_plan.specs.declared.text.reader.Head.TheVariants as head

abbrev pub IsHead : List ℕ → Head → Type 0
IsHead line (head.Plan agents cost) = IsPlanHead line agents cost
IsHead line (head.None bound) = IsNoneHead line bound
IsHead line (head.GaveUp nodes least) = IsGaveUpHead line nodes least
