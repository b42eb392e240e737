-- What is said of the bytes of a plan's file.
use Rattle.std.specs.Prelude.{◌≡◌, ℕ, List}
use Rattle.mapf_grid.specs.Asked.{IsAsked}
use Rattle.mapf_grid.specs.Instance.{Instance}
use Rattle.mapf_plan.specs.ReadText.{IsTextOf}
use Rattle.mapf_plan.specs.declared.answer.Answer.{Answer}
use Rattle.mapf_plan.specs.declared.rule.Rule.{Rule}
use Rattle.mapf_check.specs.Verdict.{IsVerdict}
use Rattle.mapf_check.specs.Wording.{verdict_line}
use Rattle.mapf_check.specs.declared.verdict.Verdict.{Verdict}

-- the verdict by this rule on the answer that the bytes spell, and its line
pub record IsJudged (rule : Rule) (inst : Instance) (plan : List ℕ) (verdict : Verdict) (line : List ℕ) : Type 0 where
  pub answer : Answer
  pub read : IsTextOf inst.grid plan answer
  pub judged : IsVerdict rule inst answer verdict
  pub worded : line ≡ verdict_line inst.grid verdict

-- the same for the instance that a map and a scenario ask for
abbrev pub AreJudged : Rule → (map scen plan : List ℕ) → ℕ → Verdict → List ℕ → Type 0
AreJudged rule map scen plan agents verdict line = (inst : Instance) × IsAsked map scen agents inst × IsJudged rule inst plan verdict line
