-- What is said to answer a problem, by which answer is wanted.
use Rattle.mapf_plan.specs.declared.answer.Answer.{Answer}
use Rattle.mapf_tree.specs.Problem.{Problem}
use Rattle.mapf_tree.specs.Answered.{IsAnswerOf}
use Rattle.mapf_optimum.specs.AnyAnswer.{IsAnyAnswer}
use Rattle.mapf_solve.specs.declared.wanted.Wanted.{Wanted}
use Rattle.mapf_solve.specs.declared.wanted.Wanted.TheVariants.{FirstSolution, AnyOptimum}

abbrev pub IsWanted : Wanted → Problem → Answer → Type 0
IsWanted FirstSolution = IsAnswerOf
IsWanted AnyOptimum = IsAnyAnswer
