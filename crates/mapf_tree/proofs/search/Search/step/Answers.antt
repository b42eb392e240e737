use Rattle.std.proofs.Common.{◌≡◌, ℕ, Ok, Some, inr, refl, subst, ap, ◌∙◌}
use Rattle.std.specs.Option.{option_map}
use Rattle.mapf_plan.specs.declared.answer.Answer.TheVariants as answer
use Rattle.mapf_tree.specs.Prelude.{plan_cost, node_key, Searched, IsLawful, TakesOne, TakesLeast}
use Rattle.mapf_tree.proofs.high_level.Expansions.{branched_lawful, counted_more, solved_lawful, empty_lawful, given_up_lawful}
use Rattle.mapf_tree.proofs.search.Search.step.Goals as goal
use Rattle.mapf_tree.proofs.search.Search.step.Goals.{In-Some, In-Ok-Branched, In-Ok-Solved, In-Ok-Empty}

-- a turn that branched: the search goes on, with one node more taken
branched : (g : _) (c : In-Ok-Branched g) →
    IsLawful c.self.inside.problem.now c.expand_least.new.waiting (Some (node_key c.in-Ok-Branched.node)) c.self.inside.outcome
    × TakesOne c.self.inside.problem.now (option_map node_key c.self.inside.last) (Some (node_key c.in-Ok-Branched.node))
branched g c =
    branched_lawful c.self.inside.problem.now c.self.inside.waiting c.expand_least.new.waiting (option_map node_key c.self.inside.last)
    c.self.inside.outcome c.in-Ok-Branched.node c.self.invariant.0
    (ap (λ (s : Searched). s.outcome) c.self.view_is ∙ c.requires.open_yet)
    (subst (λ t. TakesLeast c.self.inside.problem.now c.self.inside.waiting c.expand_least.new.waiting t) c.in-Ok-Branched.field-0-is c.in-Ok-Branched.ensures.expanded)

-- a turn that took a solution: the search has its answer, with one node more taken
solved : (g : _) (c : In-Ok-Solved g) (stated : ℕ) → stated ≡ plan_cost c.in-Ok-Solved.plan →
    IsLawful c.self.inside.problem.now c.expand_least.new.waiting (Some (node_key c.in-Ok-Solved.node)) (Ok (Some (answer.Plan c.in-Ok-Solved.plan stated)))
    × TakesOne c.self.inside.problem.now (option_map node_key c.self.inside.last) (Some (node_key c.in-Ok-Solved.node))
solved g c stated cost =
    solved_lawful c.self.inside.problem.now c.self.inside.waiting c.expand_least.new.waiting (option_map node_key c.self.inside.last)
    c.self.inside.outcome c.self.inside.taken c.in-Ok-Solved.node c.in-Ok-Solved.plan stated c.self.invariant.0
    (ap (λ (s : Searched). s.outcome) c.self.view_is ∙ c.requires.open_yet) c.self.invariant.1 c.in_default.ensures.limit c.in_default.ensures.goes_on
    (subst (λ t. TakesLeast c.self.inside.problem.now c.self.inside.waiting c.expand_least.new.waiting t) c.in-Ok-Solved.field-0-is c.in-Ok-Solved.ensures.expanded) cost

-- a turn that found nothing: the search has its answer
empty : (g : _) (c : In-Ok-Empty g) →
    IsLawful c.self.inside.problem.now c.expand_least.new.waiting (option_map node_key c.self.inside.last) (Ok (Some (answer.None c.self.inside.problem.now.bound)))
empty g c =
    empty_lawful c.self.inside.problem.now c.self.inside.waiting c.expand_least.new.waiting (option_map node_key c.self.inside.last)
    c.self.inside.outcome c.self.inside.taken c.self.invariant.0
    (ap (λ (s : Searched). s.outcome) c.self.view_is ∙ c.requires.open_yet) c.self.invariant.1 c.in_default.ensures.limit
    (subst (λ t. TakesLeast c.self.inside.problem.now c.self.inside.waiting c.expand_least.new.waiting t) c.in-Ok-Empty.field-0-is c.in-Ok-Empty.ensures.expanded)

-- the search gives up
gave_up : (g : _) (c : In-Some g) → IsLawful c.self.inside.problem.now c.self.inside.waiting (option_map node_key c.self.inside.last) (Ok (Some c.in-Some.given))
gave_up g c =
    given_up_lawful c.self.inside.problem.now c.self.inside.waiting (option_map node_key c.self.inside.last) c.self.inside.outcome c.self.inside.taken c.in-Some.given
    c.self.invariant.0 (ap (λ (s : Searched). s.outcome) c.self.view_is ∙ c.requires.open_yet) c.self.invariant.1 c.in-Some.ensures.limit c.in-Some.ensures.goes_on

pub invariant_of-self : goal.invariant_of-self
invariant_of-self g c = (gave_up g (goal.at.invariant_of-self g c).In-Some, c.self.invariant.1)

pub returns-in-Some-clause-search : goal.returns-in-Some-clause-search
returns-in-Some-clause-search g c = gave_up g (goal.at.returns-in-Some-clause-search g c).In-Some

pub invariant_of-self-in-Ok-Branched : goal.invariant_of-self-in-Ok-Branched
invariant_of-self-in-Ok-Branched g c =
    let expanded = branched g (goal.at.invariant_of-self-in-Ok-Branched g c).In-Ok-Branched in
    let least = subst (λ t. TakesLeast c.self.inside.problem.now c.self.inside.waiting c.expand_least.new.waiting t) c.in-Ok-Branched.field-0-is c.in-Ok-Branched.ensures.expanded in (
      expanded.0,
      counted_more c.self.inside.problem.now c.self.inside.waiting c.expand_least.new.waiting (option_map node_key c.self.inside.last) (Some (node_key c.in-Ok-Branched.node)) least.0 c.self.inside.taken _
          c.self.invariant.1 c.in_default.ensures.goes_on least.1 expanded.1 c.saturating_add-self-inside.ensures,
    )

pub returns-in-Ok-Branched-clause-search : goal.returns-in-Ok-Branched-clause-search
returns-in-Ok-Branched-clause-search g c = (branched g (goal.at.returns-in-Ok-Branched-clause-search g c).In-Ok-Branched).0

pub returns-in-Ok-Branched-clause-step : goal.returns-in-Ok-Branched-clause-step
returns-in-Ok-Branched-clause-step g c = (
  ap (λ (s : Searched). s.outcome) c.self.view_is ∙ c.requires.open_yet,
  subst (λ (s : Searched). TakesOne s.problem s.last (Some (node_key c.in-Ok-Branched.node))) c.self.view_is
      (branched g (goal.at.returns-in-Ok-Branched-clause-step g c).In-Ok-Branched).1,
)

pub invariant_of-self-in-Ok-Solved : goal.invariant_of-self-in-Ok-Solved
invariant_of-self-in-Ok-Solved g c =
    let expanded = solved g (goal.at.invariant_of-self-in-Ok-Solved g c).In-Ok-Solved c.cost-stated.result c.cost-stated.ensures.cost in
    let least = subst (λ t. TakesLeast c.self.inside.problem.now c.self.inside.waiting c.expand_least.new.waiting t) c.in-Ok-Solved.field-0-is c.in-Ok-Solved.ensures.expanded in (
      expanded.0,
      counted_more c.self.inside.problem.now c.self.inside.waiting c.expand_least.new.waiting (option_map node_key c.self.inside.last) (Some (node_key c.in-Ok-Solved.node)) least.0 c.self.inside.taken _
          c.self.invariant.1 c.in_default.ensures.goes_on least.1 expanded.1 c.saturating_add-self-inside-in-Ok-Solved.ensures,
    )

pub returns-in-Ok-Solved-clause-search : goal.returns-in-Ok-Solved-clause-search
returns-in-Ok-Solved-clause-search g c = (solved g (goal.at.returns-in-Ok-Solved-clause-search g c).In-Ok-Solved c.cost-stated.result c.cost-stated.ensures.cost).0

pub returns-in-Ok-Solved-clause-step : goal.returns-in-Ok-Solved-clause-step
returns-in-Ok-Solved-clause-step g c = (
  (_, refl),
  inr (subst (λ (s : Searched). TakesOne s.problem s.last (Some (node_key c.in-Ok-Solved.node))) c.self.view_is
      (solved g (goal.at.returns-in-Ok-Solved-clause-step g c).In-Ok-Solved c.cost-stated.result c.cost-stated.ensures.cost).1),
)

pub invariant_of-self-in-Ok-Empty : goal.invariant_of-self-in-Ok-Empty
invariant_of-self-in-Ok-Empty g c = (rw c.bound-bound.ensures.bound (empty g (goal.at.invariant_of-self-in-Ok-Empty g c).In-Ok-Empty), c.self.invariant.1)

pub returns-in-Ok-Empty-clause-search : goal.returns-in-Ok-Empty-clause-search
returns-in-Ok-Empty-clause-search g c = rw c.bound-bound.ensures.bound (empty g (goal.at.returns-in-Ok-Empty-clause-search g c).In-Ok-Empty)
