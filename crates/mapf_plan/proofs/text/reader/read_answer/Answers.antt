use Rattle.std.proofs.Common.{ℕ, List, inl, inr, subst, rules}
use Rattle.std.proofs.lemmas.Result.{err_from_is_err_and}
use Rattle.mapf_plan.specs.Head.{IsHead}
use Rattle.mapf_plan.proofs.text.TextFaults.{head_is_first, no_line_asks, no_head_asks, plan_fault, whole_fault}
use Rattle.mapf_plan.specs.ReadText.{IsFirstLine, IsTextOf}
use Rattle.mapf_plan.specs.declared.answer.Answer.TheVariants as answer
use Rattle.mapf_plan.proofs.text.OneReading.{plan_is_read, gave_up_is_read, read_is_one, fault_is_memory, only_err}
use Rattle.mapf_plan.proofs.text.reader.read_answer.Goals as goal

pub returns-in_default-clause-fault : goal.returns-in_default-clause-fault
returns-in_default-clause-fault c = inr (head_is_first c.args.map.now c.args.bytes.now (no_line_asks c.args.bytes.now c.in_default.ensures))

pub returns-in_default-read_head-clause-fault : goal.returns-in_default-read_head-clause-fault
returns-in_default-read_head-clause-fault c =
    inr (head_is_first c.args.map.now c.args.bytes.now
    (no_head_asks c.args.bytes.now c.in-Some.line.now c.in-Some.rest.now c.in-Some.ensures c.in_default-read_head.ensures))

pub returns-in_err-plan-in-Plan-clause-fault : goal.returns-in_err-plan-in-Plan-clause-fault
returns-in_err-plan-in-Plan-clause-fault c =
    let p = err_from_is_err_and c.from_residual.result c.from_residual.ensures.1 in
    rw (p.1, p.2) (plan_fault c.args.map.now c.args.bytes.now c.in-Some.line.now c.in-Some.rest.now c.in-Plan.agents c.in-Plan.cost _ c.in-Some.ensures
    (subst (IsHead c.in-Some.line.now) c.in-Plan.is c.in-Some-read_head.ensures) c.in_err-plan-in-Plan.ensures.fault)

pub returns-in_err-expect_end-in-None-clause-fault : goal.returns-in_err-expect_end-in-None-clause-fault
returns-in_err-expect_end-in-None-clause-fault c =
    let p = err_from_is_err_and c.from_residual-in_err-expect_end-in-None.result c.from_residual-in_err-expect_end-in-None.ensures.1 in
    let found = c.in_err-expect_end-in-None.ensures in
    rw (p.1, p.2, found.1) (inr (whole_fault c.args.map.now c.args.bytes.now c.in-Some.line.now c.in-Some.rest.now c.in-Some.ensures
    (inl (c.in-None.bound, subst (IsHead c.in-Some.line.now) c.in-None.is c.in-Some-read_head.ensures)) found.0))

pub returns-in_err-expect_end-in-GaveUp-clause-fault : goal.returns-in_err-expect_end-in-GaveUp-clause-fault
returns-in_err-expect_end-in-GaveUp-clause-fault c =
    let p = err_from_is_err_and c.from_residual-in_err-expect_end-in-GaveUp.result c.from_residual-in_err-expect_end-in-GaveUp.ensures.1 in
    let found = c.in_err-expect_end-in-GaveUp.ensures in
    rw (p.1, p.2, found.1) (inr (whole_fault c.args.map.now c.args.bytes.now c.in-Some.line.now c.in-Some.rest.now c.in-Some.ensures
    (inr ((c.in-GaveUp.nodes, c.in-GaveUp.least), subst (IsHead c.in-Some.line.now) c.in-GaveUp.is c.in-Some-read_head.ensures)) found.0))

pub returns-in_default-clause-only : goal.returns-in_default-clause-only
returns-in_default-clause-only c = λ a is.
    fault_is_memory c.args.map.now c.args.bytes.now _ a c.width.ensures.sizes (returns-in_default-clause-fault c) is

pub returns-in_default-read_head-clause-only : goal.returns-in_default-read_head-clause-only
returns-in_default-read_head-clause-only c = λ a is.
    fault_is_memory c.args.map.now c.args.bytes.now _ a c.width.ensures.sizes (returns-in_default-read_head-clause-fault c) is

pub returns-in_err-plan-in-Plan-clause-only : goal.returns-in_err-plan-in-Plan-clause-only
returns-in_err-plan-in-Plan-clause-only c =
    let p = err_from_is_err_and c.from_residual.result c.from_residual.ensures.1 in
    only_err c.args.map.now c.args.bytes.now c.from_residual.result p.0 c.width.ensures.sizes p.1 (returns-in_err-plan-in-Plan-clause-fault c)

pub returns-in_err-expect_end-in-None-clause-only : goal.returns-in_err-expect_end-in-None-clause-only
returns-in_err-expect_end-in-None-clause-only c =
    let p = err_from_is_err_and c.from_residual-in_err-expect_end-in-None.result c.from_residual-in_err-expect_end-in-None.ensures.1 in
    only_err c.args.map.now c.args.bytes.now c.from_residual-in_err-expect_end-in-None.result p.0 c.width.ensures.sizes p.1
    (returns-in_err-expect_end-in-None-clause-fault c)

pub returns-in_ok-plan-in-Plan-clause-only : goal.returns-in_ok-plan-in-Plan-clause-only
returns-in_ok-plan-in-Plan-clause-only c = λ a is.
    let found = plan_is_read c.args.map.now c.args.bytes.now c.in-Some.line.now c.in-Some.rest.now c.in-Plan.agents c.in-Plan.cost c.in_ok-plan-in-Plan.plan c.in-Some.ensures
    (subst (IsHead c.in-Some.line.now) c.in-Plan.is c.in-Some-read_head.ensures) c.in_ok-plan-in-Plan.ensures.agents c.in_ok-plan-in-Plan.ensures.lines in
    read_is_one c.args.map.now c.args.bytes.now (answer.Plan c.in_ok-plan-in-Plan.plan c.in-Plan.cost) a c.width.ensures.sizes found is

pub returns-in_ok-expect_end-in-None-clause-only : goal.returns-in_ok-expect_end-in-None-clause-only
returns-in_ok-expect_end-in-None-clause-only c = λ a is.
    let found : IsTextOf c.args.map.now c.args.bytes.now (answer.None c.in-None.bound) = search rules in
    read_is_one c.args.map.now c.args.bytes.now _ a c.width.ensures.sizes found is

pub returns-in_err-expect_end-in-GaveUp-clause-only : goal.returns-in_err-expect_end-in-GaveUp-clause-only
returns-in_err-expect_end-in-GaveUp-clause-only c =
    let p = err_from_is_err_and c.from_residual-in_err-expect_end-in-GaveUp.result c.from_residual-in_err-expect_end-in-GaveUp.ensures.1 in
    only_err c.args.map.now c.args.bytes.now c.from_residual-in_err-expect_end-in-GaveUp.result p.0 c.width.ensures.sizes p.1
    (returns-in_err-expect_end-in-GaveUp-clause-fault c)

pub returns-in_ok-expect_end-in-GaveUp-clause-read : goal.returns-in_ok-expect_end-in-GaveUp-clause-read
returns-in_ok-expect_end-in-GaveUp-clause-read c =
    let P : List ℕ → Type 0 = λ rest. IsFirstLine c.args.bytes.now c.in-Some.line.now rest in
    gave_up_is_read c.args.map.now c.args.bytes.now c.in-Some.line.now c.in-GaveUp.nodes c.in-GaveUp.least (subst P c.in_ok-expect_end-in-GaveUp.ensures c.in-Some.ensures)
    (subst (IsHead c.in-Some.line.now) c.in-GaveUp.is c.in-Some-read_head.ensures)

pub returns-in_ok-expect_end-in-GaveUp-clause-only : goal.returns-in_ok-expect_end-in-GaveUp-clause-only
returns-in_ok-expect_end-in-GaveUp-clause-only c = λ a is.
    read_is_one c.args.map.now c.args.bytes.now _ a c.width.ensures.sizes (returns-in_ok-expect_end-in-GaveUp-clause-read c) is
