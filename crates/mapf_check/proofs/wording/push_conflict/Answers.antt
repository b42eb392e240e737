use Rattle.std.proofs.Common.{◌++◌}
use Rattle.std.proofs.lemmas.Result.{on_ok_weaker}
use Rattle.std.specs.Prelude.{codes, decimal, string_bytes}
use Rattle.mapf_plan.specs.Text.{position}
use Rattle.mapf_check.proofs.Pushed.{pushed_two}
use Rattle.mapf_check.proofs.wording.push_conflict.Goals as goal

pub returns-in_ok-push_position-in-Vertex : goal.returns-in_ok-push_position-in-Vertex
returns-in_ok-push_position-in-Vertex c =
    let start = string_bytes c.args.text.now in
    let agents = (codes "66 vertex conflict agents " ++ decimal c.in-Vertex.first) ++ (codes " " ++ decimal c.in-Vertex.second) in
    let cell = codes " cell " ++ position c.args.map.now c.in-Vertex.cell in
    let time = codes " time " ++ decimal c.in-Vertex.time in
    let place = pushed_two start agents cell c.in_ok-push_agents-in-Vertex.ensures c.in_ok-push_position-in-Vertex.ensures.appended in
    on_ok_weaker c.push_number.result (λ last. rw c.in-Vertex.is (pushed_two start (agents ++ cell) time place last)) c.push_number.ensures.appended

pub returns-in_ok-push_position-in-Swapping-2 : goal.returns-in_ok-push_position-in-Swapping-2
returns-in_ok-push_position-in-Swapping-2 c =
    let start = string_bytes c.args.text.now in
    let agents = (codes "66 swapping conflict agents " ++ decimal c.in-Swapping.first) ++ (codes " " ++ decimal c.in-Swapping.second) in
    let from = codes " from " ++ position c.args.map.now c.in-Swapping.from in
    let to = codes " to " ++ position c.args.map.now c.in-Swapping.to in
    let time = codes " time " ++ decimal c.in-Swapping.time in
    let left = pushed_two start agents from c.in_ok-push_agents-in-Swapping.ensures c.in_ok-push_position-in-Swapping.ensures.appended in
    let there = pushed_two start (agents ++ from) to left c.in_ok-push_position-in-Swapping-2.ensures.appended in
    on_ok_weaker c.push_number-in-Swapping.result (λ last. rw c.in-Swapping.is (pushed_two start (agents ++ from ++ to) time there last)) c.push_number-in-Swapping.ensures.appended

pub returns-in_ok-push_position-in-Following : goal.returns-in_ok-push_position-in-Following
returns-in_ok-push_position-in-Following c =
    let start = string_bytes c.args.text.now in
    let agents = (codes "66 following conflict agents " ++ decimal c.in-Following.follower) ++ (codes " " ++ decimal c.in-Following.leader) in
    let cell = codes " cell " ++ position c.args.map.now c.in-Following.cell in
    let time = codes " time " ++ decimal c.in-Following.time in
    let place = pushed_two start agents cell c.in_ok-push_agents-in-Following.ensures c.in_ok-push_position-in-Following.ensures.appended in
    on_ok_weaker c.push_number-in-Following.result (λ last. rw c.in-Following.is (pushed_two start (agents ++ cell) time place last)) c.push_number-in-Following.ensures.appended
