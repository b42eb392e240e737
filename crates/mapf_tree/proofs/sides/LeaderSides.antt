-- The side that forbids a leader its start.
use Rattle.std.proofs.Common.{◌≡◌, ℕ, ◌-◌, ◌<◌, ◌==◌, if◌then◌else◌, [], ◌∷◌, length, subst, sym, ap, ◌∙◌, get_or-set_same}
use Rattle.mapf_tree.specs.Prelude.{at, Conflict, Following, path_of, place, Obeys, constraints_of, constraint_on, agent_on, LeaderAtStart}
use Rattle.mapf_tree.proofs.sides.Branch.{agent_below}
use Rattle.mapf_tree.proofs.sides.Followers.{leader_time}
use Rattle.mapf_tree.proofs.finite.Measure.{grown_all}

-- each of its paths would begin on the cell that it is forbidden at time 0
pub leader_at_start : LeaderAtStart
leader_at_start problem node plan other i j v s inside has is leads there =
    obeys.0 (subst (λ t. at (path_of other agent) t ≡ v) (sym time) begins)
  where
    c : Conflict
    c = Following 1 i j v

    agent : ℕ
    agent = agent_on c s

    within : agent < length problem.inst.starts
    within = subst (λ k. agent < k) has.agents (agent_below problem.rule plan c s is)

    obeys : Obeys (constraint_on c s ∷ constraints_of node agent) (path_of other agent)
    obeys =
        let held : agent < length node.constraints = subst (λ k. agent < k) (sym (grown_all problem node inside).agents) within in
        subst (λ cs. Obeys cs (path_of other agent)) (get_or-set_same node.constraints agent (constraint_on c s ∷ constraints_of node agent) [] held) (there.own agent within).member.obeys

    time : (if agent == i then 1 else 1 - 1) ≡ 0
    time = subst (λ k. (if k == i then 1 else 1 - 1) ≡ 0) (sym leads) (leader_time i j 1 is.1)

    begins : place other agent 0 ≡ v
    begins = (there.own agent within).member.path.starts ∙ sym (has.own agent within).member.path.starts ∙ ap (λ k. place plan k 0) leads ∙ is.6
