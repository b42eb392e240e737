use Rattle.mapf_tree.proofs.Prelude.{◌≡◌, subst₂, ap, ◌∙◌, IfOk-weaker}
use Rattle.mapf_tree.specs.Prelude.{HasSet, SideQuery}
use Rattle.mapf_tree.proofs.own_paths.path_cache.PathCache.set_of.Goals.{in-Some-of, in-None}
use Rattle.mapf_tree.proofs.own_paths.path_cache.PathCache.set_of.Goals as goal

pub returns-clause-grows : goal.returns-clause-grows
returns-clause-grows c = record { problem = c.add.ensures.problem; sets = c.add.ensures.kept; paths = c.add.ensures.paths }

pub returns-clause-set : goal.returns-clause-set
returns-clause-set c =
    let same : c.match-of.query ≡ c.args.query = elim c.match-of.branch [ in-Some-of w ↦ w.query-is ∙ w.with_from_start-query.ensures | in-None w ↦ w.query-is ] in
    let agent : c.agent-2.result ≡ c.args.query.agent = c.agent-2.ensures.agent ∙ ap (λ (q : SideQuery). q.agent) same in
    let constraints : c.in_ok-constraints.constraints ≡ c.args.query.constraints = c.in_ok-constraints.ensures ∙ c.constraints.ensures ∙ ap (λ (q : SideQuery). q.constraints) same in
    IfOk-weaker c.add.result (λ set. HasSet c.add.new.self.sets set c.agent-2.result c.in_ok-constraints.constraints) (λ set. HasSet c.add.new.self.sets set c.args.query.agent c.args.query.constraints)
    (λ set has. subst₂ (λ a cs. HasSet c.add.new.self.sets set a cs) agent constraints has) c.add.ensures.set
