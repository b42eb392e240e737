use Rattle.std.proofs.Common.{◌≡◌, ◌∙◌, true, false, sym, subst, ℕ, Contains, ◌↔◌}
use Rattle.mapf_low.specs.Reached.{IsUsable}
use Rattle.mapf_low.proofs.Rising.{first_open, first_closed}
use Rattle.mapf_low.proofs.by_layers.first_layer.Goals as goal
use Rattle.mapf_low.proofs.by_layers.first_layer.Goals.{then-is_usable+in_ok-add, else-is_usable}

pub returns : goal.returns
returns c =
    subst (λ start. (v : ℕ) → Contains c.if-is_usable.layer v ↔ ((v ≡ start) × IsUsable c.args.query.now c.args.query.now.bound 0 v)) c.start-start.ensures.start (
    elim c.if-is_usable.branch [
      | then-is_usable+in_ok-add w ↦
          rw w.layer-is
          (first_open (λ v. IsUsable c.args.query.now c.args.query.now.bound 0 v) c.new-layer.result w.add.new.self c.start-start.result c.new-layer.ensures w.in_ok-add.ensures
          (c.is_usable.ensures.0 w.if-is_usable.true))
      | else-is_usable w ↦
          first_closed (λ v. IsUsable c.args.query.now c.args.query.now.bound 0 v) c.if-is_usable.layer c.start-start.result (w.layer-is ∙ c.new-layer.ensures)
          (λ o. absurd (let e : false ≡ true = sym w.if-is_usable.false ∙ c.is_usable.ensures.1 o in cc))
    ]
    )
