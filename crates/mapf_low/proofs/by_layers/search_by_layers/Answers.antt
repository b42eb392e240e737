use Rattle.std.proofs.Common.{◌≡◌, ◌<◌, ◌+◌, ◌∷◌, [], ◌++◌, ℕ, length, Contains, subst, sym, ap, ◌∙◌, arith, length-append}
use Rattle.std.proofs.lemmas.List.{get_or_default}
use Rattle.mapf_low.specs.Query.{MayEnd}
use Rattle.mapf_low.specs.Layers.{layer_at, InLayers, IsNextLayer}
use Rattle.mapf_low.specs.Reached.{EndsAt}
use Rattle.mapf_low.proofs.by_layers.LayersGrow.{layers_one, layers_push, not_yet}
use Rattle.mapf_low.proofs.Reading.{are_linked}
use Rattle.mapf_low.proofs.Rising.{not_true}
use Rattle.mapf_low.proofs.FirstArrival.{own, none_through, none_by_bound}
use Rattle.mapf_low.proofs.by_layers.Layering.{AreLayers, layers_set}
use Rattle.mapf_low.proofs.by_layers.search_by_layers.Goals as goal

pub loop-time-init : goal.loop-time-init
loop-time-init c =
    let is : c.push.new.self.items ≡ c.new-layers.result.items ++ c.in_ok-first_layer.field-0 ∷ [] = c.in_ok-push.ensures.items in
    record {
      long = ap length is ∙ (length-append c.new-layers.result.items (c.in_ok-first_layer.field-0 ∷ []) ∙ (let n : length c.new-layers.result.items + 1 ≡ 1 = omega (arith, ap length c.new-layers.ensures.items) in n));
      layers_are = subst (AreLayers c.args.query.now) (sym is)
          (layers_one c.args.query.now c.new-layers.result.items c.in_ok-first_layer.field-0 c.new-layers.ensures.items c.in_ok-first_layer.ensures);
      before = λ t l. absurd (omega (arith, l));
    }

pub loop-time-preserved : goal.loop-time-preserved
loop-time-preserved c =
    let layers = c.loop-time.layers.items in
    let time = c.loop-time.time in
    let long = c.loop-time.invariant.long in
    let is : c.push-in-loop-time.new.self.items ≡ layers ++ c.in_ok-next.next ∷ [] = c.in_ok-push-2.ensures.items in
    let inside : time < length layers = omega arith in
    let here : c.index-layer.result.now ≡ layer_at layers time = c.index-layer.ensures ∙ get_or_default layers time c.index-layer.result.now [] inside in
    let next : IsNextLayer c.args.query.now (time + 1) (layer_at layers time) c.in_ok-next.next =
    subst (λ layer. IsNextLayer c.args.query.now (time + 1) layer c.in_ok-next.next) here c.in_ok-next.ensures in
    let now : ¬ EndsAt c.args.query.now (InLayers layers) time =
    λ a. not_true c.can_end.result (Contains c.index-layer.result.now c.args.query.now.goal × MayEnd c.args.query.now time) c.can_end.ensures c.if-can_end.false
    (subst (λ layer. Contains layer c.args.query.now.goal) (sym here) a.0, a.1) in
    record {
      long = ap length is ∙ (length-append layers (c.in_ok-next.next ∷ []) ∙ ap (λ n. n + 1) long);
      layers_are = subst (AreLayers c.args.query.now) (sym is)
          (layers_push c.args.query.now layers c.in_ok-next.next time c.loop-time.invariant.layers_are long next);
      before = subst (λ ls. (t : ℕ) → t < time + 1 → ¬ EndsAt c.args.query.now (InLayers ls) t) (sym is)
          (not_yet c.args.query.now layers c.in_ok-next.next time long c.loop-time.invariant.before now);
    }

pub reconstruct_path-requires : goal.reconstruct_path-requires
reconstruct_path-requires c =
    let layers = c.loop-time.layers.items in
    let time = c.loop-time.time in
    let inside : time < length layers = omega arith in
    let here : c.index-layer.result.now ≡ layer_at layers time = c.index-layer.ensures ∙ get_or_default layers time c.index-layer.result.now [] inside in
    let set = layers_set c.args.query.now layers c.bound-bound.ensures.posed c.requires c.loop-time.invariant.layers_are in
    record {
      linked = are_linked c.args.query.now c.args.query.now.bound (InLayers layers) (length layers) time set inside;
      arrived = subst (λ layer. Contains layer c.args.query.now.goal) here (c.can_end.ensures.0 c.if-can_end.true).0;
      short = omega arith;
    }

pub next_layer-requires : goal.next_layer-requires
next_layer-requires c =
    let layers = c.loop-time.layers.items in
    let time = c.loop-time.time in
    let inside : time < length layers = omega arith in
    let here : c.index-layer.result.now ≡ layer_at layers time = c.index-layer.ensures ∙ get_or_default layers time c.index-layer.result.now [] inside in
    let set = layers_set c.args.query.now layers c.bound-bound.ensures.posed c.requires c.loop-time.invariant.layers_are in
    λ v i. (are_linked c.args.query.now c.args.query.now.bound (InLayers layers) (length layers) time set inside).free time v (omega arith) (subst (λ layer. Contains layer v) here i)

pub returns : goal.returns
returns c =
    let layers = c.loop-time.layers.items in
    let set = layers_set c.args.query.now layers c.bound-bound.ensures.posed c.requires c.loop-time.invariant.layers_are in
    let all : c.loop-time.time ≡ c.args.query.now.bound + 1 = omega arith in
    none_by_bound c.args.query.now c.args.query.now.bound (InLayers layers) (length layers) set (omega arith)
    (subst (λ n. (t : ℕ) → t < n → ¬ EndsAt c.args.query.now (InLayers layers) t) all c.loop-time.invariant.before)

pub returns-then-is_empty : goal.returns-then-is_empty
returns-then-is_empty c =
    let layers = c.loop-time.layers.items in
    let time = c.loop-time.time in
    let inside : time < length layers = omega arith in
    let here : c.index-layer.result.now ≡ layer_at layers time = c.index-layer.ensures ∙ get_or_default layers time c.index-layer.result.now [] inside in
    let empty : layer_at layers time ≡ [] = sym here ∙ c.is_empty.ensures.0 c.if-is_empty.true in
    let set = layers_set c.args.query.now layers c.bound-bound.ensures.posed c.requires c.loop-time.invariant.layers_are in
    none_through c.args.query.now c.args.query.now.bound (InLayers layers) (length layers) set time inside c.loop-time.invariant.before
    (subst (λ layer. (v : ℕ) → ¬ Contains layer v) (sym empty) (λ v i. omega (arith, i.1)))

pub returns-then-can_end : goal.returns-then-can_end
returns-then-can_end c =
    let layers = c.loop-time.layers.items in
    let time = c.loop-time.time in
    let inside : time < length layers = omega arith in
    let here : c.index-layer.result.now ≡ layer_at layers time = c.index-layer.ensures ∙ get_or_default layers time c.index-layer.result.now [] inside in
    let met = c.can_end.ensures.0 c.if-can_end.true in
    let set = layers_set c.args.query.now layers c.bound-bound.ensures.posed c.requires c.loop-time.invariant.layers_are in
    own c.args.query.now c.args.query.now.bound (InLayers layers) (length layers) set time c.in_ok-reconstruct_path.field-0 inside (omega arith)
    c.in_ok-reconstruct_path.ensures
    (subst (λ layer. Contains layer c.args.query.now.goal) here met.0, met.1)
    c.loop-time.invariant.before
