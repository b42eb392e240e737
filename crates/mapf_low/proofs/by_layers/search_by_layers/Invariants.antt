use Rattle.std.proofs.Common.{◌≡◌, ℕ, ◌+◌, ◌<◌, length}
use Rattle.mapf_low.specs.Layers.{InLayers}
use Rattle.mapf_low.specs.Reached.{EndsAt}
use Rattle.mapf_low.proofs.by_layers.Layering.{AreLayers}
use Rattle.mapf_low.proofs.by_layers.search_by_layers.Given as goal

abbrev pub invariant-loop-time : goal.invariant-loop-time
invariant-loop-time l =
    record {
      long : length l.layers.items ≡ l.time + 1;
      layers_are : AreLayers l.query l.layers.items;
      before : (t : ℕ) → t < l.time → ¬ EndsAt l.query (InLayers l.layers.items) t;
    }
