-- Whole lists of layers.
use Rattle.std.proofs.Common.{ℕ, ◌+◌, ◌<◌, List, length}
use Rattle.mapf_low.specs.Query.{Query, IsPosed, HasDistances}
use Rattle.mapf_low.specs.Layers.{IsFirstLayer, IsNextLayer, InLayers, layer_at}
use Rattle.mapf_low.proofs.FirstArrival.{Setting}

-- the layers from time 0 on
pub record AreLayers (query : Query) (layers : List (List ℕ)) : Type 0 where
  pub first : IsFirstLayer query (layer_at layers 0)
  pub next : (t : ℕ) → t + 1 < length layers →
      IsNextLayer query (t + 1) (layer_at layers t) (layer_at layers (t + 1))

-- have at each time the cells that are reached then
pub layers_set : (query : Query) (layers : List (List ℕ)) → IsPosed query → HasDistances query → AreLayers query layers → Setting query query.bound (InLayers layers) (length layers)
layers_set query layers posed distances h = record { posed = posed; distances = distances; reached_are = record { first = h.first; next = h.next } }
