-- What a cache or a search with a budget answers.
use Rattle.std.specs.Prelude.{⊤}
use Rattle.mapf_low.specs.declared.lookup.Lookup.{Lookup}
use Rattle.mapf_low.specs.declared.lookup.Lookup.TheVariants.{Unknown, Known}

-- this holds of what is asked for, if that is known
abbrev pub IfKnown : {A : Type 0} → Lookup A → (A → Type 0) → Type 0
IfKnown Unknown P = ⊤
IfKnown (Known x) P = P x
