-- What the numbers of a call ask for.
use Rattle.std.specs.Prelude.{ℕ, ◌==◌, if◌then◌else◌, Some, None}
use Rattle.mapf_plan.specs.declared.rule.Rule.{Rule}
use Rattle.mapf_plan.specs.declared.rule.Rule.TheVariants as rule
use Rattle.mapf_solve.specs.declared.ask.Ask.{Ask}

-- the rule that a byte asks for
abbrev pub rule_of : ℕ → Rule
rule_of byte = if byte == 0 then rule.Classical else rule.NoFollowing

-- what the numbers of a call ask for: 0 nodes are no limit
abbrev pub ask_of : (agents bound nodes no_following : ℕ) → Ask
ask_of agents bound nodes no_following = record {
  agents = agents;
  bound = bound;
  workers = 1;
  nodes = if nodes == 0 then None else Some nodes;
  rule = rule_of no_following;
}
