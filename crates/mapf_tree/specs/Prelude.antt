-- The names of definitions that most clauses and proofs cite, passed on from one place.
pub use Rattle.mapf_grid.specs.Grid.{Grid, IsFree, Next}
pub use Rattle.mapf_grid.specs.Least.{IsLeast, Precedes}
pub use Rattle.mapf_grid.specs.declared.fault.NoMemory.{NoMemory}
pub use Rattle.mapf_grid.specs.declared.instance.TheConstants.{MOST_AGENTS}
pub use Rattle.mapf_low.specs.Constraints.{Breaks, Obeys}
pub use Rattle.mapf_low.specs.Kept.{HasTwoEnds}
pub use Rattle.mapf_low.specs.Lookup.{IfKnown}
pub use Rattle.mapf_low.specs.OwnPath.{IsOwnPath}
pub use Rattle.mapf_low.specs.Walk.{AreDistances}
pub use Rattle.mapf_low.specs.declared.constraint.Constraint.{Constraint}
pub use Rattle.mapf_plan.specs.KnownPaths.{AreNumbers, IsKnownPlan, KnownPaths, plan_of}
pub use Rattle.mapf_plan.specs.Path.{IsPath, at, cost}
pub use Rattle.mapf_plan.specs.Plan.{HasNoConflict, IsConflict, IsFirstConflict, IsValid, conflict_time, path_of, place, plan_cost}
pub use Rattle.mapf_plan.specs.declared.answer.Answer.{Answer}
pub use Rattle.mapf_plan.specs.declared.answer.TheConstants.{MOST_BOUND, MOST_NODES}
pub use Rattle.mapf_plan.specs.declared.conflict.Conflict.{Conflict}
pub use Rattle.mapf_plan.specs.declared.conflict.Conflict.TheVariants.{Following}
pub use Rattle.mapf_plan.specs.declared.rule.Rule.{Rule}
pub use Rattle.mapf_tree.specs.Answered.{IsAnswerOf, IsAnswerUpTo, IsBestAnswer, IsStated, stated}
pub use Rattle.mapf_tree.specs.Family.{AreRootPaths, IsBranching, IsChildOf, IsOwn, IsOwnWithin, IsRoot, IsSide, Leaves}
pub use Rattle.mapf_tree.specs.FreePlans.{Branches, Grows, HasSide, IsFreeUnder, IsFreePlan, IsFreeSide, AreObeyed, IsSidePlan, IsObeyed, NoneObeys, ObeysOneOf, one_or_none, paths_of}
pub use Rattle.mapf_tree.specs.Laws.{AnswerExists, AnswerIsOptimum, AnswerIsUnique, ConstraintIsEarly, ConstraintIsNew, DepthIsBounded, HoldsGrid, LeaderAtStart, NoneIsDearer, NoneIsNone, ObeyedIsInCost, ObeysNode, ObeysOneSide, OneAgentsAnswer, StatedIsUnique, TreeIsFinite}
pub use Rattle.mapf_tree.specs.LowerBound.{IsBelowAll, IsLeastCost, IsLeastWaiting, IsLowerBound, least_stated}
pub use Rattle.mapf_tree.specs.Names.{IsKept, number_of, turn, turns_of}
pub use Rattle.mapf_tree.specs.Nodes.{AgreesWith, AllStand, AreChanges, Chain, Changed, HasNodeFor, IsConflictOf, IsSameSet, Node, StandsFor, by_key, by_key_total, changed_plan, changed_sets, node_key, node_of, turned, unchanged, with_one}
pub use Rattle.mapf_tree.specs.OpenList.{GivesFirst, IsAddedIfSome, IsPut, IsRising, IsTaken}
pub use Rattle.mapf_tree.specs.PathCache.{AreExtensions, AreFirst, AreFirstPaths, AreKnown, AreSetsOf, Extends, GivesOwn, HasNoTurnAt, HasOneMore, HasPath, HasSet, IsAskedAt, IsAt, IsCachedPath, IsExtended, IsExtension, IsNumberOf, IsOwnIn, IsPlanOf, IsPlanUpTo, IsQueryIn, IsRemembered, IsTold, IsTurnAt, KnowsAnswerTo, PathCache, TellsUpTo}
pub use Rattle.mapf_tree.specs.Problem.{HasDistances, IsLimit, IsReady, Problem}
pub use Rattle.mapf_tree.specs.Search.{CountsTaken, IsChild, IsCounted, IsEnded, IsLawful, IsReached, IsSearch, IsTakenTo, IsWaiting, NoneSolves, Searched, TakesBetween, answer_of, most_counted}
pub use Rattle.mapf_tree.specs.SideQuery.{AreFromStart, AreTables, IsAsked, IsFoundBy, IsQueryOf, SideQuery}
pub use Rattle.mapf_tree.specs.Steps.{EndsAtAnswer, Expands, ExpandsLeast, GoesUpTo, IsGivenUp, IsSearchAt, IsStep, SearchStarts, TakenAreBounded, TakesLeast, TakesNext, TakesOne}
pub use Rattle.mapf_tree.specs.Tree.{EachOnce, HasPlan, InTree, IsAllowedFor, IsAnswer, IsFirstSolution, IsMember, IsOwnPathOf, IsSolution, PlannedNode, TreeNode, agent_on, constraint_on, constraints_of, key, key_rank, root, root_of, side, side_of}
pub use Rattle.mapf_tree.specs.declared.node.Body.{Body}
pub use Rattle.mapf_tree.specs.declared.own_paths.constraint_sets.CachedPath.TheVariants.{NoneWithin, Path}
pub use Rattle.mapf_tree.specs.declared.own_paths.constraint_sets.ConstraintSet.{ConstraintSet}
pub use Rattle.mapf_tree.specs.declared.search.progress.Progress.TheVariants.{Finished, Working}
pub use Rattle.mapf_tree.specs.declared.tree.key.Key.{Key}
pub use Rattle.mapf_tree.specs.declared.tree.side.Side.{Side}
pub use Rattle.mapf_tree.specs.declared.tree.side.Side.TheVariants.{Left, Right}
pub use Rattle.std.specs.Arc.{arc_value}
pub use Rattle.std.specs.Cmp.{IsTotalOrder, eq_by_cmp_equiv, nat_cmp_total, partial_equiv_from_equiv, partial_order_from_total, tied_itself}
pub use Rattle.std.specs.Cmp.Lexicographic.{lists_total, slice_cmp}
pub use Rattle.std.specs.List.{AllByRecursion, flat_map, sum_by}
pub use Rattle.std.specs.Option.{ok_or}
pub use Rattle.std.specs.Ordering.{as_partial_cmp, eq_by_cmp, match_ordering, ordering_reverse, ordering_then}
pub use Rattle.std.specs.Prelude.{IfOk, IfSome, MatchOption, option_map, slice_get, slice_index, slice_set}
