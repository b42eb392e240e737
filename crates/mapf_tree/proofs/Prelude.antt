-- The names of lemmas that most proofs cite, passed on from one place.
pub use Rattle.mapf_grid.proofs.Decide.{by_cases, dec_map, dec_not}
pub use Rattle.mapf_grid.proofs.Lists.{Contains-below, Contains-flat_map, Contains-map, below, build_or, set_cases}
pub use Rattle.mapf_grid.proofs.Members.{here, here_or_there, nowhere, there}
pub use Rattle.mapf_grid.proofs.Ranks.{asymmetric, before_is_other, before_le, by_compare, dec_precedes, first_le, irreflexive, le_before, least_by, same_rank, transitive}
pub use Rattle.mapf_low.proofs.OwnPaths.{dec_breaks, own_path, own_path_costs, same_own}
pub use Rattle.mapf_low.proofs.Sets.{AllByRecursion-fewer, none_set, own_set}
pub use Rattle.mapf_plan.proofs.Conflicts.{both_of, first_conflict, first_early, of_both, same_first}
pub use Rattle.mapf_plan.proofs.PlanNumbers.{known_stays, numbers_inside, numbers_more, plan_of_numbers}
pub use Rattle.std.proofs.Common.{All, Bool, Contains, Equal, Err, Greater, IfOk, IsSome, Less, List, None, Ok, Option, Ordering, Result, Some, [], ap, append-nil, append_assoc, ap₂, arith, ext_get_or, false, get_or, get_or-set_other, get_or-set_same, if◌then◌else◌, inl, inr, is_some, length, length-append, length-set, map, max, min, nat_cmp, nat_lt, not, option_map, refl, replicate, reverse, rules, set, slice_index, subst, subst₂, suc, sym, take, take_all, true, zero, ℕ, ⊎_elim, ◌*◌, ◌++◌, ◌+◌, ◌-◌, ◌<◌, ◌==◌, ◌^◌, ◌↔◌, ◌∙◌, ◌∷◌, ◌≡◌, ◌≢◌, ◌≤◌, ◌⊎◌}
pub use Rattle.std.proofs.lemmas.Bool.{cases_eq, cases_lt, cases_order, cond-false, cond-true, eq-eqb, le-ltb, lt-ltb, ne_eqb}
pub use Rattle.std.proofs.lemmas.Bool.Decides.{nat_tests}
pub use Rattle.std.proofs.lemmas.Grind.{get_or_default_zero}
pub use Rattle.std.proofs.lemmas.List.{get_or-map, get_or-replicate, get_or_append_left, get_or_default, get_or_push, length-map, length-replicate, length_push, map-set, reverse-append, reverse-reverse, same_from_push}
pub use Rattle.std.proofs.lemmas.List.Elements.{All-append, All-cons, All-contains, All-from_get_or, All-from_recursion, All-nil, All-push, All-tail, Contains-append_left, Contains-append_right, recursion_from_All}
pub use Rattle.std.proofs.lemmas.List.Sums.{get_or-le-sum_by, sum_by-cons, sum_by-set}
pub use Rattle.std.proofs.lemmas.Option.{IfSome_then, get_or_from_slice_get, slice_get-get_or, slice_get_read, slice_get_within}
pub use Rattle.std.proofs.lemmas.Result.{IfOk-weaker}
pub use borrow.Author.Count.{below_more}
