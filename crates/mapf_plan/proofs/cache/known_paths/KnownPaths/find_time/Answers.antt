use Rattle.std.proofs.Common.{◌≡◌, ◌<◌, ◌∙◌, [], sym, ap, subst, subst₂, map, length}
use Rattle.std.specs.Arc.{arc_value}
use Rattle.std.proofs.lemmas.List.{get_or-map, length-map}
use Rattle.mapf_plan.specs.Plan.{path_of}
use Rattle.mapf_plan.specs.Collisions.{HaveNoneBefore}
use Rattle.mapf_plan.specs.KnownPaths.{KnownPaths, IsRight}
use Rattle.mapf_plan.proofs.cache.PathTimes.{right_found, still_right}
use Rattle.mapf_plan.proofs.cache.known_paths.KnownPaths.find_time.Goals as goal

-- what was found is so of the paths of these numbers
found_so : (c : goal.After-keep) → HaveNoneBefore c.self.inside.rule (path_of (map arc_value c.self.inside.paths.items) c.args.one) (path_of (map arc_value c.self.inside.paths.items) c.args.other) c.first_time_of_two-found.result
found_so c =
    let items = c.self.inside.paths.items in
    let paths : map arc_value items ≡ c.args.self.now.paths = ap (λ (s : KnownPaths). s.paths) c.self.view_is in
    let inside : c.args.one < length items = subst (λ n. c.args.one < n) (sym (ap length paths) ∙ length-map items arc_value) c.requires.one in
    let inside-2 : c.args.other < length items = subst (λ n. c.args.other < n) (sym (ap length paths) ∙ length-map items arc_value) c.requires.other in
    let is_p : c.deref.result.now ≡ path_of (map arc_value items) c.args.one =
    c.deref.ensures ∙ ap arc_value c.index.ensures ∙ sym (get_or-map arc_value items c.args.one c.index.result.now [] inside) in
    let is_q : c.deref-2.result.now ≡ path_of (map arc_value items) c.args.other =
    c.deref-2.ensures ∙ ap arc_value c.index-2.ensures ∙ sym (get_or-map arc_value items c.args.other c.index-2.result.now [] inside-2) in
    subst₂ (λ p q. HaveNoneBefore c.self.inside.rule p q c.first_time_of_two-found.result) is_p is_q c.first_time_of_two-found.ensures

pub invariant_of-self : goal.invariant_of-self
invariant_of-self c =
    let rule = c.self.inside.rule in let paths = map arc_value c.self.inside.paths.items in let one = c.args.one in let other = c.args.other in
    let is : paths ≡ c.args.self.now.paths = ap (λ (s : KnownPaths). s.paths) c.self.view_is in
    let here : IsRight rule paths one other c.of.result =
    subst (IsRight rule paths one other) (sym c.of.ensures) (right_found rule paths one other c.first_time_of_two-found.result
    (subst (λ l. one < length l) (sym is) c.requires.one) (subst (λ l. other < length l) (sym is) c.requires.other) (found_so c)) in
    still_right rule paths c.self.inside.times c.keep.new.self one other c.of.result c.self.invariant here c.keep.ensures

pub returns-clause-time : goal.returns-clause-time
returns-clause-time c =
    subst (λ (s : KnownPaths). HaveNoneBefore s.rule (path_of s.paths c.args.one) (path_of s.paths c.args.other) c.first_time_of_two-found.result) c.self.view_is (found_so c)
