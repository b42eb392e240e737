use Rattle.std.proofs.Common.{◌≡◌, ◌<◌, List, [], map, length, subst, sym, ap, ◌∙◌, rules}
use Rattle.std.proofs.lemmas.List.{map-set, length-map, get_or-map}
use Rattle.mapf_plan.specs.declared.cache.first_times.FirstTime.{FirstTime}
use Rattle.mapf_plan.specs.KnownPaths.{row_in, IsKept}
use Rattle.mapf_plan.proofs.cache.PathTimes.{row_set}
use Rattle.mapf_plan.proofs.cache.first_times.FirstTimes.keep_at.Goals as goal

pub returns-then-is_ok : goal.returns-then-is_ok
returns-then-is_ok c =
    let more = c.self.inside.rows.items in let next = c.keep_in_row.new.row in let one = c.args.one in
    let reached : one < length c.reach_row.new.self = search rules in
    let within : one < length (map (λ row. row.items) more) = subst (λ (rows : List (List FirstTime)). one < length rows) (sym c.self.view_is) reached in
    let inside : one < length more = subst (λ n. one < n) (length-map more (λ row. row.items)) within in
    let is : c.index_mut.result.now.items ≡ row_in (map (λ row. row.items) more) one =
    ap (λ row. row.items) c.index_mut.ensures.value ∙ sym (get_or-map (λ row. row.items) more one c.index_mut.result.now [] inside) in
    subst (λ (rows : List (List FirstTime)). IsKept c.args.self.now rows one c.args.other c.args.time) (sym (map-set (λ row. row.items) more one next))
    (row_set c.args.self.now (map (λ row. row.items) more) c.index_mut.result.now.items next.items one c.args.other c.args.time within
    (λ i. ap (λ (rows : List (List FirstTime)). row_in rows i) c.self.view_is ∙ c.reach_row.ensures.same i) is c.keep_in_row.ensures)
