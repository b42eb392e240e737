use Rattle.mapf_tree.proofs.Prelude.{set, ap, ◌∙◌, map-set}
use Rattle.mapf_tree.proofs.node.current_paths.CurrentPaths.set.Goals as goal

pub returns : goal.returns
returns c = map-set (λ path. path.now) c.self.inside.paths.items c.args.agent c.args.path ∙ ap (λ l. set l c.args.agent c.args.path.now) c.self.view_is
