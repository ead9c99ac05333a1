use Rattle.std.proofs.Common.{rules, map, not, ap, ◌∙◌}
use Rattle.std.proofs.lemmas.Fn.{filter_same}
use Rattle.thin_tree.specs.Form.{is_clock}
use Rattle.thin_tree.specs.Tree as tree
use Rattle.thin_tree.specs.Written.{an_assignment, a_process}
use Rattle.thin_tree.specs.declared.tree.Assign.{Assign}
use Rattle.thin_tree.proofs.Named.{map_kept}
use Rattle.thin_tree.proofs.reader.keep_assigns.Goals as goal

pub returns : goal.returns
returns c =
    let kept = λ (a : tree.Assignment). not (is_clock c.args.names.now.design.now (map a_process c.args.processes.now) a.target) in
    ap (map an_assignment) (filter_same _ (λ (a : Assign). kept (an_assignment a)) _ (λ x b f' k. search rules) _ _ c.retain.ensures.filtered)
    ∙ map_kept an_assignment kept c.args.assigns.now.items
