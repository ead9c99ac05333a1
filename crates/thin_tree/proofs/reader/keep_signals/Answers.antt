use Rattle.std.proofs.Common.{rules, map, ap, ◌∙◌}
use Rattle.std.proofs.lemmas.Fn.{filter_same}
use Rattle.thin_tree.specs.Form.{stays}
use Rattle.thin_tree.specs.Written.{a_declared, a_process}
use Rattle.thin_tree.specs.declared.tree.Declared.{Declared}
use Rattle.thin_tree.proofs.Named.{map_kept}
use Rattle.thin_tree.proofs.reader.keep_signals.Goals as goal

pub returns : goal.returns
returns c =
    let kept = stays c.args.names.now.design.now (map a_process c.args.processes.now) in
    ap (map a_declared) (filter_same _ (λ (s : Declared). kept (a_declared s)) _ (λ x b f' k. search rules) _ _ c.retain.ensures.filtered)
    ∙ map_kept a_declared kept c.args.signals.now.items
