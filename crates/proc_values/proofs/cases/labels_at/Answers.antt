use Rattle.std.proofs.Common.{◌≡◌, sym, ap, ◌∙◌}
use Rattle.vlog_tree.specs.declared.stmt.Arm.{Arm}
use Rattle.vlog_tree.specs.declared.stmt.Stmt.{Stmt}
use Rattle.proc_values.proofs.SizeLemmas.{covers_items}
use Rattle.proc_values.proofs.CaseLemmas.{same_labels}
use Rattle.proc_values.proofs.cases.labels_at.Goals as goal

pub returns-clause-covers : goal.returns-clause-covers
returns-clause-covers c = covers_items c.args.design.now _ c.args.arms.now c.args.i c.index-arms-i.result c.as_slice.result.now c.requires.covers c.requires.inside c.index-arms-i.is (c.as_slice.ensures ∙ ap (λ (m : Arm Stmt). m.labels) (sym c.index-arms-i.is))

pub returns-clause-labels : goal.returns-clause-labels
returns-clause-labels c arm is = c.as_slice.ensures ∙ ap (λ (m : Arm Stmt). m.labels) (sym c.index-arms-i.is) ∙ same_labels c.args.arms.now c.args.i c.index-arms-i.result arm c.requires.inside c.index-arms-i.is is
