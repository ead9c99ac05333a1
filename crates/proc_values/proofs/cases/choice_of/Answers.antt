use Rattle.std.proofs.Common.{subst, sym}
use Rattle.vlog_const.specs.declared.shape.Shape.{Shape}
use Rattle.design_sizes.specs.Sizes.{shape_of}
use Rattle.proc_cases.specs.Full.{labels_of}
use Rattle.proc_values.specs.Covers.{Covers}
use Rattle.proc_values.proofs.SizeLemmas.{covers_start, covers_all}
use Rattle.proc_values.proofs.cases.choice_of.Goals as goal

pub word_in-requires : goal.word_in-requires
word_in-requires c =
    let d = c.args.design.now in
    record { covers = subst (λ (s : Shape). Covers s (shape_of d c.args.selector.now)) (sym c.in_ok-context.ensures) (covers_start d (shape_of d c.args.selector.now) (labels_of c.args.arms.now)) }

pub returns-clause-covers : goal.returns-clause-covers
returns-clause-covers c = covers_all c.args.design.now _ c.args.selector.now (labels_of c.args.arms.now) c.in_ok-context.ensures
