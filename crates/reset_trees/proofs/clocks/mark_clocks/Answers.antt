-- Each source is looked at.
use Rattle.std.proofs.Common.{List, get_or, subst}
use Rattle.std.proofs.lemmas.List.{take_all}
use Rattle.std.proofs.lemmas.Option.{slice_get-get_or}
use Rattle.net_view.specs.declared.flop_net.SrcKind.TheVariants.{Port}
use Rattle.net_view.specs.FlopNet.{Kind}
use Rattle.cons_bind.specs.Marks.{Marks}
use Rattle.reset_trees.specs.Tables.{IsClockIn, IsMarked}
use Rattle.reset_trees.proofs.ClockLemmas.{clocks_start, clocks_more}
use Rattle.reset_trees.proofs.clocks.mark_clocks.Goals as goal

pub kinds-init : goal.kinds-init
kinds-init c = λ unmarked. clocks_start c.args.kinds.now c.args.read.now c.args.marks.now unmarked

pub kinds-preserved : goal.kinds-preserved
kinds-preserved c = λ unmarked.
    clocks_more c.args.kinds.now c.args.read.now c.kinds.marks c.mark_clock.new.marks c.kinds.kind-index (get_or c.args.kinds.now c.kinds.kind-index Port) c.kinds-test.true
    (slice_get-get_or c.args.kinds.now c.kinds.kind-index Port c.kinds-test.true) (c.kinds.invariant unmarked) c.mark_clock.ensures

pub returns-clause-marks : goal.returns-clause-marks
returns-clause-marks c = λ unmarked.
    subst (λ (ks : List Kind). Marks (λ p. IsClockIn ks p × IsMarked c.args.read.now p) c.kinds.marks) (take_all c.kinds.kind-index c.args.kinds.now c.kinds-test.false) (c.kinds.invariant unmarked)
