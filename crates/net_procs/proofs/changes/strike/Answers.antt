use Rattle.std.proofs.Common.{◌∙◌, le_trans}
use Rattle.net_words.proofs.BuildLemmas.{done, next, fault}
use Rattle.net_procs.proofs.NodeSteps.{struck_here, struck_end}
use Rattle.net_procs.proofs.changes.strike.Goals as goal

pub returns-in_err-change-clause-builds : goal.returns-in_err-change-clause-builds
returns-in_err-change-clause-builds c =
    fault _ _ (struck_here c.args.bits.now c.args.strokes.now c.loop-i.nodes c.loop-i.i c.index-strokes-i.result c.loop-i-test.true c.index-strokes-i.is c.loop-i.invariant.left) c.in_err-change.ensures.builds c.from_residual.ensures

pub loop-i-preserved : goal.loop-i-preserved
loop-i-preserved c = record {
  left = next _ _ (struck_here c.args.bits.now c.args.strokes.now c.loop-i.nodes c.loop-i.i c.index-strokes-i.result c.loop-i-test.true c.index-strokes-i.is c.loop-i.invariant.left) c.in_ok-change.ensures.builds;
  there = c.in_ok-change.ensures.inside;
  long = c.in_ok-change.ensures.long ∙ c.loop-i.invariant.long;
  longer = le_trans c.loop-i.invariant.longer c.in_ok-change.ensures.longer;
}

pub returns-clause-builds : goal.returns-clause-builds
returns-clause-builds c = done _ (tt {0}) (struck_end c.args.bits.now c.args.strokes.now c.loop-i.nodes c.loop-i.i c.loop-i-test.false c.loop-i.invariant.left)
