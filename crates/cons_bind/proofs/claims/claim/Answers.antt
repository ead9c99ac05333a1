-- Each claim is looked at in turn.
use Rattle.std.proofs.Common.{◌<◌, length, get_or, arith}
use Rattle.cons_bind.proofs.ClaimsLemmas.{so_far_none, so_far_more, so_far_again, so_far_all}
use Rattle.cons_bind.proofs.claims.claim.Goals as goal

pub sources-init : goal.sources-init
sources-init c = λ before marked. so_far_none before c.args.sources.now c.args.marks.now marked

pub sources-preserved : goal.sources-preserved
sources-preserved c = λ before marked.
    let inside : get_or c.args.sources.now c.sources.source-index 0 < length c.sources.marks = omega (arith, c.requires c.sources.source-index 0 c.sources-test.true) in
    so_far_more before c.args.sources.now c.sources.source-index c.sources.marks c.sources-test.true inside c.if-marks-source.false (c.sources.invariant before marked)

pub returns-then-marks-source : goal.returns-then-marks-source
returns-then-marks-source c = λ before marked.
    so_far_again before c.args.sources.now c.sources.source-index c.sources.marks c.sources-test.true c.if-marks-source.true (c.sources.invariant before marked)

pub returns : goal.returns
returns c = λ before marked. so_far_all before c.args.sources.now c.sources.source-index c.sources.marks c.sources-test.false (c.sources.invariant before marked)
