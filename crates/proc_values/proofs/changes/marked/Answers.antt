use Rattle.std.proofs.Common.{arith, ◌≡◌, ◌∙◌}
use Rattle.std.proofs.lemmas.List.{length-set}
use Rattle.proc_values.proofs.ChangeLemmas.{marks_more, marks_end, marks_begin}
use Rattle.proc_values.proofs.changes.marked.Goals as goal

pub loop-i-preserved : goal.loop-i-preserved
loop-i-preserved c = rw c.mark.ensures (record {
  long = length-set c.loop-i.marks.items _ _ ∙ c.loop-i.invariant.long;
  marked = λ n lt. marks_more c.args.bits.now c.loop-i.marks.items c.loop-i.i _ n c.loop-i-test.true (omega (arith, lt, c.loop-i.invariant.long)) (c.loop-i.invariant.marked n lt);
})

pub returns-clause-marks : goal.returns-clause-marks
returns-clause-marks c n lt = marks_end c.args.bits.now c.loop-i.marks.items c.loop-i.i n c.loop-i-test.false (c.loop-i.invariant.marked n (omega (arith, lt, c.loop-i.invariant.long)))
