-- One more part is written.
use Rattle.std.proofs.Common.{rules}
use Rattle.rdc_outside.proofs.SinkLemmas.{written_with-take}
use Rattle.rdc_outside.proofs.writing.write_all_of.Goals as goal

pub loop-count-preserved : goal.loop-count-preserved
loop-count-preserved g c = (
  search rules,
  written_with-take _ _ _ _ _ _ _ c.loop-count.invariant.1 c.split_at.ensures.back c.in-Ok.ensures.value,
  search rules,
)
