use Rattle.std.proofs.Common.{arith, ◌-◌, ◌∙◌}
use Rattle.proc_values.proofs.LabelLemmas.{free_more, no_free}
use Rattle.proc_values.proofs.labels.+masking.Goals as goal

pub joined_free-loop-left-init : goal.joined_free-loop-left-init
joined_free-loop-left-init t c = (c.new-all.ensures.items ∙ no_free c.args.design.now c.args.members.now, omega arith)

pub joined_free-loop-left-preserved : goal.joined_free-loop-left-preserved
joined_free-loop-left-preserved t c = (
  free_more c.args.design.now c.args.members.now (c.loop-left.left - 1) c.loop-left.left c.index-members-left.result c.loop-left.all.items c.in-Ok.part.items c.append.new.self.items
      (omega arith) c.loop-left.invariant.1 c.index-members-left.is c.loop-left.invariant.0 c.in-Ok.ensures c.in-Ok-append.ensures.items,
  omega (arith, c.loop-left.invariant.1),
)
