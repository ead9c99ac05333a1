use Rattle.std.proofs.Common.{arith}
use Rattle.proc_cases.proofs.CaseLemmas.{row_more, row_end}
use Rattle.proc_cases.proofs.masks.+masking.Goals as goal

pub row_of-loop-member-preserved : goal.row_of-loop-member-preserved
row_of-loop-member-preserved t c =
    row_more c.loop-member.row c.behind-row.result _ c.args.members.now c.loop-member.member-index c.member-item.result _ _ (omega arith) c.member-item.is
    c.in-Ok.ensures.value c.in-Ok-mask_of.ensures c.behind-row.ensures c.loop-member.invariant

pub row_of-returns : goal.row_of-returns
row_of-returns t c = row_end c.loop-member.row _ c.args.members.now c.loop-member.member-index (omega arith) c.loop-member.invariant
