-- All marks stay empty.
use Rattle.std.proofs.Common.{arith, ◌∙◌}
use Rattle.sat_chain.proofs.NewLemmas.{none_push_at, none_new, nothing_is}
use Rattle.sat_chain.proofs.checker.empty_marks.Goals as goal

pub loop-i-init : goal.loop-i-init
loop-i-init c = record { len = c.in_ok-marks.ensures.len; capacity = c.in_ok-marks.ensures.exact; none = none_new _ c.in_ok-marks.ensures.items }

pub loop-i-preserved : goal.loop-i-preserved
loop-i-preserved c = record {
  len = omega (arith, c.push_reserved.ensures.len, c.loop-i.invariant.len);
  capacity = c.push_reserved.ensures.capacity ∙ c.loop-i.invariant.capacity;
  none = none_push_at _ _ c.push_reserved.ensures.items c.loop-i.invariant.none;
}

pub returns-clause-emptied : goal.returns-clause-emptied
returns-clause-emptied c = nothing_is _ c.loop-i.invariant.none
