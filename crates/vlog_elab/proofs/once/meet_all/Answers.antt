use Rattle.std.proofs.Common.{arith, get_or}
use Rattle.std.proofs.lemmas.List.{get_or_default}
use Rattle.elab_scopes.proofs.ThreadLemmas.{one_more, one_stops, all_done}
use Rattle.vlog_elab.specs.Bits.{bit_met}
use Rattle.vlog_elab.proofs.once.meet_all.Goals as goal

pub loop-number-preserved : goal.loop-number-preserved
loop-number-preserved c = one_more (bit_met c.args.design.now.signals c.args.place) c.loop-number.marks.items c.meet.new.marks.items c.args.marks.now.items c.args.numbers.now c.loop-number.number-index (get_or c.args.numbers.now c.loop-number.number-index 0) (omega arith) (get_or_default c.args.numbers.now c.loop-number.number-index 0 _ (omega arith)) c.loop-number.invariant c.in-Ok.ensures

pub returns-in-Err : goal.returns-in-Err
returns-in-Err c = one_stops (bit_met c.args.design.now.signals c.args.place) c.loop-number.marks.items c.args.marks.now.items c.in-Err.fault c.args.numbers.now c.loop-number.number-index (get_or c.args.numbers.now c.loop-number.number-index 0) (omega arith) (get_or_default c.args.numbers.now c.loop-number.number-index 0 _ (omega arith)) c.loop-number.invariant c.in-Err.ensures

pub returns : goal.returns
returns c = all_done (bit_met c.args.design.now.signals c.args.place) c.loop-number.marks.items c.args.marks.now.items c.args.numbers.now c.loop-number.number-index (omega arith) c.loop-number.invariant
