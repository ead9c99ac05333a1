use Rattle.std.proofs.Common.{◌≡◌, length, ap, ◌∙◌}
use Rattle.proc_values.specs.Runs.{Run, chosen}
use Rattle.proc_values.proofs.ChangeLemmas.{chosen_side}
use Rattle.proc_values.proofs.RunLemmas.{long_select, side_runs}
use Rattle.proc_values.proofs.sides.settle.Goals as goal

pub put_side-requires-clause-now : goal.put_side-requires-clause-now
put_side-requires-clause-now c = ap length c.in_ok-mixed.ensures.now ∙ long_select c.args.select c.args.first.now.seen.items c.args.second.now.seen.items _ c.requires.first_seen c.requires.second_seen

pub put_side-requires-clause-next : goal.put_side-requires-clause-next
put_side-requires-clause-next c = ap length c.in_ok-mixed.ensures.next ∙ long_select c.args.select c.args.first.now.becomes.items c.args.second.now.becomes.items _ c.requires.first_becomes c.requires.second_becomes

pub returns : goal.returns
returns c one other first second =
    let reads = c.args.reads.now in
    let bits = c.args.bits.now in
    let r : Run = record { now = c.args.now.now; next = c.args.next.now } in
    side_runs reads bits (chosen reads bits c.args.select one other) c.args.now.now c.args.next.now c.in_ok-mixed.mixed.seen.items c.in_ok-mixed.mixed.becomes.items c.put_side.new.now c.put_side.new.next
    (chosen_side reads bits r one other c.args.select _ _ _ _ _ _ first second c.in_ok-mixed.ensures.now c.in_ok-mixed.ensures.next) c.put_side.ensures.now c.put_side.ensures.next
