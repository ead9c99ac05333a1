use Rattle.std.proofs.Common.{refl}
use Rattle.proc_values.specs.Runs.{Run, chosen}
use Rattle.proc_values.proofs.RunLemmas.{ok_as, side_here}
use Rattle.proc_values.proofs.sides.keep.Goals as goal

pub returns : goal.returns
returns c one first =
    let reads = c.args.reads.now in
    let bits = c.args.bits.now in
    let r : Run = record { now = c.args.now.now; next = c.args.next.now } in
    ok_as reads bits (λ _. chosen reads bits c.args.select one r) (λ x. chosen reads bits c.args.select one x) c.args.now.now c.args.next.now c.settle.new.now c.settle.new.next c.settle.result refl
    (c.settle.ensures one r first (side_here reads bits c.args.now.now c.args.next.now _ _ c.in_ok-second.ensures.now c.in_ok-second.ensures.next))
