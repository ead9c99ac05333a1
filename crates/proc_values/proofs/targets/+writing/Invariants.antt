-- The members from the last one up to here.
use Rattle.std.proofs.Common.{◌≡◌, ◌≤◌, ◌*◌, ◌-◌, ◌^◌, ◌++◌, drop, length}
use Rattle.proc_values.specs.Targets.{onto_members, widths}
use Rattle.proc_values.proofs.MemberLemmas.{beside}
use Rattle.proc_values.proofs.targets.+writing.Given as goal

abbrev pub invariant-put_members-loop-left : goal.invariant-put_members-loop-left
invariant-put_members-loop-left l = record {
  written : l.out.items ≡ l.fn.out.items ++ onto_members l.design (beside l.design l.now (drop l.left l.members)) l.word;
  below : l.below ≡ widths l.design (beside l.design l.now (drop l.left l.members));
  bound : l.below ≤ 2 ^ 64 * (length l.members - l.left);
  inside : l.left ≤ length l.members;
}

abbrev pub decreases-put_members-loop-left : goal.decreases-put_members-loop-left
decreases-put_members-loop-left l = l.left
