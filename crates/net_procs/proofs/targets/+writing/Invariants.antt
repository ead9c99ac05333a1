-- The members from the last one up to here, and those above.
use Rattle.std.proofs.Common.{◌≡◌, ◌≤◌, ◌*◌, ◌-◌, ◌^◌, drop, length}
use Rattle.net_words.proofs.BuildLemmas.{IsLeft}
use Rattle.net_procs.specs.Ready.{AreStrokes}
use Rattle.net_procs.specs.Targets.{onto_members, widths}
use Rattle.net_procs.proofs.Steps.{down}
use Rattle.net_procs.proofs.MemberSteps.{beside, member_on}
use Rattle.net_procs.proofs.targets.+writing.Given as goal

abbrev pub invariant-onto_members-loop-left : goal.invariant-onto_members-loop-left
invariant-onto_members-loop-left l = record {
  rest : IsLeft (onto_members l.design (beside l.design l.nodes l.members) l.word) l.fn.net l.net (down (member_on l.design l.nodes l.members l.word) l.left l.all.items);
  there : AreStrokes l.net l.all.items;
  longer : length l.fn.net ≤ length l.net;
  below : l.below ≡ widths l.design (beside l.design l.nodes (drop l.left l.members));
  bound : l.below ≤ 2 ^ 64 * (length l.members - l.left);
  inside : l.left ≤ length l.members;
}

abbrev pub decreases-onto_members-loop-left : goal.decreases-onto_members-loop-left
decreases-onto_members-loop-left l = l.left
